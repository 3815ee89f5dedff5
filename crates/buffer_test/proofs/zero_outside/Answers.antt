use native.Mathlib.Omega.{arith}
use mathlib.Core.Path.{refl, sym, ◌∙◌}
use Rattle.soundness.proofs.Slots.{outside_no, outside_on, outside_end}
use Rattle.buffer_test.proofs.zero_outside.Goals as goal

pub loop-x-init : goal.loop-x-init
loop-x-init c = refl

pub loop-x-preserved : goal.loop-x-preserved
loop-x-preserved c = let a = c.args in
    let l = c.loop-x in
    sym (outside_on l.rest a.b l.x-index (omega arith) (sym c.byte_sound.ensures ∙ c.if-not-byte_sound.false)) ∙ l.invariant

pub returns-then-not-byte_sound : goal.returns-then-not-byte_sound
returns-then-not-byte_sound c = let a = c.args in
    let l = c.loop-x in
    sym (outside_no l.rest a.b l.x-index (omega arith) (sym c.byte_sound.ensures ∙ c.if-not-byte_sound.true)) ∙ l.invariant

pub returns : goal.returns
returns c = let a = c.args in
    let l = c.loop-x in
    sym (outside_end l.rest a.b l.x-index (omega arith)) ∙ l.invariant
