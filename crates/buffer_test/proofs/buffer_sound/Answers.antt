use native.Mathlib.Omega.{arith}
use Prim.Native.Nat.{ℕ}
use mathlib.Core.Path.{◌≡◌, sym, ◌∙◌, subst}
use Rattle.soundness.proofs.Slots.{Held, held_none, held_on, too_many, places_held, place_bad}
use Rattle.buffer_test.proofs.buffer_sound.Goals as goal

pub returns-then-used-gt8 : goal.returns-then-used-gt8
returns-then-used-gt8 c = let a = c.args in sym (too_many a.n a.used a.words.now a.bytes.now c.if-used-gt8.true)

pub loop-i-init : goal.loop-i-init
loop-i-init c = let a = c.args in held_none a.n a.used a.words.now a.bytes.now

pub loop-i-preserved : goal.loop-i-preserved
loop-i-preserved c = let a = c.args in
    let l = c.loop-i in
    held_on a.n a.used a.words.now a.bytes.now l.i l.invariant (sym c.place_sound.ensures ∙ c.if-not-place_sound.false)

pub returns-then-not-place_sound : goal.returns-then-not-place_sound
returns-then-not-place_sound c = let a = c.args in
    let l = c.loop-i in
    sym (place_bad a.n a.used a.words.now a.bytes.now c.requires.0 c.requires.1 c.if-used-gt8.false l.i (omega arith)
    (sym c.place_sound.ensures ∙ c.if-not-place_sound.true))

pub returns : goal.returns
returns c = let a = c.args in
    let l = c.loop-i in
    let e : l.i ≡ 8 = omega arith in
    sym (places_held a.n a.used a.words.now a.bytes.now c.requires.0 c.requires.1 c.if-used-gt8.false
    (subst (λ (k : ℕ). Held a.n a.used a.words.now a.bytes.now k) e l.invariant))
