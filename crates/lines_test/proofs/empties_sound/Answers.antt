use native.Mathlib.Omega.{arith}
use mathlib.Core.Bool.{Bool, ◌&&◌}
use mathlib.Core.Path.{sym, ◌∙◌, ap}
use lib.Bits.{bit_or}
use lib.Dec.{eqb}
use lib.ListN.{get_or}
use Rattle.soundness.proofs.Lines.{whole, joined_on, joined_end, part_whole, or_is_zero}
use Rattle.lines_test.proofs.empties_sound.Goals as goal

pub loop-w-preserved : goal.loop-w-preserved
loop-w-preserved c = let a = c.args in
    let l = c.loop-w in
    let w = get_or a.lines.now l.w-index 0 in
    let r = c.even_part-stray.result in
    let e = or_is_zero l.stray r ∙ ap (λ (x : Bool). eqb l.stray 0 && x) (part_whole w r c.even_part-stray.ensures) in
    joined_on whole a.lines.now l.w-index (eqb l.stray 0) (eqb (bit_or l.stray r) 0) (omega arith) l.invariant e

pub returns : goal.returns
returns c = let a = c.args in
    let l = c.loop-w in
    sym (joined_end whole a.lines.now l.w-index (eqb l.stray 0) (omega arith) l.invariant)
