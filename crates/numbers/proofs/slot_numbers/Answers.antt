use borrow.Author.Rules.{rules}
use native.Mathlib.Omega.{arith}
use mathlib.Core.Path.{◌≡◌, sym, ◌∙◌, subst}
use Prim.Native.Nat.{ℕ}
use lib.ListN.{length, replicate}
use mathlib.Core.List.{[], ◌∷◌, ◌++◌}
use Rattle.buffer.specs.Packing.{slot_of}
use Rattle.values.proofs.Toward.{Toward}
use Rattle.numbers.proofs.Cells.{cells}
use Rattle.numbers.proofs.Slots.{slot_step, slot_filled, slot_array, slot_numbers_are}
use Rattle.numbers.proofs.slot_numbers.Goals as goal

pub loop-i-preserved : goal.loop-i-preserved
loop-i-preserved c = let l = c.loop-i in
    let a = c.args in
    let n : length a.bytes ≡ 16 = search rules in
    rw c.from.ensures (slot_step a.bytes l.out l.i n (search rules) l.invariant)

pub returns : goal.returns
returns c = let l = c.loop-i in
    let a = c.args in
    let n : length a.bytes ≡ 16 = search rules in
    let e : l.i ≡ 16 = omega arith in
    slot_array l.out a.bytes _ _ (slot_filled a.bytes l.out (subst (λ (k : ℕ). Toward (cells 16 a.bytes 0 ++ 0 ∷ 0 ∷ []) (replicate 18 0)
    l.out k) e l.invariant))
    ∙ sym (slot_numbers_are (slot_of a.w a.bytes))
