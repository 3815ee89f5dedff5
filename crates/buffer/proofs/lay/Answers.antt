use Rattle.buffer.specs.Buffer.{laid}
use Rattle.buffer.proofs.Laying.{lay_more, lay_done}
use mathlib.Core.Path.{◌≡◌, sym, ◌∙◌, ap}
use borrow.Author.Rules.{rules}
use native.Mathlib.Omega.{arith}
use lib.ListN.{length, drop}
use mathlib.Core.List.{List}
use Prim.Native.Nat.{ℕ, ◌+◌, ◌/◌}
use Rattle.buffer.proofs.lay.Goals as goal

pub loop-i-preserved : goal.loop-i-preserved
loop-i-preserved c = let a = c.args in
    let l = c.loop-i in
    let n : length a.bytes ≡ 16 = search rules in (
      c.lay_one.auto.memory ∙ l.invariant.0,
      ap (λ (m : List ℕ). laid m (a.at + (l.i + 1)) (l.left / 2) (drop (l.i + 1) a.bytes)) c.lay_one.ensures
          ∙ sym (lay_more a.bytes l.memory a.at l.left l.i (omega (arith, c.loop-i-test.true))) ∙ l.invariant.1,
    )

pub returns : goal.returns
returns c = let a = c.args in
    let l = c.loop-i in
    let n : length a.bytes ≡ 16 = search rules in
    sym (lay_done a.bytes l.memory a.at l.left l.i (omega (arith, c.loop-i-test.false))) ∙ l.invariant.1
