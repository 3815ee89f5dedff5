use Rattle.std.proofs.Common.{rules, ◌≡◌, subst, ℕ, replicate, arith}
use Rattle.values.proofs.Toward.{Toward}
use Rattle.numbers.proofs.Slots.{low_cells, low_step, low_filled}
use Rattle.numbers.proofs.slot_bytes.Goals as goal

pub loop-i-preserved : goal.loop-i-preserved
loop-i-preserved c = let l = c.loop-i in
    let a = c.args in
    low_step a.numbers.now a.at l.out l.i (search rules) l.invariant

pub returns : goal.returns
returns c = let l = c.loop-i in
    let a = c.args in
    let e : l.i ≡ 16 = omega arith in
    low_filled a.numbers.now a.at l.out (search rules)
    (subst (λ (k : ℕ). Toward (low_cells a.numbers.now a.at) (replicate 16 0) l.out k) e l.invariant)
