use Rattle.std.proofs.Common.{ℕ, ◌<◌, get_or}
use Rattle.numbers.proofs.rows.set_each.Given as goal

abbrev pub invariant-loop-i : goal.invariant-loop-i
invariant-loop-i g l = (k : ℕ) (d : _) → k < l.i → goal.F-post g l.of k (get_or l.things k d)
