use Rattle.std.proofs.Common.{◌≡◌, ℕ, ◌+◌, ◌*◌, ◌<◌}
use Rattle.numbers.specs.Code.{part}
use Rattle.numbers.proofs.rows.same_rows.Given as goal

abbrev pub invariant-loop-i : goal.invariant-loop-i
invariant-loop-i g l =
    (l.at ≡ l.from + l.i * l.width)
    × ((k : ℕ) → k < l.i → (r : _) × goal.F-post g l.row k r × (g.R.AsSlice.items r ≡ part l.numbers (l.from + k * l.width) l.width))
