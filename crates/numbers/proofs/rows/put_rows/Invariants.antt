use Rattle.std.proofs.Common.{◌≡◌, ℕ, List, ◌+◌, ◌*◌, ◌-◌, ◌<◌}
use Rattle.printed.specs.Code.{over}
use Rattle.numbers.specs.Code.{rows_from}
use Rattle.numbers.proofs.rows.put_rows.Given as goal

abbrev pub invariant-loop-i : goal.invariant-loop-i
invariant-loop-i g l =
    (l.at ≡ l.from + l.i * l.width)
    × ((rows : ℕ → List ℕ) → ((i : ℕ) (r : _) → i < l.n → goal.F-post g l.row i r → g.R.AsSlice.items r ≡ rows i)
    → over l.numbers l.at (rows_from rows l.i (l.n - l.i)) ≡ over l.initial.numbers l.from (rows_from rows 0 l.n))
