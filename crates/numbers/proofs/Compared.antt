-- A row of a list, by its place.
use Prim.Native.Nat.{ℕ, ◌+◌, ◌*◌, ◌≤◌}
use mathlib.Core.Path.{◌≡◌, ◌∙◌, ap}
use mathlib.Core.List.{List}
use lib.ListN.{length}
use Rattle.numbers.specs.Code.{part}
use Rattle.numbers.proofs.Cells.{part_cells, cells_long}

-- the part of a row's length from a row's place on
pub part_at : (ns : List ℕ) (from width at i : ℕ) → at ≡ from + i * width → (row : List ℕ) → length row ≡ width
    → part ns at (length row) ≡ part ns (from + i * width) width
part_at ns from width at i place row wide = ap (λ (k : ℕ). part ns at k) wide ∙ ap (λ (k : ℕ). part ns k width) place

-- how long a part is
pub part_long : (ns : List ℕ) (at n : ℕ) → at + n ≤ length ns → length (part ns at n) ≡ n
part_long ns at n h = ap length (part_cells n ns at h) ∙ cells_long n ns at
