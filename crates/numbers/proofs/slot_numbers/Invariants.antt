use lib.ListN.{replicate}
use mathlib.Core.List.{[], ◌∷◌, ◌++◌}
use Rattle.values.proofs.Toward.{Toward}
use Rattle.numbers.proofs.Cells.{cells}
use Rattle.numbers.proofs.slot_numbers.Given as goal

abbrev pub invariant-loop-i : goal.invariant-loop-i
invariant-loop-i l = Toward (cells 16 l.bytes 0 ++ 0 ∷ 0 ∷ []) (replicate 18 0) l.out l.i
