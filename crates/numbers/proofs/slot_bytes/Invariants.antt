use lib.ListN.{replicate}
use Rattle.values.proofs.Toward.{Toward}
use Rattle.numbers.proofs.Slots.{low_cells}
use Rattle.numbers.proofs.slot_bytes.Given as goal

abbrev pub invariant-loop-i : goal.invariant-loop-i
invariant-loop-i l = Toward (low_cells l.numbers l.at) (replicate 16 0) l.out l.i
