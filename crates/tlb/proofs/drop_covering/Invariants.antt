use Rattle.values.proofs.InPlace.{Upto}
use Rattle.tlb.specs.Tlb.{kept_of}
use Rattle.tlb.specs.Packing.{entries_of}
use Rattle.tlb.proofs.drop_covering.Given as goal

abbrev pub invariant-loop-w : goal.invariant-loop-w
invariant-loop-w l = Upto (kept_of l.va) (entries_of l.initial.w-items) (entries_of l.w-items) l.w-index
