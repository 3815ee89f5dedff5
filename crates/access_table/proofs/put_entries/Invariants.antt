use Rattle.access_table.proofs.Listing.{Listing}
use Rattle.access_table.proofs.put_entries.Given as goal

abbrev pub invariant-loop-i : goal.invariant-loop-i
invariant-loop-i l = Listing l.initial.out l.table l.out l.at l.i
