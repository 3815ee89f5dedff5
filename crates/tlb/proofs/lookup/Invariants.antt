use mathlib.Core.Path.{◌≡◌}
use lib.ListN.{drop}
use Rattle.values.specs.declared.VirtualAddress.{VirtualAddress}
use Rattle.values.specs.Lists.{first_from}
use Rattle.tlb.specs.Tlb.{covers}
use Rattle.tlb.specs.Tlb as spec
use Rattle.tlb.specs.Packing.{entries_of}
use Rattle.tlb.specs.Keyed.{keys_of}
use Rattle.tlb.proofs.lookup.Given as goal

abbrev pub invariant-loop-i : goal.invariant-loop-i
invariant-loop-i l =
    (va : VirtualAddress) → l.k ≡ keys_of va → first_from (covers va) l.i (drop l.i (entries_of l.entries)) ≡ spec.lookup (entries_of l.entries) va
