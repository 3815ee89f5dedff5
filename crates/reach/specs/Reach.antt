-- "An access, step by step": alignment, translation and rights are decided, and then the TLB and the misses change.
use Rattle.std.specs.Prelude.{ℕ, Result}
use Rattle.values.specs.Registers.{with_pointer_of}
use Rattle.values.specs.declared.VirtualAddress.{VirtualAddress}
use Rattle.values.specs.declared.Access.{Access}
use Rattle.values.specs.declared.Fault.{Fault}
use Rattle.values.specs.declared.Status.{Status}
use Rattle.values.specs.declared.Answer.TheVariants as answer
use Rattle.translation.specs.Alignment.{cleared}
use Rattle.translation.specs.Translation.{translation, decided, entries_after, pointer_after, counts_after}
use Rattle.translation.specs.Faults.{fault_set}
use Rattle.translation.specs.declared.Translation.{Translation}
use Rattle.translation.specs.declared.Decision.{Decision}
use Rattle.machine.specs.Machine.{Machine, physical_of, with_cp15, with_registers, with_entries, with_counts, Stepped, stepped_from}
use Rattle.values.specs.declared.Cause.{Cause}

-- which mapping serves, from TLB or walk, and whether alignment, translation and rights pass: nothing changes
unfoldable pub decision : Machine → Access → Decision
decision m a = let r = m.cp15.registers in decided r a (translation m.entries r (physical_of m) (cleared a))

-- the machine once TLB and misses have changed
unfoldable pub committed : Machine → Result Translation Cause → Machine
committed m t =
    let pointer = m.cp15.pointer in
    with_counts (with_entries (with_cp15 m (with_pointer_of m.cp15 (pointer_after pointer t))) (entries_after m.entries pointer t))
    (counts_after m.counts t)

-- "A fault sets FSR, and FAR to the address given. Of the rest only the TLB and counts may change.": a fill's abort gets a machine whose line has given
-- way, document 02, Five
unfoldable pub faulted : Machine → Status → ℕ → VirtualAddress → Stepped
faulted m s d address =
    let f : Fault = record { status = s; domain = d; address = address } in
    stepped_from (with_registers m (fault_set m.cp15.registers f)) (answer.Fault f)
