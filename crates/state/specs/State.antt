-- The state that a user holds, by value, and the machine that it makes with the record, memory, map and cache store.
use Rattle.std.specs.Prelude.{ℕ, List, map}
use Rattle.values.specs.declared.Cp15.{Cp15}
use Rattle.machine.specs.Machine.{Machine}
use Rattle.machine.specs.Lists.{machine_of, lists}
use Rattle.machine.specs.Scalars.{scalars_from}
use Rattle.step.specs.Start as starts
use Rattle.state.specs.declared.SlotBytes.{SlotBytes}
use Rattle.state.specs.declared.State.{State}
use Rattle.state.specs.declared.Started.{Started}

-- the bytes of the write buffer's places
abbrev pub bytes_of : List SlotBytes → List (List ℕ)
bytes_of slots = map (λ (s : SlotBytes). s.bytes) slots

abbrev pub machine_in : List ℕ → List ℕ → List ℕ → State → Cp15 → Machine
machine_in memory bad store s r =
    machine_of
    (lists memory bad s.words (bytes_of s.slots) s.lines s.pointers store)
    s.entries
    (scalars_from r s.counts s.used)
    s.size

-- what a start leaves, with the lent bytes and a map
abbrev pub started_of : List ℕ → List ℕ → List ℕ → Started → starts.Started
started_of memory bad store r = starts.started_from (machine_in memory bad store r.state r.cp15) r.refusal
