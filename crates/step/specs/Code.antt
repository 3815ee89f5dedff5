-- What the code of the library's calls asks of the lent lists, and what it leaves.
use Rattle.std.specs.Prelude.{ℕ, ◌≡◌, true, List, length}
use Rattle.machine.specs.Machine.{Machine, memory_of, bad_of}
use Rattle.machine.specs.Lists.{Lists, machine_of, stepped_of}
use Rattle.machine.specs.declared.Outcome.{Outcome}
use Rattle.machine.specs.declared.Scalars.{Scalars}
use Rattle.refusals.specs.Refusals.{map_fits}
use Rattle.rights.specs.Rights.{rights_table}
use Rattle.soundness.specs.Soundness.{sound}
use Rattle.soundness_test.specs.Formed.{Formed}
use Rattle.values.specs.declared.Call.{Call}
use Rattle.step.specs.Call.{served}

-- a machine whose state refuses no call: refusals 1 to 4 and 16 do not hold, and the lists have their lengths
pub record Serves (m : Machine) : Type 0 where
  pub formed : Formed m
  pub is_sound : sound m ≡ true
  pub size : m.size ≡ length (memory_of m)
  pub map_fits_lem : map_fits (length (memory_of m)) (bad_of m) ≡ true

-- what the code of a call asks of the table of rights, the lent lists and the scalars
abbrev pub Ready : List ℕ → Lists → List ℕ → Scalars → Type 0
Ready table l entries s =
    (table ≡ rights_table) × (length l.words ≡ 8) × (length l.bytes ≡ 8) × Serves (machine_of l entries s (length l.memory))

-- the lists, the TLB's entries and the outcome that a call leaves are those of the step
abbrev pub Steps : Lists → List ℕ → Scalars → Call → Lists → List ℕ → Outcome → Type 0
Steps l entries s c after entries_after r =
    (stepped_of after entries_after (length l.memory) r ≡ served (machine_of l entries s (length l.memory)) c) × (length after.bytes ≡ 8)
