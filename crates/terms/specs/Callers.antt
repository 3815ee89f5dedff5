-- Terms 1 and 2 for whoever calls the code: what `sa110::start`, `sa110::call` and `sa110::run` give and leave, by their contracts alone, in words of
-- the state, numbers of the record and lent bytes.
use Rattle.std.specs.Prelude.{ℕ, ◌<◌, Bool, true, false, ◌||◌, ◌↔◌, ◌≡◌, List, eqb, get_or, Result, Ok, Err}
use Rattle.values.specs.Answers.{fsr_of, status_of}
use Rattle.values.specs.Registers.{zero_cp15}
use Rattle.values.specs.Rows.{Row}
use Rattle.values.specs.declared.Cp15.{Cp15}
use Rattle.values.specs.declared.Fault.{Fault}
use Rattle.values.specs.declared.VirtualAddress.{VirtualAddress}
use Rattle.values.specs.declared.Status.{Status}
use Rattle.values.specs.declared.Call.{Call}
use Rattle.values.specs.declared.Call.TheVariants.{Read, Write}
use Rattle.values.specs.declared.Call.TheVariants as calls
use Rattle.values.specs.declared.Answer.TheVariants as answer
use Rattle.cache.specs.Dcache.{Side, gave_way}
use Rattle.translation.specs.Alignment.{cleared}
use Rattle.translation.specs.Translation.{translation, flat_place, place_of}
use Rattle.translation.specs.declared.Translation.{Translation}
use Rattle.translation.specs.declared.Translation.TheVariants.{Flat, Held, Walked}
use Rattle.translation.specs.declared.Place.{Place}
use Rattle.machine.specs.Machine.{Machine, physical_of}
use Rattle.step.specs.Meets.{start_meets, start_refusal, meets, refusal}
use Rattle.step.specs.Start.{started}
use Rattle.step.specs.Call.{served}
use Rattle.step.specs.Run.{run}
use Rattle.sa110.specs.State.{machine_in, called_of, ran_of, started_of}
use Rattle.state.specs.Held.{EightPlaces, SameSide, SameHeld, zero_state}
use Rattle.state.specs.declared.State.{State}
use Rattle.sa110.specs.declared.Called.{Called}
use Rattle.sa110.specs.declared.Ran.{Ran}
use Rattle.state.specs.declared.Started.{Started}
use Rattle.values.specs.declared.Cause.{Cause}

-- ---- the contracts

-- of `sa110::start`, which is lent memory and store to read alone: it returned `r`; whatever map later calls are lent
abbrev pub Starts : List ℕ → List ℕ → Started → Type 0
Starts memory store r = (bad : List ℕ) → started_of memory bad store r ≡ started memory bad store

-- of `sa110::call` on a state, a record, memory, map and store: it returned `r`, and left the lent memory and store as `memory₁` and `store₁`
abbrev pub Calls : List ℕ → List ℕ → List ℕ → State → Cp15 → Call → List ℕ → List ℕ → Called → Type 0
Calls memory bad store s q c memory₁ store₁ r = called_of memory₁ bad store₁ r ≡ served (machine_in memory bad store s q) c

-- of `sa110::run` over a list of calls and a list for answers, which it left as `answers₁`
abbrev pub Runs : List ℕ → List ℕ → List ℕ → State → Cp15 → List ℕ → List ℕ → List ℕ → List ℕ → List ℕ → Ran → Type 0
Runs memory bad store s q list answers memory₁ store₁ answers₁ r = ran_of memory₁ bad store₁ answers₁ r ≡ run (machine_in memory bad store s q) list answers

-- with the lengths of the write buffer's arrays, as their types say
pub record CodeStart (memory store : List ℕ) (r : Started) : Type 0 where
  pub places : EightPlaces r.state
  pub starts : Starts memory store r

pub record CodeCall (memory bad store : List ℕ) (s : State) (q : Cp15) (c : Call) (memory₁ store₁ : List ℕ) (r : Called) : Type 0 where
  pub places : EightPlaces s
  pub places_after : EightPlaces r.state
  pub calls : Calls memory bad store s q c memory₁ store₁ r

pub record CodeRuns (memory bad store : List ℕ) (s : State) (q : Cp15) (list answers memory₁ store₁ answers₁ : List ℕ) (r : Ran) : Type 0 where
  pub places_after : EightPlaces r.state
  pub runs : Runs memory bad store s q list answers memory₁ store₁ answers₁ r

-- ---- term 1: "refused by that number and changes nothing"

-- a refused call leaves every word of the state, every number of the record and every lent byte as it was, and answers the number of its refusal
abbrev pub RefusedCallWords : Type 0
RefusedCallWords =
    (memory bad store : List ℕ) (s : State) (q : Cp15) (c : Call) (memory₁ store₁ : List ℕ) (r : Called)
    → CodeCall memory bad store s q c memory₁ store₁ r → (refusal (machine_in memory bad store s q) c ≡ 0 → ⊥)
    → SameHeld memory₁ store₁ r.state r.cp15 memory store s q × (r.answer ≡ answer.Refused (refusal (machine_in memory bad store s q) c))

-- a refused start gives a state and a record all zeros, and the number of its refusal
abbrev pub RefusedStartZeros : Type 0
RefusedStartZeros =
    (memory store : List ℕ) (r : Started) → CodeStart memory store r → (start_refusal memory store ≡ 0 → ⊥)
    → (r.state ≡ zero_state 0) × (r.cp15 ≡ zero_cp15) × (r.refusal ≡ start_refusal memory store)

-- ---- term 1: the table of refusals, in checking order

-- behind a table's end no row is met
abbrev pub no_row : Row ℕ
no_row = record { met = false; gives = 0 }

-- a row that is met, the number that it gives, and no row before it met
pub record FirstRow (rows : List (Row ℕ)) (n : ℕ) : Type 0 where
  pub row : ℕ
  pub is_met : (get_or rows row no_row).met ≡ true
  pub gives_it : (get_or rows row no_row).gives ≡ n
  pub none_before : (i : ℕ) → i < row → (get_or rows i no_row).met ≡ false

-- a call is refused by n exactly where n is the number of the first row met, of those that the call meets
abbrev pub CallTable : Type 0
CallTable =
    (memory bad store : List ℕ) (s : State) (q : Cp15) (c : Call) (memory₁ store₁ : List ℕ) (r : Called)
    → CodeCall memory bad store s q c memory₁ store₁ r → (n : ℕ) → (r.answer ≡ answer.Refused n) ↔ FirstRow (meets (machine_in memory bad store s q) c) n

-- a start too; it gives 0 where it is served
abbrev pub StartTable : Type 0
StartTable =
    (memory store : List ℕ) (r : Started) → CodeStart memory store r → (n : ℕ)
    → ((r.refusal ≡ n) × (n ≡ 0 → ⊥)) ↔ FirstRow (start_meets memory store) n

-- ---- term 1: "always the same for the same contents"

-- the same call on the same contents gives the same answer and leaves the same, to the word and the byte
abbrev pub SameCalls : Type 0
SameCalls =
    (memory bad store : List ℕ) (s : State) (q : Cp15) (c : Call)
    → (memory₁ store₁ : List ℕ) (r₁ : Called) → CodeCall memory bad store s q c memory₁ store₁ r₁
    → (memory₂ store₂ : List ℕ) (r₂ : Called) → CodeCall memory bad store s q c memory₂ store₂ r₂
    → SameHeld memory₁ store₁ r₁.state r₁.cp15 memory₂ store₂ r₂.state r₂.cp15 × (r₁.answer ≡ r₂.answer)

-- and so does the same run
abbrev pub SameRuns : Type 0
SameRuns =
    (memory bad store : List ℕ) (s : State) (q : Cp15) (list answers : List ℕ)
    → (memory₁ store₁ answers₁ : List ℕ) (r₁ : Ran) → CodeRuns memory bad store s q list answers memory₁ store₁ answers₁ r₁
    → (memory₂ store₂ answers₂ : List ℕ) (r₂ : Ran) → CodeRuns memory bad store s q list answers memory₂ store₂ answers₂ r₂
    → SameHeld memory₁ store₁ r₁.state r₁.cp15 memory₂ store₂ r₂.state r₂.cp15 × (answers₁ ≡ answers₂) × (r₁.made ≡ r₂.made)

-- ---- term 2: "A fault sets FSR, and FAR to the address given. Of the rest only the TLB and counts may change." Document 02, Five, of a fill's abort:
-- "Either way the old line has already given way, the pointer has stepped and any drain is done, the place stays empty, the cache store keeps its bytes"

-- 4 and 6
abbrev pub on_fill : Status → Bool
on_fill s = eqb (status_of s) 4 || eqb (status_of s) 6

-- the place that a mapping gives
abbrev pub place_by : VirtualAddress → Result Translation Cause → Place
place_by va (Ok Flat) = flat_place va
place_by va (Ok (Held e)) = place_of e va
place_by va (Ok (Walked e)) = place_of e va
place_by va (Err why) = flat_place va

-- what a fill's abort leaves of Dcache, write buffer and memory
abbrev pub side_aborted : Machine → Call → Side
side_aborted m (calls.Access a) =
    (gave_way m.side (cleared a) (place_by (cleared a) (translation m.entries m.cp15.registers (physical_of m) (cleared a))).address).side
side_aborted m (Read t) = m.side
side_aborted m (Write t v) = m.side

pub record FaultHeld (f : Fault) (c : Call) (memory₁ store₁ : List ℕ) (s₁ : State) (q₁ : Cp15) (memory bad store : List ℕ) (s : State) (q : Cp15)
    : Type 0 where
  pub sets_fsr : q₁.registers.fsr ≡ fsr_of f
  pub sets_far : q₁.registers.far ≡ f.address.0
  -- memory, cache store, and the words of the Dcache and the write buffer; but for a fill's abort
  pub same_side : on_fill f.status ≡ false → SameSide memory₁ store₁ s₁ memory store s
  pub fill_side : on_fill f.status ≡ true → (machine_in memory₁ bad store₁ s₁ q₁).side ≡ side_aborted (machine_in memory bad store s q) c
  pub same_size : s₁.size ≡ s.size
  pub same_control : q₁.registers.control ≡ q.registers.control
  pub same_base : q₁.registers.base ≡ q.registers.base
  pub same_domains : q₁.registers.domains ≡ q.registers.domains

-- what is left of state and record, TLB, TLB pointer and counts, may change
abbrev pub FaultLeaves : Type 0
FaultLeaves =
    (memory bad store : List ℕ) (s : State) (q : Cp15) (c : Call) (memory₁ store₁ : List ℕ) (r : Called)
    → CodeCall memory bad store s q c memory₁ store₁ r → (f : Fault) → r.answer ≡ answer.Fault f
    → FaultHeld f c memory₁ store₁ r.state r.cp15 memory bad store s q

-- ---- term 1 of the code

pub record CodeTerm1 : Type 0 where
  pub refused_call : RefusedCallWords
  pub refused_start : RefusedStartZeros
  pub call_table : CallTable
  pub start_table : StartTable
  pub same_calls : SameCalls
  pub same_runs : SameRuns
