-- Any use of the library: single calls and runs in any order over a lent state and record, each on what the last left, from a start. What each
-- exported function gives and leaves is known by its contract alone.
use Rattle.std.specs.Prelude.{ℕ, true, cond, ◌≡◌, List, [], ◌∷◌, ◌++◌, map, length, take}
use Rattle.values.specs.declared.Cp15.{Cp15}
use Rattle.values.specs.declared.Call.{Call}
use Rattle.words.specs.Words.{Bytes}
use Rattle.trace.specs.Calls.{is_call, call_of}
use Rattle.trace.specs.Codes.{code_of}
use Rattle.machine.specs.Machine.{Machine}
use Rattle.step.specs.Start.{started}
use Rattle.step.specs.Call.{Is32}
use Rattle.step.specs.Run as runs
use Rattle.sa110.specs.State.{machine_in, ran_of, started_of}
use Rattle.state.specs.declared.State.{State}
use Rattle.plain.specs.Plain.{plain_start, plain_answers}
use Rattle.plain.specs.Run.{plain_run}
use Rattle.lent.specs.Coded.{called_by, answered_of}
use Rattle.host.specs.Exports.{plain_ran_of}
use Rattle.host.specs.declared.PlainRan.{PlainRan}
use Rattle.terms.specs.Positions.{keeps_rules, settled_line, settled}
use Rattle.terms.specs.Term3.{plain, SameLine}
use Rattle.terms.specs.Corollaries.{All32, calls_made}

-- what a caller holds and lends
pub record Lent : Type 0 where
  pub memory : List ℕ
  pub bad : List ℕ
  pub store : List ℕ
  pub state : State
  pub cp15 : Cp15

abbrev pub machine : Lent → Machine
machine l = machine_in l.memory l.bad l.store l.state l.cp15

-- the contract of `sa110_start`, which is lent no map: on memory and store it gave n, and the caller holds what it wrote, with any map
abbrev pub Starts : Lent → ℕ → Type 0
Starts l n =
    (bad : List ℕ) → started_of l.memory bad l.store (record { state = l.state; cp15 = l.cp15; refusal = n }) ≡ started l.memory bad l.store

-- ---- a use

-- `sa110_call` with five numbers: the code that it answers, and what the caller holds after it. `sa110_run` with a list of calls and a list for
-- answers: that list after it, the number of calls made, and what the caller holds after it.
pub data Use : Type 0 where
  one : (kind privileged n a v code : ℕ) → Lent → Use
  many : (list answers answers₁ : List ℕ) → (made : ℕ) → Lent → Use

abbrev pub left : Use → Lent
left (one kind privileged n a v code k) = k
left (many list answers answers₁ made k) = k

-- the contract of `sa110_call`, and of `sa110_run`, on what the caller held
abbrev pub Meets : Lent → Use → Type 0
Meets l (one kind privileged n a v code k) =
    answered_of k.memory k.bad k.store (record { state = k.state; cp15 = k.cp15; code = code }) ≡ called_by (machine l) kind privileged n a v
Meets l (many list answers answers₁ made k) =
    ran_of k.memory k.bad k.store answers₁ (record { state = k.state; cp15 = k.cp15; made = made }) ≡ runs.run (machine l) list answers

-- the numbers passed have 32 bits, as their types in code say
abbrev pub Fits32 : Use → Type 0
Fits32 (one kind privileged n a v code k) = Is32 a × Is32 v
Fits32 (many list answers answers₁ made k) = All32 list

-- the calls that it makes: none for numbers that are no call
abbrev pub calls_by : Use → List Call
calls_by (one kind privileged n a v code k) = cond (is_call kind privileged) (call_of kind privileged n a v ∷ []) []
calls_by (many list answers answers₁ made k) = calls_made list answers

-- and their codes
abbrev pub codes_by : Use → List ℕ
codes_by (one kind privileged n a v code k) = cond (is_call kind privileged) (code ∷ []) []
codes_by (many list answers answers₁ made k) = take made answers₁

-- ---- a chain of uses

-- R1: "each call gets state, record, memory and store as the last left them, changed by these calls only"; the map too, which is "unchanged through a
-- run"
unfoldable pub Chain : Lent → List Use → Type 0
Chain l [] = Unit {0}
Chain l (u ∷ us) = (Meets l u × Fits32 u) × Chain (left u) us

-- all calls, all codes, and what the caller holds at the end
unfoldable pub calls_of : List Use → List Call
calls_of [] = []
calls_of (u ∷ us) = calls_by u ++ calls_of us

unfoldable pub codes_of : List Use → List ℕ
codes_of [] = []
codes_of (u ∷ us) = codes_by u ++ codes_of us

unfoldable pub last_of : Lent → List Use → Lent
last_of l [] = l
last_of l (u ∷ us) = last_of (left u) us

-- from a start that `sa110_start` served, a chain whose calls keep the rules
pub record Used (l : Lent) (us : List Use) : Type 0 where
  pub memory_bytes : Bytes l.memory
  pub store_bytes : Bytes l.store
  pub starts : Starts l 0
  pub chain : Chain l us
  pub keeps : keeps_rules l.memory l.bad (calls_of us) ≡ true

-- ---- term 3 of any use

-- all codes put together are the plain machine's; so are the five registers and the count of calls; so is each settled line, and all of memory where
-- it is settled
pub record SameUses (l : Lent) (us : List Use) : Type 0 where
  pub same_codes : codes_of us ≡ map code_of (plain_answers (plain_start l.memory l.bad) (calls_of us))
  pub same_registers : (last_of l us).cp15.registers ≡ (plain l.memory l.bad (calls_of us)).registers
  pub same_calls : (last_of l us).state.counts.calls ≡ (plain l.memory l.bad (calls_of us)).calls
  pub same_line : (k : ℕ) → settled_line l.memory l.bad (calls_of us) k ≡ true
      → SameLine (last_of l us).memory (plain l.memory l.bad (calls_of us)).memory k
  pub same_memory : settled l.memory l.bad (calls_of us) ≡ true → (last_of l us).memory ≡ (plain l.memory l.bad (calls_of us)).memory

abbrev pub UsesAgree : Type 0
UsesAgree = (l : Lent) (us : List Use) → Used l us → SameUses l us

-- the contract of `sa110_plain_run`: on memory, a map, a list of calls and a list for answers it answered p, and left memory and answers as these
abbrev pub PlainRuns : List ℕ → List ℕ → List ℕ → List ℕ → List ℕ → List ℕ → PlainRan → Type 0
PlainRuns memory bad list answers memory₂ answers₂ p = plain_ran_of memory₂ bad answers₂ p ≡ plain_run memory bad list answers

-- it ran on the start's memory and map, over a list of the same calls
pub record PlainUse (l : Lent) (us : List Use) (list answers memory₂ answers₂ : List ℕ) (p : PlainRan) : Type 0 where
  pub same_list : calls_made list answers ≡ calls_of us
  pub runs : PlainRuns l.memory l.bad list answers memory₂ answers₂ p

-- what it answers and leaves is what the uses answer and leave
pub record SameExports (l : Lent) (us : List Use) (memory₂ answers₂ : List ℕ) (p : PlainRan) : Type 0 where
  pub served : p.refusal ≡ 0
  pub same_made : p.made ≡ length (calls_of us)
  pub same_codes : codes_of us ≡ take p.made answers₂
  pub same_registers : (last_of l us).cp15.registers ≡ p.registers
  pub same_calls : (last_of l us).state.counts.calls ≡ p.calls
  pub same_line : (k : ℕ) → settled_line l.memory l.bad (calls_of us) k ≡ true → SameLine (last_of l us).memory memory₂ k
  pub same_memory : settled l.memory l.bad (calls_of us) ≡ true → (last_of l us).memory ≡ memory₂

abbrev pub ExportsAgree : Type 0
ExportsAgree =
    (l : Lent) (us : List Use) → Used l us → (list answers memory₂ answers₂ : List ℕ) (p : PlainRan)
    → PlainUse l us list answers memory₂ answers₂ p → SameExports l us memory₂ answers₂ p
