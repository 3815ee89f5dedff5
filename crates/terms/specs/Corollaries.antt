-- What follows from term 3 for whoever calls the code: of a run over lent lists, of two cache stores, and of memory once every line stored to
-- has been cleaned and the buffer drained.
use Rattle.std.specs.Prelude.{ℕ, ◌+◌, ◌*◌, ◌/◌, ◌<◌, ◌≤◌, min, true, ◌≡◌, List, [], ◌∷◌, ◌++◌, map, eqb, length, get_or}
use Rattle.values.specs.Lists.{any}
use Rattle.values.specs.Counts.{count_limit}
use Rattle.values.specs.declared.Call.{Call}
use Rattle.values.specs.declared.Call.TheVariants.{Write}
use Rattle.words.specs.Words.{Bytes}
use Rattle.trace.specs.Fold.{calls_in}
use Rattle.step.specs.Meets.{start_refusal}
use Rattle.refusals.specs.Refusals.{map_fits}
use Rattle.step.specs.Start.{started}
use Rattle.step.specs.Call.{Is32}
use Rattle.step.specs.Run.{answers, final, run}
use Rattle.state.specs.declared.Started.{Started}
use Rattle.sa110.specs.declared.Ran as library
use Rattle.plain.specs.Plain.{plain_start, plain_final}
use Rattle.plain.specs.Run.{plain_run}
use Rattle.plain.specs.Code.{plain_left}
use Rattle.plain.specs.declared.Ran as plain
use Rattle.terms.specs.History.{History, no_history, history_after}
use Rattle.terms.specs.Rules.{is_stored, Keeps, Settled}
use Rattle.terms.specs.Term3.{Run}
use Rattle.terms.specs.Callers.{Starts, Runs}
use Rattle.machine.specs.Machine.{memory_of}

-- ---- 1. A run over lent lists

-- the numbers of a list of calls have 32 bits, as their type in code says
abbrev pub All32 : List ℕ → Type 0
All32 list = (i : ℕ) → i < length list → Is32 (get_or list i 0)

-- the calls that a run makes: as many as both lists hold, up to five numbers that are no call
abbrev pub calls_made : List ℕ → List ℕ → List Call
calls_made list answers = calls_in (min (length list / 5) (length answers)) list 0

-- after these calls, every line stored to has been cleaned, and the buffer drained after that
abbrev pub SettledBy : List ℕ → List ℕ → List Call → Type 0
SettledBy memory bad calls = Settled (history_after (plain_start memory bad) no_history calls)

-- a run over a list of numbers, with a list for the answers, whose calls keep the rules, "after a served start on memory and store of any bytes"
pub record LentRun (memory bad store list answers : List ℕ) : Type 0 where
  pub memory_bytes : Bytes memory
  pub store_bytes : Bytes store
  pub served_start : start_refusal memory store ≡ 0
  pub numbers : All32 list
  pub keeps : Keeps (plain_start memory bad) no_history (calls_made list answers)

-- The library's run and the plain machine's run leave the same list of answers and make the same number of calls. Where every line stored to has
-- been cleaned and the buffer drained after that, they leave the same memory, byte for byte.
pub record SameRun (memory bad store list answers : List ℕ) : Type 0 where
  pub same_answers : (run (started memory bad store).machine list answers).answers ≡ (plain_run memory bad list answers).left.answers
  pub same_made : (run (started memory bad store).machine list answers).made ≡ (plain_run memory bad list answers).left.made
  pub same_memory : SettledBy memory bad (calls_made list answers)
      → memory_of (run (started memory bad store).machine list answers).machine ≡ (plain_run memory bad list answers).left.machine.memory

abbrev pub LentRuns : Type 0
LentRuns = (memory bad store list answers : List ℕ) → LentRun memory bad store list answers → SameRun memory bad store list answers

-- The code, by its contracts: `sa110::start` gave `s` on memory and store; `sa110::run` on what it gave returned `r`, and left the lent memory,
-- store and list of answers as `memory₁`, `store₁` and `answers₁`.
pub record CodeRun (memory bad store list answers : List ℕ) (s : Started) (memory₁ store₁ answers₁ : List ℕ) (r : library.Ran) : Type 0 where
  pub starts : Starts memory store s
  pub runs : Runs memory bad store s.state s.cp15 list answers memory₁ store₁ answers₁ r

-- `plain::run` returned `p`, and left the lent memory and list of answers as `memory₁` and `answers₁`
abbrev pub PlainCodeRun : List ℕ → List ℕ → List ℕ → List ℕ → List ℕ → List ℕ → plain.Ran → Type 0
PlainCodeRun memory bad list answers memory₁ answers₁ p = plain_left memory₁ bad answers₁ p ≡ plain_run memory bad list answers

-- After a served start, if the calls of the list keep the rules, `sa110::run` and `plain::run` write the same answers and return the same number of
-- calls made; and they leave the same memory where every line stored to has been cleaned and the buffer drained after that.
abbrev pub CodeAgrees : Type 0
CodeAgrees =
    (memory bad store list answers : List ℕ) → LentRun memory bad store list answers
    → (s : Started) (memory₁ store₁ answers₁ : List ℕ) (r : library.Ran) → CodeRun memory bad store list answers s memory₁ store₁ answers₁ r
    → (memory₂ answers₂ : List ℕ) (p : plain.Ran) → PlainCodeRun memory bad list answers memory₂ answers₂ p
    → (answers₁ ≡ answers₂) × (r.made ≡ p.made) × (SettledBy memory bad (calls_made list answers) → memory₁ ≡ memory₂)

-- ---- 2. Two cache stores

-- Two runs of one list of calls, after served starts on the same memory, give the same answers, whatever bytes the two cache stores hold at the
-- start; and they leave the same memory where every line stored to has been cleaned and the buffer drained after that.
abbrev pub AnyStore : Type 0
AnyStore =
    (memory bad store₁ store₂ : List ℕ) (calls : List Call) → Run memory bad store₁ calls → Run memory bad store₂ calls
    → (answers (started memory bad store₁).machine calls ≡ answers (started memory bad store₂).machine calls)
    × (SettledBy memory bad calls → memory_of (final (started memory bad store₁).machine calls) ≡ memory_of (final (started memory bad store₂).machine calls))

-- The same of two runs of the code over one list: `sa110::run` writes the same answers and returns the same number of calls made, on whatever bytes
-- the cache store holds when `sa110::start` gets it.
abbrev pub CodeAnyStore : Type 0
CodeAnyStore =
    (memory bad list answers : List ℕ)
    → (store : List ℕ) → LentRun memory bad store list answers
    → (s : Started) (memory₁ store₁ answers₁ : List ℕ) (r : library.Ran) → CodeRun memory bad store list answers s memory₁ store₁ answers₁ r
    → (other : List ℕ) → LentRun memory bad other list answers
    → (t : Started) (memory₂ store₂ answers₂ : List ℕ) (q : library.Ran) → CodeRun memory bad other list answers t memory₂ store₂ answers₂ q
    → (answers₁ ≡ answers₂) × (r.made ≡ q.made) × (SettledBy memory bad (calls_made list answers) → memory₁ ≡ memory₂)

-- ---- 3. Memory after cleaning and draining

-- "(1,10) cleans it": the privileged CP15 write that cleans virtual line v
abbrev pub clean_line : ℕ → Call
clean_line v = Write (record { privileged = true; register = 7; opcode = 1; crm = 10 }) (v * 32)

-- "(4,10) drains the buffer"
abbrev pub drain_buffer : Call
drain_buffer = Write (record { privileged = true; register = 7; opcode = 4; crm = 10 }) 0

-- a clean of each of these virtual lines, then a drain
abbrev pub clean_and_drain : List ℕ → List Call
clean_and_drain vs = map clean_line vs ++ (drain_buffer ∷ [])

-- every line stored to and not cleaned since had its last store through one of these virtual lines
abbrev pub StoredThrough : List ℕ → History → Type 0
StoredThrough vs h = (l : ℕ) → is_stored (h.line_stage l) ≡ true → any (λ (v : ℕ). eqb (h.through l) v) vs ≡ true

pub record BeforeCleaning (memory bad store : List ℕ) (calls : List Call) (vs : List ℕ) : Type 0 where
  pub first : Run memory bad store calls
  -- virtual lines of addresses of 32 bits
  pub lines : (i : ℕ) → i < length vs → get_or vs i 0 < 0x8000000
  pub stored_through : StoredThrough vs (history_after (plain_start memory bad) no_history calls)
  -- none of the cleans, nor the drain, meets refusal 16 or 5
  pub map_fits_lem : map_fits (length memory) bad ≡ true
  pub count : (plain_final (plain_start memory bad) calls).calls + length vs + 1 ≤ count_limit

-- After a list of calls that keeps the rules, clean every virtual line through which a line had its last store and was not cleaned since, and then
-- drain: these calls keep the rules too, and memory is the plain machine's memory after the list, byte for byte.
pub record AfterCleaning (memory bad store : List ℕ) (calls : List Call) (vs : List ℕ) : Type 0 where
  pub keeps : Run memory bad store (calls ++ clean_and_drain vs)
  pub settled : SettledBy memory bad (calls ++ clean_and_drain vs)
  pub same_memory : memory_of (final (started memory bad store).machine (calls ++ clean_and_drain vs)) ≡ (plain_final (plain_start memory bad) calls).memory

abbrev pub CleanedMemory : Type 0
CleanedMemory =
    (memory bad store : List ℕ) (calls : List Call) (vs : List ℕ) → BeforeCleaning memory bad store calls vs → AfterCleaning memory bad store calls vs
