-- What follows from term 3, proved.
use Prim.Native.Nat.{ℕ, zero, suc, ◌+◌, ◌*◌, ◌/◌, ◌<◌, ◌≤◌, min}
use native.Mathlib.Omega.{arith}
use mathlib.Core.Bool.{Bool, true, false, ◌||◌}
use mathlib.Core.Path.{◌≡◌, refl, sym, ◌∙◌, ap, subst}
use mathlib.Core.List.{List, [], ◌∷◌, ◌++◌, map}
use lib.Dec.{eqb, ltb}
use lib.ListN.{length, get_or, drop, get_or-eq_default}
use borrow.Author.Tests.{ne_eqb, ltb-true, ltb-false, not-false}
use Rattle.values.specs.Lists.{any}
use Rattle.values.specs.Counts.{count_limit}
use Rattle.values.specs.Rows.{first_met}
use Rattle.values.specs.declared.Call.{Call}
use Rattle.values.specs.declared.Answer.{Answer}
use Rattle.values.proofs.Cases.{case, clash}
use Rattle.refusals.specs.Refusals.{length_fits, map_fits, row1, row2}
use Rattle.refusals.proofs.Rows.{row_passed}
use Rattle.trace.specs.Calls.{is_call_at}
use Rattle.trace.specs.Codes.{code_of}
use Rattle.trace.specs.Fold.{calls_in, Left, final_of, left_of}
use Rattle.trace.proofs.Folds.{final_append}
use Rattle.machine.specs.Machine.{Machine, memory_of}
use Rattle.step.specs.Meets.{start_refusal}
use Rattle.step.specs.Start as starts
use Rattle.step.specs.Start.{started}
use Rattle.step.specs.Call.{Is32}
use Rattle.step.specs.Run.{run}
use Rattle.step.proofs.Runs.{numbers_of_lem}
use Rattle.sa110.specs.State.{machine_in, ran_of}
use Rattle.state.specs.declared.Started.{Started}
use Rattle.sa110.specs.declared.Ran as library
use Rattle.plain.specs.Plain.{Plain, plain_start, plain_refusal, plainly, plain_next, plain_answered, plain_write, plain_final}
use Rattle.plain.specs.Run.{PlainLeft, with_refusal, left_by, plain_run}
use Rattle.plain.proofs.Runs.{run_by}
use Rattle.terms.specs.History.{Stage, never, stored, cleaned, drained, flushed, History, no_history, after_clean, after_drain}
use Rattle.terms.specs.History.{after_write, after_line_clean, after_buffer_drain, after, history_after}
use Rattle.terms.specs.Rules.{is_stored, is_drained, Allowed, Keeps, Settled}
use Rattle.terms.specs.Term3.{AllNumbers, Run}
use Rattle.terms.specs.Corollaries.{All32, calls_made, SettledBy, LentRun, SameRun, LentRuns, CodeRun, CodeAgrees, AnyStore, CodeAnyStore}
use Rattle.terms.specs.Corollaries.{clean_line, drain_buffer, clean_and_drain, StoredThrough, BeforeCleaning, AfterCleaning, CleanedMemory}
use Rattle.terms.proofs.PlainKept.{plain_keeps}
use Rattle.terms.proofs.Term3.{term3}
use Rattle.terms.proofs.Appends.{numbers_append, keeps_append, history_append}

-- ---- 1. a run over lent lists

-- a number of a list, also behind its end
low_at : (list : List ℕ) → All32 list → (i : ℕ) → Is32 (get_or list i 0)
low_at list f i =
    case (ltb i (length list)) (λ t. f i (ltb-true i (length list) t))
    (λ t. rw (get_or-eq_default list 0 (ltb-false i (length list) t)) (omega arith))

pub calls_numbers : (list : List ℕ) → All32 list → (n i : ℕ) → AllNumbers (calls_in n list i)
unfolding calls_in AllNumbers
calls_numbers list f zero i = tt
calls_numbers list f (suc n) i =
    case (is_call_at list i)
    (λ t.
    rw t (
      numbers_of_lem (get_or list (i * 5) 0) (get_or list (i * 5 + 1) 0) (get_or list (i * 5 + 2) 0) (get_or list (i * 5 + 3) 0) (get_or list (i * 5 + 4) 0)
          (low_at list f (i * 5 + 3)) (low_at list f (i * 5 + 4)),
      calls_numbers list f n (i + 1),
    ))
    (λ t. rw t tt)

-- a memory on which a start is served has a length that fits
pub length_fits_lem : (memory store : List ℕ) → start_refusal memory store ≡ 0 → length_fits (length memory) ≡ true
unfolding start_refusal
length_fits_lem memory store h =
    not-false (length_fits (length memory)) (row_passed (row1 (length memory)) (row2 (length store) ∷ []) (omega arith) h).0

module _ (memory bad store list answers : List ℕ) (r : LentRun memory bad store list answers) where
  abbrev cs : List Call
  cs = calls_made list answers

  -- the list of calls
  pub as_calls : Run memory bad store cs
  as_calls =
      record {
        memory_bytes = r.memory_bytes;
        store_bytes = r.store_bytes;
        served_start = r.served_start;
        numbers = calls_numbers list r.numbers (min (length list / 5) (length answers)) 0;
        keeps = r.keeps;
      }

  plain_is : plain_run memory bad list answers ≡ with_refusal (left_by (plain_start memory bad) cs answers) 0
  plain_is = run_by memory bad list answers (min (length list / 5) (length answers)) (length_fits_lem memory store r.served_start) refl

  same_run : SameRun memory bad store list answers
  unfolding run left_of
  same_run =
      let t = term3 memory bad store cs as_calls in
      let e = sym plain_is in
      record {
        same_answers = ap (λ (x : List Answer). map code_of x ++ drop (length cs) answers) t.same_answers ∙ ap (λ (x : PlainLeft). x.left.answers) e;
        same_made = ap (λ (x : PlainLeft). x.left.made) e;
        same_memory = λ h. t.same_memory h ∙ ap (λ (x : PlainLeft). x.left.machine.memory) e;
      }

pub lent_runs : LentRuns
lent_runs = same_run

-- what the code's run leaves is what the run of the started machine leaves
module _ (memory bad store list answers : List ℕ) (s : Started) (memory₁ store₁ answers₁ : List ℕ) (r : library.Ran)
    (c : CodeRun memory bad store list answers s memory₁ store₁ answers₁ r) where
  code_is : ran_of memory₁ bad store₁ answers₁ r ≡ run (started memory bad store).machine list answers
  code_is =
      let e : machine_in memory bad store s.state s.cp15 ≡ (started memory bad store).machine = ap (λ (x : starts.Started). x.machine) (c.starts bad) in
      c.runs ∙ ap (λ (m : Machine). run m list answers) e

  -- what it leaves is the plain machine's
  module _ (k : LentRun memory bad store list answers) where
    code_answers : answers₁ ≡ (plain_run memory bad list answers).left.answers
    code_answers = ap (λ (x : Left Machine). x.answers) code_is ∙ (same_run memory bad store list answers k).same_answers

    code_made : r.made ≡ (plain_run memory bad list answers).left.made
    code_made = ap (λ (x : Left Machine). x.made) code_is ∙ (same_run memory bad store list answers k).same_made

    code_memory : SettledBy memory bad (calls_made list answers) → memory₁ ≡ (plain_run memory bad list answers).left.machine.memory
    code_memory h = ap (λ (x : Left Machine). memory_of x.machine) code_is ∙ (same_run memory bad store list answers k).same_memory h

pub code_agrees : CodeAgrees
code_agrees memory bad store list answers k s memory₁ store₁ answers₁ r c memory₂ answers₂ p e = (
  code_answers memory bad store list answers s memory₁ store₁ answers₁ r c k ∙ sym (ap (λ (x : PlainLeft). x.left.answers) e),
  code_made memory bad store list answers s memory₁ store₁ answers₁ r c k ∙ sym (ap (λ (x : PlainLeft). x.left.made) e),
  λ h. code_memory memory bad store list answers s memory₁ store₁ answers₁ r c k h ∙ sym (ap (λ (x : PlainLeft). x.left.machine.memory) e),
)

-- ---- 2. two cache stores

pub any_store : AnyStore
any_store memory bad store₁ store₂ calls r₁ r₂ =
    let t₁ = term3 memory bad store₁ calls r₁ in
    let t₂ = term3 memory bad store₂ calls r₂ in
    (t₁.same_answers ∙ sym t₂.same_answers, λ h. t₁.same_memory h ∙ sym (t₂.same_memory h))

pub code_any_store : CodeAnyStore
code_any_store memory bad list answers store k s memory₁ store₁ answers₁ r c other l t memory₂ store₂ answers₂ q d = (
  code_answers memory bad store list answers s memory₁ store₁ answers₁ r c k ∙ sym (code_answers memory bad other list answers t memory₂ store₂ answers₂ q d l),
  code_made memory bad store list answers s memory₁ store₁ answers₁ r c k ∙ sym (code_made memory bad other list answers t memory₂ store₂ answers₂ q d l),
  λ h. code_memory memory bad store list answers s memory₁ store₁ answers₁ r c k h
      ∙ sym (code_memory memory bad other list answers t memory₂ store₂ answers₂ q d l h),
)

-- ---- 3. memory after cleaning and draining

-- stages
clean_stored : (b : Bool) (s : Stage) → is_stored (after_clean b s) ≡ true → (b ≡ false) × (is_stored s ≡ true)
clean_stored b never e = clash {b = false} e refl
clean_stored true stored e = clash {b = false} e refl
clean_stored false stored e = (refl, refl)
clean_stored b cleaned e = clash {b = false} e refl
clean_stored b drained e = clash {b = false} e refl
clean_stored b flushed e = clash {b = false} e refl

drain_settles : (s : Stage) → is_stored s ≡ false → is_drained (after_drain s) ≡ true
drain_settles never e = refl
drain_settles stored e = clash {b = true} refl e
drain_settles cleaned e = refl
drain_settles drained e = refl
drain_settles flushed e = refl

-- a clean and a drain, on the plain machine and in the history
module _ (p : Plain) (h : History) (low : p.calls < count_limit) (fits : map_fits (length p.memory) p.bad ≡ true) where
  uncounted : eqb p.calls count_limit ≡ false
  uncounted = ne_eqb p.calls count_limit (λ e. omega arith)

  clean_served : (v : ℕ) → plain_refusal p (clean_line v) ≡ 0
  unfolding plain_refusal first_met
  clean_served v = rw (fits, uncounted)

  drain_served : plain_refusal p drain_buffer ≡ 0
  unfolding plain_refusal first_met
  drain_served = rw (fits, uncounted)

  clean_memory : (v : ℕ) → (plainly p (clean_line v)).plain.memory ≡ p.memory
  unfolding plainly plain_write
  clean_memory v = rw (clean_served v)

  drain_memory : (plainly p drain_buffer).plain.memory ≡ p.memory
  unfolding plainly plain_write
  drain_memory = rw drain_served

  clean_map : (v : ℕ) → (plainly p (clean_line v)).plain.bad ≡ p.bad
  unfolding plainly plain_write
  clean_map v = rw (clean_served v)

  clean_calls : (v : ℕ) → (plainly p (clean_line v)).plain.calls ≡ p.calls + 1
  unfolding plainly plain_write
  clean_calls v = rw (clean_served v)

  clean_history : (v : ℕ) → after p h (clean_line v) ≡ after_line_clean h v
  unfolding after after_write
  clean_history v = let e : v * 32 / 32 ≡ v = omega arith in rw (clean_served v) (ap (λ (x : ℕ). after_line_clean h x) e)

  drain_history : after p h drain_buffer ≡ after_buffer_drain h
  unfolding after after_write
  drain_history = rw drain_served

clean_allowed : (p : Plain) (h : History) (v : ℕ) → Allowed p h (clean_line v)
clean_allowed p h v z l = (λ e. clash {b = false} e refl, λ e. clash {b = false} e refl)

drain_allowed : (p : Plain) (h : History) → Allowed p h drain_buffer
drain_allowed p h z l = (λ e. clash {b = false} e refl, λ e. clash {b = false} e refl)

-- the lines that remain after a clean of one
clean_through : (h : History) (v : ℕ) (vs : List ℕ) → StoredThrough (v ∷ vs) h → StoredThrough vs (after_line_clean h v)
unfolding any
clean_through h v vs s l e =
    let c = clean_stored (eqb (h.through l) v) (h.line_stage l) e in
    subst (λ (b : Bool). (b || any (λ (w : ℕ). eqb (h.through l) w) vs) ≡ true) c.0 (s l c.1)

-- the calls keep the rules, every line is settled after them, and the plain machine's memory is as it was
record Cleans (p : Plain) (h : History) (vs : List ℕ) : Type 0 where
  keeps : Keeps p h (clean_and_drain vs)
  settled : Settled (history_after p h (clean_and_drain vs))
  memory : (plain_final p (clean_and_drain vs)).memory ≡ p.memory

cleans : (vs : List ℕ) (p : Plain) (h : History) → StoredThrough vs h → p.calls + length vs + 1 ≤ count_limit → map_fits (length p.memory) p.bad ≡ true
    → Cleans p h vs
unfolding Keeps final_of history_after any
cleans [] p h s n f =
    let low : p.calls < count_limit = omega arith in
    record {
      keeps = (drain_allowed p h, tt);
      settled = subst Settled (sym (drain_history p h low f))
          (λ l. drain_settles (h.line_stage l) (case (is_stored (h.line_stage l)) (λ t. clash {b = false} (s l t) refl) (λ t. t)));
      memory = drain_memory p h low f;
    }
cleans (v ∷ vs) p h s n f =
    let low : p.calls < count_limit = omega arith in
    let e = clean_calls p h low f v in
    let r = cleans vs (plainly p (clean_line v)).plain (after p h (clean_line v))
    (subst (StoredThrough vs) (sym (clean_history p h low f v)) (clean_through h v vs s)) (omega arith)
    (rw (clean_memory p h low f v, clean_map p h low f v) f)
    in
    record { keeps = (clean_allowed p h v, r.keeps); settled = r.settled; memory = r.memory ∙ clean_memory p h low f v }

cleaning_numbers : (vs : List ℕ) → ((i : ℕ) → i < length vs → get_or vs i 0 < 0x8000000) → AllNumbers (clean_and_drain vs)
unfolding AllNumbers
cleaning_numbers [] f = (omega arith, tt)
cleaning_numbers (v ∷ vs) f =
    let b : v < 0x8000000 = f 0 (omega arith) in (omega arith, cleaning_numbers vs (λ i g. f (suc i) (omega arith)))

module _ (memory bad store : List ℕ) (calls : List Call) (vs : List ℕ) (c : BeforeCleaning memory bad store calls vs) where
  abbrev p : Plain
  p = plain_final (plain_start memory bad) calls

  abbrev h : History
  h = history_after (plain_start memory bad) no_history calls

  start_fits : map_fits (length (plain_start memory bad).memory) (plain_start memory bad).bad ≡ true
  unfolding plain_start
  start_fits = c.map_fits_lem

  cleaning : Cleans p h vs
  cleaning =
      let k = plain_keeps calls (plain_start memory bad) in
      cleans vs p h c.stored_through c.count (rw (k.long, k.map) start_fits)

  after_cleaning : AfterCleaning memory bad store calls vs
  after_cleaning =
      let k = cleaning in
      let f = c.first in
      let run : Run memory bad store (calls ++ clean_and_drain vs) = record {
        memory_bytes = f.memory_bytes;
        store_bytes = f.store_bytes;
        served_start = f.served_start;
        numbers = numbers_append (clean_and_drain vs) calls f.numbers (cleaning_numbers vs c.lines);
        keeps = keeps_append (clean_and_drain vs) calls (plain_start memory bad) no_history f.keeps k.keeps;
      } in
      let settled : SettledBy memory bad (calls ++ clean_and_drain vs) =
      subst Settled (sym (history_append (clean_and_drain vs) calls (plain_start memory bad) no_history)) k.settled in
      let after = ap (λ (q : Plain). q.memory) (final_append plain_next plain_answered (plain_start memory bad) calls (clean_and_drain vs)) in
      record {
        keeps = run;
        settled = settled;
        same_memory = (term3 memory bad store (calls ++ clean_and_drain vs) run).same_memory settled ∙ after ∙ k.memory;
      }

pub cleaned_memory : CleanedMemory
cleaned_memory = after_cleaning
