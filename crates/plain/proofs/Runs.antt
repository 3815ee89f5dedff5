-- The steps of a run.
use Prim.Native.Nat.{ℕ, ◌+◌, ◌/◌, ◌<◌, ◌≤◌, min}
use native.Mathlib.Omega.{arith}
use mathlib.Core.Bool.{true, false}
use mathlib.Core.Path.{◌≡◌, refl, sym, ◌∙◌, ap, subst}
use mathlib.Core.List.{List}
use lib.ListN.{length, set, length-set}
use Rattle.values.specs.declared.Call.{Call}
use Rattle.refusals.specs.Refusals.{length_fits}
use Rattle.trace.specs.Calls.{call_at, is_call_at}
use Rattle.trace.specs.Codes.{code_of}
use Rattle.trace.specs.Fold.{calls_in, Holds, Left, leaves}
use Rattle.trace.proofs.Folds.{Whole, whole_start, whole_on, whole_stop, whole_end}
use Rattle.plain.specs.Plain.{Plain, PlainStepped, plainly, plain_start, plain_next, plain_answered}
use Rattle.plain.specs.Run.{left_by, with_refusal, plain_run}
use Rattle.plain.specs.Code.{plain_of, stepped_of, plain_left, Kept, Steps}
use Rattle.plain.specs.declared.PlainState.{PlainState}
use Rattle.plain.specs.declared.Outcome.{Outcome}

-- the start's registers are kept
pub keep_start : (memory bad : List ℕ) → Kept (plain_start memory bad).registers
unfolding plain_start
keep_start memory bad = record { base = omega arith; control = omega arith }

-- what holds before each turn of the loop
pub record Going (memory₀ bad calls answers₀ : List ℕ) (n : ℕ) (memory answers : List ℕ) (s : PlainState) (i : ℕ) : Type 0 where
  pub low : i ≤ n
  pub memory_long : length memory ≡ length memory₀
  pub long : length answers ≡ length answers₀
  pub kept : Kept s.registers
  pub whole : Whole plain_next plain_answered calls answers₀ n (plain_start memory₀ bad) answers (plain_of memory bad s) i

module _ (memory₀ bad calls answers₀ : List ℕ) (n : ℕ) where
  pub going_start : Holds calls answers₀ n → (s : PlainState) → plain_of memory₀ bad s ≡ plain_start memory₀ bad
      → Going memory₀ bad calls answers₀ n memory₀ answers₀ s 0
  going_start h s e =
      record {
        low = omega arith;
        memory_long = refl;
        long = refl;
        kept = subst (λ (p : Plain). Kept p.registers) (sym e) (keep_start memory₀ bad);
        whole = subst (λ (p : Plain). Whole plain_next plain_answered calls answers₀ n (plain_start memory₀ bad) answers₀ p 0) (sym e)
            (whole_start plain_next plain_answered calls answers₀ n (plain_start memory₀ bad) h.answers_hold);
      }

  module _ (memory answers : List ℕ) (s : PlainState) (i : ℕ) (g : Going memory₀ bad calls answers₀ n memory answers s i) where
    pub going_on : (m : List ℕ) (o : Outcome) (c : Call) (a : ℕ) → i < n → is_call_at calls i ≡ true → c ≡ call_at calls i
        → Steps (stepped_of m bad o) (plainly (plain_of memory bad s) c) → length m ≡ length memory → a ≡ code_of o.answer
        → Going memory₀ bad calls answers₀ n m (set answers i a) o.state (i + 1)
    going_on m o c a h t k st l e =
        let p = plain_of memory bad s in
        let f : stepped_of m bad o ≡ plainly p (call_at calls i) = st.same ∙ ap (λ (x : Call). plainly p x) k in
        record {
          low = omega arith;
          memory_long = l ∙ g.memory_long;
          long = length-set answers i a ∙ g.long;
          kept = st.kept;
          whole = whole_on plain_next plain_answered calls answers₀ n (plain_start memory₀ bad) answers p i g.whole (plain_of m bad o.state)
              a h t (ap (λ (x : PlainStepped). x.plain) f) (e ∙ ap (λ (x : PlainStepped). code_of x.answer) f);
        }

    -- the run stops at five numbers that are no call, or at its end
    pub going_stop : i < n → is_call_at calls i ≡ false
        → plain_left memory bad answers (record { state = s; made = i; refusal = 0 })
        ≡ with_refusal (left_by (plain_start memory₀ bad) (calls_in n calls 0) answers₀) 0
    going_stop h t =
        ap (λ (x : Left Plain). with_refusal x 0)
        (whole_stop plain_next plain_answered calls answers₀ n (plain_start memory₀ bad) answers (plain_of memory bad s) i g.whole h t)

    pub going_end : n ≤ i
        → plain_left memory bad answers (record { state = s; made = i; refusal = 0 })
        ≡ with_refusal (left_by (plain_start memory₀ bad) (calls_in n calls 0) answers₀) 0
    going_end h =
        ap (λ (x : Left Plain). with_refusal x 0)
        (whole_end plain_next plain_answered calls answers₀ n (plain_start memory₀ bad) answers (plain_of memory bad s) i g.whole h)

-- a run by its memory's length
module _ (memory bad calls answers : List ℕ) where
  pub run_refused : length_fits (length memory) ≡ false
      → plain_run memory bad calls answers ≡ with_refusal (leaves (plain_start memory bad) answers 0) 1
  unfolding plain_run
  run_refused h = rw h

  pub run_by : (n : ℕ) → length_fits (length memory) ≡ true → n ≡ min (length calls / 5) (length answers)
      → plain_run memory bad calls answers ≡ with_refusal (left_by (plain_start memory bad) (calls_in n calls 0) answers) 0
  unfolding plain_run
  run_by n h k = rw (h, k)
