-- The steps of a run.
use Prim.Native.Nat.{ℕ, ◌+◌, ◌/◌, ◌<◌, ◌≤◌, min}
use native.Mathlib.Omega.{arith}
use mathlib.Core.Bool.{true, false}
use mathlib.Core.Path.{◌≡◌, refl, sym, ◌∙◌, ap, subst}
use mathlib.Core.List.{List, [], ◌∷◌}
use lib.Dec.{eqb}
use lib.ListN.{length, set, length-set}
use Rattle.values.specs.declared.Call.{Call}
use Rattle.values.proofs.Cases.{case}
use Rattle.trace.specs.Calls.{call_of, call_at, is_call_at}
use Rattle.trace.specs.Codes.{code_of}
use Rattle.trace.specs.Fold.{calls_in, Holds, Left, leaves, answers_of, final_of, left_of}
use Rattle.trace.proofs.Folds.{Whole, whole_start, whole_on, whole_stop, whole_end}
use Rattle.step.specs.Call.{served, Numbers, Is32}
use Rattle.step.specs.Run.{next, answered, left_by, run, refused_all}
use Rattle.step.specs.Code.{Serves}
use Rattle.values.specs.declared.Answer.{Answer}
use Rattle.values.specs.declared.Answer.TheVariants as answer
use Rattle.step.specs.Meets.{state_refusal}
use Rattle.step.proofs.SoundKept.{sound_kept, map_kept}
use Rattle.step.proofs.StateRefusals.{state_refused}
use Rattle.machine.specs.Machine.{Machine, Stepped}
use Rattle.machine.specs.declared.Scalars.{Scalars}
use Rattle.machine.specs.declared.Outcome.{Outcome}
use Rattle.machine.specs.Lists.{Lists, machine_of, stepped_of}

-- ---- the numbers of a call

pub numbers_of_lem : (k p w x v : ℕ) → Is32 x → Is32 v → Numbers (call_of k p w x v)
unfolding call_of
numbers_of_lem k p w x v h g =
    case (eqb k 0) (λ t. rw t (h, tt))
    (λ t0. case (eqb k 1) (λ t. rw (t0, t) (h, tt))
    (λ t1. case (eqb k 2) (λ t. rw (t0, t1, t) (h, g))
    (λ t2. case (eqb k 3) (λ t. rw (t0, t1, t2, t) tt)
    (λ t3. case (eqb k 4) (λ t. rw (t0, t1, t2, t3, t) g) (λ t4. rw (t0, t1, t2, t3, t4) (h, g))))))

-- ---- the loop

-- memory, the buffer's words and the TLB's are as long as they were
pub record SameLengths (l₀ l : Lists) (es₀ es : List ℕ) : Type 0 where
  pub memory : length l.memory ≡ length l₀.memory
  pub words : length l.words ≡ length l₀.words
  pub entries : length es ≡ length es₀

-- what holds before each turn of the loop
pub record Going (l₀ : Lists) (es₀ calls answers₀ : List ℕ) (s₀ : Scalars) (n : ℕ) (l : Lists) (es answers : List ℕ) (s : Scalars) (i : ℕ) : Type 0 where
  pub low : i ≤ n
  pub same : SameLengths l₀ l es₀ es
  pub long : length answers ≡ length answers₀
  pub words_long : length l.words ≡ 8
  pub bytes_long : length l.bytes ≡ 8
  pub serves : Serves (machine_of l es s (length l₀.memory))
  pub whole : Whole next answered calls answers₀ n (machine_of l₀ es₀ s₀ (length l₀.memory)) answers (machine_of l es s (length l₀.memory)) i

module _ (l₀ : Lists) (es₀ calls answers₀ : List ℕ) (s₀ : Scalars) (n : ℕ) (r : Holds calls answers₀ n) where
  pub going_start : length l₀.words ≡ 8 → length l₀.bytes ≡ 8 → Serves (machine_of l₀ es₀ s₀ (length l₀.memory))
      → Going l₀ es₀ calls answers₀ s₀ n l₀ es₀ answers₀ s₀ 0
  going_start w b k =
      record {
        low = omega arith;
        same = record { memory = refl; words = refl; entries = refl };
        long = refl;
        words_long = w;
        bytes_long = b;
        serves = k;
        whole = whole_start next answered calls answers₀ n (machine_of l₀ es₀ s₀ (length l₀.memory)) r.answers_hold;
      }

  module _ (l : Lists) (es answers : List ℕ) (s : Scalars) (i : ℕ) (g : Going l₀ es₀ calls answers₀ s₀ n l es answers s i) where
    abbrev first : Machine
    first = machine_of l₀ es₀ s₀ (length l₀.memory)

    abbrev now : Machine
    now = machine_of l es s (length l₀.memory)

    -- what a step asks
    pub serves_now : Serves (machine_of l es s (length l.memory))
    serves_now = subst (λ (x : ℕ). Serves (machine_of l es s x)) (sym g.same.memory) g.serves

    pub going_on : (k : Lists) (fs : List ℕ) (o : Outcome) (c : Call) (a : ℕ) → i < n → is_call_at calls i ≡ true → c ≡ call_at calls i
        → Numbers (call_at calls i) → stepped_of k fs (length l.memory) o ≡ served (machine_of l es s (length l.memory)) c
        → SameLengths l k es fs → length k.bytes ≡ 8 → a ≡ code_of o.answer
        → Going l₀ es₀ calls answers₀ s₀ n k fs (set answers i a) o.scalars (i + 1)
    going_on k fs o c a h t e z st y b f =
        let q : stepped_of k fs (length l₀.memory) o ≡ served now (call_at calls i) =
        subst (λ (x : ℕ). stepped_of k fs x o ≡ served (machine_of l es s x) (call_at calls i)) g.same.memory
        (st ∙ ap (λ (x : Call). served (machine_of l es s (length l.memory)) x) e)
        in
        let sk = sound_kept now (call_at calls i) g.serves.formed g.serves.is_sound z in
        let kept : Serves (served now (call_at calls i)).machine = record {
          formed = sk.0;
          is_sound = sk.1;
          size = sk.3 ∙ g.serves.size ∙ sym sk.2;
          map_fits_lem = rw (sk.2, map_kept now (call_at calls i)) g.serves.map_fits_lem;
        } in
        record {
          low = omega arith;
          same = record {
            memory = y.memory ∙ g.same.memory;
            words = y.words ∙ g.same.words;
            entries = y.entries ∙ g.same.entries;
          };
          long = length-set answers i a ∙ g.long;
          words_long = y.words ∙ g.words_long;
          bytes_long = b;
          serves = subst (λ (x : Stepped). Serves x.machine) (sym q) kept;
          whole = whole_on next answered calls answers₀ n first answers now i g.whole (machine_of k fs o.scalars (length l₀.memory)) a h t
              (ap (λ (x : Stepped). x.machine) q) (f ∙ ap (λ (x : Stepped). code_of x.answer) q);
        }

    -- the run stops at five numbers that are no call, or at its end
    pub going_stop : i < n → is_call_at calls i ≡ false
        → leaves now answers i ≡ left_by first (calls_in n calls 0) answers₀
    going_stop = whole_stop next answered calls answers₀ n first answers now i g.whole

    pub going_end : n ≤ i
        → leaves now answers i ≡ left_by first (calls_in n calls 0) answers₀
    going_end = whole_end next answered calls answers₀ n first answers now i g.whole

-- ---- a run of calls that are all refused by one number

-- the step that refuses
abbrev stays : Unit {0} → Call → Unit {0}
stays s c = s

abbrev refuses : ℕ → Unit {0} → Call → Answer
refuses n s c = answer.Refused n

pub record Refusing (calls answers₀ : List ℕ) (n refusal : ℕ) (answers : List ℕ) (i : ℕ) : Type 0 where
  pub low : i ≤ n
  pub long : length answers ≡ length answers₀
  pub whole : Whole stays (refuses refusal) calls answers₀ n tt answers tt i

module _ (calls answers₀ : List ℕ) (n refusal : ℕ) (r : Holds calls answers₀ n) where
  pub refusing_start : Refusing calls answers₀ n refusal answers₀ 0
  refusing_start =
      record { low = omega arith; long = refl; whole = whole_start stays (refuses refusal) calls answers₀ n tt r.answers_hold }

  module _ (answers : List ℕ) (i : ℕ) (g : Refusing calls answers₀ n refusal answers i) where
    pub refusing_on : (a : ℕ) → i < n → is_call_at calls i ≡ true → a ≡ code_of (answer.Refused refusal)
        → Refusing calls answers₀ n refusal (set answers i a) (i + 1)
    refusing_on a h t f =
        record {
          low = omega arith;
          long = length-set answers i a ∙ g.long;
          whole = whole_on stays (refuses refusal) calls answers₀ n tt answers tt i g.whole tt a h t refl f;
        }

    pub refusing_stop : i < n → is_call_at calls i ≡ false → leaves {S = Unit {0}} tt answers i ≡ refused_all {S = Unit {0}} refusal tt
        (calls_in n calls 0) answers₀
    refusing_stop = whole_stop stays (refuses refusal) calls answers₀ n tt answers tt i g.whole

    pub refusing_end : n ≤ i → leaves {S = Unit {0}} tt answers i ≡ refused_all {S = Unit {0}} refusal tt (calls_in n calls 0) answers₀
    refusing_end = whole_end stays (refuses refusal) calls answers₀ n tt answers tt i g.whole

-- a machine that one of 1 to 4 and 16 holds of refuses each call, and stays as it is
module _ (m : Machine) (n : ℕ) (e : n ≡ state_refusal m) (z : n ≡ 0 → ⊥) where
  same_answers : (cs : List Call) → answers_of next answered m cs ≡ answers_of stays (refuses n) tt cs
  unfolding answers_of
  same_answers [] = refl
  same_answers (c ∷ cs) =
      ap (λ (x : Stepped). x.answer ∷ answers_of next answered x.machine cs) (state_refused m c n e z)
      ∙ ap (λ (xs : List Answer). answer.Refused n ∷ xs) (same_answers cs)

  same_machine : (cs : List Call) → final_of next answered m cs ≡ m
  unfolding final_of
  same_machine [] = refl
  same_machine (c ∷ cs) = ap (λ (x : Stepped). final_of next answered x.machine cs) (state_refused m c n e z) ∙ same_machine cs

  pub all_refused : (cs : List Call) (answers left : List ℕ) (made : ℕ) → leaves {S = Unit {0}} tt left made ≡ refused_all {S = Unit {0}} n tt cs answers
      → leaves m left made ≡ left_by m cs answers
  unfolding left_of
  all_refused cs answers left made h =
      let f : left ≡ (refused_all {S = Unit {0}} n tt cs answers).answers = ap (λ (x : Left (Unit {0})). x.answers) h in
      let g : made ≡ (refused_all {S = Unit {0}} n tt cs answers).made = ap (λ (x : Left (Unit {0})). x.made) h in
      rw (f, g, same_answers cs, same_machine cs)

-- ---- a run of as many calls as the lists hold

pub run_as : (m : Machine) (list answers : List ℕ) (n : ℕ) → n ≡ min (length list / 5) (length answers)
    → run m list answers ≡ left_by m (calls_in n list 0) answers
unfolding run
run_as m list answers n e = rw e
