-- The steps of a run over a lent list of numbers.
use Prim.Native.Nat.{ℕ, zero, suc, ◌+◌, ◌-◌, ◌/◌, ◌<◌, ◌≤◌, min}
use native.Mathlib.Omega.{arith}
use native.Mathlib.Numerals.{add-one}
use native.Mathlib.Nat.{add-zero, zero-add, sub-zero}
use mathlib.Core.Bool.{true, false}
use mathlib.Core.Path.{◌≡◌, refl, sym, ◌∙◌, ap}
use mathlib.Core.List.{List, [], ◌∷◌, ◌++◌, map}
use lib.ListN.{length, length-map, drop, set}
use lib.Seq.{sets, sets-eq}
use Rattle.values.specs.declared.Call.{Call}
use Rattle.values.specs.declared.Answer.{Answer}
use Rattle.values.proofs.Cases.{case}
use Rattle.trace.specs.Calls.{call_at, is_call_at}
use Rattle.trace.specs.Codes.{code_of}
use Rattle.trace.specs.Fold.{calls_in, Holds, Left, leaves, answers_of, final_of, left_of}

-- ---- the calls of a list of numbers

-- as many calls as both lists hold fit each
pub held_by : (list answers : List ℕ) (n : ℕ) → n ≡ min (length list / 5) (length answers) → Holds list answers n
held_by list answers n e = record { calls_hold = omega arith; answers_hold = omega arith }

pub calls_few : (n : ℕ) (list : List ℕ) (i : ℕ) → length (calls_in n list i) ≤ n
unfolding calls_in
calls_few zero list i = omega arith
calls_few (suc n) list i =
    let r = calls_few n list (i + 1) in case (is_call_at list i) (λ t. rw t (omega arith)) (λ t. rw t (omega arith))

module _ (n i : ℕ) (list : List ℕ) where
  calls_more : i < n → is_call_at list i ≡ true → calls_in (n - i) list i ≡ call_at list i ∷ calls_in (n - (i + 1)) list (i + 1)
  unfolding calls_in
  calls_more h t = let k : n - i ≡ suc (n - (i + 1)) = omega arith in ap (λ (j : ℕ). calls_in j list i) k ∙ rw t

  calls_stop : i < n → is_call_at list i ≡ false → calls_in (n - i) list i ≡ []
  unfolding calls_in
  calls_stop h t = let k : n - i ≡ suc (n - (i + 1)) = omega arith in ap (λ (j : ℕ). calls_in j list i) k ∙ rw t

  calls_end : n ≤ i → calls_in (n - i) list i ≡ []
  unfolding calls_in
  calls_end h = let k : n - i ≡ 0 = omega arith in ap (λ (j : ℕ). calls_in j list i) k

-- ---- the loop

module _ {S : Type 0} (next : S → Call → S) (answer : S → Call → Answer) where
  pub answers_long : (s : S) (cs : List Call) → length (answers_of next answer s cs) ≡ length cs
  unfolding answers_of
  answers_long s [] = refl
  answers_long s (c ∷ cs) = ap suc (answers_long (next s c) cs)

  -- two lists of calls, one after the other
  pub final_append : (s : S) (cs ds : List Call) → final_of next answer s (cs ++ ds) ≡ final_of next answer (final_of next answer s cs) ds
  unfolding final_of
  final_append s [] ds = refl
  final_append s (c ∷ cs) ds = final_append (next s c) cs ds

  pub answers_append : (s : S) (cs ds : List Call)
      → answers_of next answer s (cs ++ ds) ≡ answers_of next answer s cs ++ answers_of next answer (final_of next answer s cs) ds
  unfolding answers_of final_of
  answers_append s [] ds = refl
  answers_append s (c ∷ cs) ds = ap (λ (l : List Answer). answer s c ∷ l) (answers_append (next s c) cs ds)

  -- what a run leaves that stands before call i, with some calls to come
  unfoldable pub leaving : S → ℕ → List Call → List ℕ → Left S
  leaving s i cs answers = leaves (final_of next answer s cs) (sets answers i (map code_of (answers_of next answer s cs))) (i + length cs)

  -- before call i, what the run leaves is what it leaves from the start
  abbrev pub Whole : List ℕ → List ℕ → ℕ → S → List ℕ → S → ℕ → Type 0
  Whole list answers₀ n s₀ answers s i = leaving s i (calls_in (n - i) list i) answers ≡ left_of next answer s₀ (calls_in n list 0) answers₀

  module _ (list answers₀ : List ℕ) (n : ℕ) where
    pub whole_start : (s : S) → n ≤ length answers₀ → Whole list answers₀ n s answers₀ s 0
    unfolding leaving left_of
    whole_start s h =
        let cs = calls_in n list 0 in
        let l : length (map code_of (answers_of next answer s cs)) ≡ length cs = length-map (answers_of next answer s cs) code_of ∙ answers_long s cs in
        let few = calls_few n list 0 in
        let e : sets answers₀ 0 (map code_of (answers_of next answer s cs)) ≡ map code_of (answers_of next answer s cs) ++ drop (length cs) answers₀ =
        sets-eq (map code_of (answers_of next answer s cs)) answers₀ 0 (omega arith)
        ∙ ap (λ (k : ℕ). map code_of (answers_of next answer s cs) ++ drop k answers₀) (zero-add _ ∙ l)
        in
        rw (sub-zero n, zero-add (length cs), e)

    module _ (s₀ : S) (answers : List ℕ) (s : S) (i : ℕ) (w : Whole list answers₀ n s₀ answers s i) where
      pub whole_on : (s' : S) (a : ℕ) → i < n → is_call_at list i ≡ true → s' ≡ next s (call_at list i) → a ≡ code_of (answer s (call_at list i))
          → Whole list answers₀ n s₀ (set answers i a) s' (i + 1)
      unfolding leaving answers_of final_of
      whole_on s' a h t e f =
          let cs = calls_in (n - (i + 1)) list (i + 1) in
          let g : leaving s' (i + 1) cs (set answers i a) ≡ leaving s i (call_at list i ∷ cs) answers =
          let k : i + 1 + length cs ≡ i + suc (length cs) = omega arith in
          rw (e, f, k, add-one i)
          in
          g ∙ ap (λ (x : List Call). leaving s i x answers) (sym (calls_more n i list h t)) ∙ w

      -- no call to come
      last : calls_in (n - i) list i ≡ [] → leaves s answers i ≡ left_of next answer s₀ (calls_in n list 0) answers₀
      unfolding leaving answers_of final_of
      last e =
          let g : leaves s answers i ≡ leaving s i [] answers = rw (add-zero i) in
          g ∙ ap (λ (x : List Call). leaving s i x answers) (sym e) ∙ w

      -- the run stops at five numbers that are no call, or at its end
      pub whole_stop : i < n → is_call_at list i ≡ false
          → leaves s answers i ≡ left_of next answer s₀ (calls_in n list 0) answers₀
      whole_stop h t = last (calls_stop n i list h t)

      pub whole_end : n ≤ i → leaves s answers i ≡ left_of next answer s₀ (calls_in n list 0) answers₀
      whole_end h = last (calls_end n i list h)
