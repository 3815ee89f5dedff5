-- The cases of refusals 1 to 4.
use Prim.Native.Nat.{ℕ, ◌%◌, ◌≤◌}
use native.Mathlib.Omega.{arith}
use mathlib.Core.Bool.{true, false}
use mathlib.Core.Path.{◌≡◌, refl, sym, ◌∙◌}
use mathlib.Core.List.{[], ◌∷◌, ◌++◌}
use lib.Dec.{eqb, leb}
use lib.ListN.{length}
use borrow.Author.Tests.{eq-eqb, ne_eqb, le-leb, eqb-true, leb-true, not-false}
use Rattle.values.specs.Lists.{all}
use Rattle.values.specs.Rows.{first_met}
use Rattle.values.specs.declared.Call.{Call}
use Rattle.values.specs.declared.Call.TheVariants.{Read, Write}
use Rattle.values.specs.declared.Call.TheVariants as calls
use Rattle.values.specs.declared.Answer.TheVariants as answer
use Rattle.values.proofs.Cases.{and_left, and_right, and_both}
use Rattle.refusals.specs.Refusals.{refusal_in, length_fits, store_fits, map_fits, row1, row2, row3, row4, row5, row16, call_rows}
use Rattle.refusals.proofs.Rows.{Numbered, row_passed, rows_met}
use Rattle.machine.specs.Machine.{Machine, memory_of, bad_of, store_of, stepped_from}
use Rattle.soundness.specs.Soundness.{sound}
use Rattle.step.specs.Meets.{state_meets, state_refusal, refusal}
use Rattle.step.specs.Call.{served}

-- a length that fits, and back
pub lengths_fit : (n : ℕ) → n % 32 ≡ 0 → n ≤ 0x1000000 → length_fits n ≡ true
lengths_fit n h g = and_both (eqb (n % 32) 0) (leb n 0x1000000) (eq-eqb (n % 32) 0 h) (le-leb n 0x1000000 g)

pub record Fitting (n : ℕ) : Type 0 where
  pub whole : n % 32 ≡ 0
  pub short : n ≤ 0x1000000

pub fitting : (n : ℕ) → length_fits n ≡ true → Fitting n
fitting n h =
    record {
      whole = eqb-true (n % 32) 0 (and_left (eqb (n % 32) 0) (leb n 0x1000000) h);
      short = leb-true n 0x1000000 (and_right (eqb (n % 32) 0) (leb n 0x1000000) h);
    }

-- what no refusal by 1 or 2 says
pub lent_fits : (n k : ℕ) → refusal_in (row1 n ∷ row2 k ∷ []) ≡ 0 → (length_fits n ≡ true) × (k ≡ 16384)
lent_fits n k h =
    let h1 = row_passed (row1 n) (row2 k ∷ []) (omega arith) h in
    let h2 = row_passed (row2 k) [] (omega arith) h1.1 in
    (not-false (length_fits n) h1.0, eqb-true k 16384 (not-false (store_fits k) h2.0))

-- ---- by the first condition met

module _ (m : Machine) where
  -- 1 and 2, by the lengths
  pub refused_lent : (n : ℕ) → n ≡ refusal_in (row1 (length (memory_of m)) ∷ row2 (length (store_of m)) ∷ []) → (n ≡ 0 → ⊥) → n ≡ state_refusal m
  unfolding state_refusal
  refused_lent n e z =
      e ∙ sym (rows_met (row1 (length (memory_of m)) ∷ row2 (length (store_of m)) ∷ [])
      (row3 (sound m) ∷ row4 m.size (length (memory_of m)) ∷ row16 (length (memory_of m)) (bad_of m) ∷ []) (λ h. z (e ∙ h)))

  module _ (e : length_fits (length (memory_of m)) ≡ true) (g : length (store_of m) ≡ 16384) where
    pub refused_unsound : sound m ≡ false → 3 ≡ state_refusal m
    unfolding state_refusal first_met
    refused_unsound h = rw (e, eq-eqb (length (store_of m)) 16384 g, h)

    module _ (s : sound m ≡ true) where
      pub refused_size : (m.size ≡ length (memory_of m) → ⊥) → 4 ≡ state_refusal m
      unfolding state_refusal first_met
      refused_size h = rw (e, eq-eqb (length (store_of m)) 16384 g, s, ne_eqb m.size (length (memory_of m)) h)

      module _ (h : m.size ≡ length (memory_of m)) where
        pub refused_map : map_fits (length (memory_of m)) (bad_of m) ≡ false → 16 ≡ state_refusal m
        unfolding state_refusal first_met
        refused_map f = rw (e, eq-eqb (length (store_of m)) 16384 g, s, eq-eqb m.size (length (memory_of m)) h, f)

        pub not_state_refused : map_fits (length (memory_of m)) (bad_of m) ≡ true → 0 ≡ state_refusal m
        unfolding state_refusal first_met
        not_state_refused f = rw (e, eq-eqb (length (store_of m)) 16384 g, s, eq-eqb m.size (length (memory_of m)) h, f)

-- ---- what no state refusal says

pub record Accepts (m : Machine) : Type 0 where
  pub whole : length (memory_of m) % 32 ≡ 0
  pub short : length (memory_of m) ≤ 0x1000000
  pub store : length (store_of m) ≡ 16384
  pub is_sound : sound m ≡ true
  pub size : m.size ≡ length (memory_of m)
  pub map_fits_lem : map_fits (length (memory_of m)) (bad_of m) ≡ true

pub accepts : (m : Machine) → state_refusal m ≡ 0 → Accepts m
unfolding state_refusal
accepts m h =
    let n = length (memory_of m) in
    let last = row16 n (bad_of m) ∷ [] in
    let h1 = row_passed (row1 n) (row2 (length (store_of m)) ∷ row3 (sound m) ∷ row4 m.size n ∷ last) (omega arith) h in
    let h2 = row_passed (row2 (length (store_of m))) (row3 (sound m) ∷ row4 m.size n ∷ last) (omega arith) h1.1 in
    let h3 = row_passed (row3 (sound m)) (row4 m.size n ∷ last) (omega arith) h2.1 in
    let h4 = row_passed (row4 m.size n) last (omega arith) h3.1 in
    let h5 = row_passed (row16 n (bad_of m)) [] (omega arith) h4.1 in
    let fits = fitting n (not-false (length_fits n) h1.0) in
    record {
      whole = fits.whole;
      short = fits.short;
      store = eqb-true (length (store_of m)) 16384 (not-false (store_fits (length (store_of m))) h2.0);
      is_sound = not-false (sound m) h3.0;
      size = eqb-true m.size n (not-false (eqb m.size n) h4.0);
      map_fits_lem = not-false (map_fits n (bad_of m)) h5.0;
    }

-- none of them gives 0
pub state_numbered : (m : Machine) → Numbered (state_meets m)
unfolding all
state_numbered m = refl

-- the rows that a call meets: those of the state, then 5, then those that the call alone decides
pub refusal_rows : (m : Machine) (c : Call) → refusal m c ≡ refusal_in (state_meets m ++ (row5 m.counts.calls ∷ call_rows c))
unfolding refusal
refusal_rows m (calls.Access a) = refl
refusal_rows m (Read t) = refl
refusal_rows m (Write t v) = refl

-- a call on a machine that one of 1 to 4 and 16 holds of is refused by that number
pub state_refused : (m : Machine) (c : Call) (n : ℕ) → n ≡ state_refusal m → (n ≡ 0 → ⊥) → served m c ≡ stepped_from m (answer.Refused n)
unfolding served state_refusal
state_refused m c n e z =
    let f : refusal m c ≡ n = refusal_rows m c ∙ rows_met (state_meets m) (row5 m.counts.calls ∷ call_rows c) (λ h. z (e ∙ h)) ∙ sym e in
    rw (f, ne_eqb n 0 z)
