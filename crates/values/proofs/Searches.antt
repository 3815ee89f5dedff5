-- The steps of a search for the first match, and what its answer says.
use Rattle.std.specs.Prelude.{Some, None}
use Prim.Native.Nat.{ℕ, zero, suc, ◌+◌, ◌-◌, ◌<◌, ◌≤◌}
use native.Mathlib.Omega.{arith}
use native.Mathlib.Numerals.{add-one}
use native.Mathlib.Nat.{le_of_suc-le-suc, not-suc-le-zero}
use mathlib.Core.Bool.{Bool, true, false}
use mathlib.Core.Path.{◌≡◌}
use mathlib.Core.List.{List, [], ◌∷◌}
use lib.ListN.{length, get_or, drop, drop_of_length-le}
use lib.Seq.{drop-cons}
use Rattle.values.specs.Lists.{first_from}
use Rattle.values.proofs.Cases.{case}

module _ {A : Type 0} (p : A → Bool) (xs : List A) (d : A) (k i : ℕ) where
  -- the element at i matches, or the search goes on behind it
  pub search_hit : i < length xs → p (get_or xs i d) ≡ true → first_from p k (drop i xs) ≡ Some k
  unfolding first_from
  search_hit h t = rw (drop-cons xs i d h, t)

  pub search_on : i < length xs → p (get_or xs i d) ≡ false → first_from p k (drop i xs) ≡ first_from p (k + 1) (drop (i + 1) xs)
  unfolding first_from
  search_on h t = rw (drop-cons xs i d h, t, add-one i)

  pub search_end : length xs ≤ i → first_from p k (drop i xs) ≡ None
  unfolding first_from
  search_end h = rw (drop_of_length-le xs h)

-- what a search that found its match says
pub record Matched {A : Type 0} (p : A → Bool) (k : ℕ) (xs : List A) (d : A) (i : ℕ) : Type 0 where
  pub from : k ≤ i
  pub below : i < k + length xs
  pub match : p (get_or xs (i - k) d) ≡ true
  pub first : (j : ℕ) → j < i - k → p (get_or xs j d) ≡ false

pub matched : {A : Type 0} (p : A → Bool) (k : ℕ) (xs : List A) (d : A) (i : ℕ) → first_from p k xs ≡ Some i → Matched p k xs d i
unfolding first_from
matched p k [] d i e = let z : ◌≡◌ {A = ℕ} 0 1 = cc in absurd (omega arith)
matched p k (x ∷ xs) d i e =
    case (p x)
    (λ t.
    let f : Some k ≡ Some i = rw t at e in
    let q : k ≡ i = cc in
    let z : i - k ≡ 0 = omega arith in
    record { from = omega arith; below = omega arith; match = rw z t; first = λ j h. absurd (omega arith) })
    (λ t.
    let f : first_from p (k + 1) xs ≡ Some i = rw t at e in
    let m = matched p (k + 1) xs d i f in
    let z : i - k ≡ suc (i - (k + 1)) = omega arith in
    record {
      from = omega arith;
      below = omega arith;
      match = rw z m.match;
      first = elim [ zero ↦ λ h. t | suc n ↦ λ h. m.first n (omega arith) ];
    })

-- what a search that found none says
pub unmatched : {A : Type 0} (p : A → Bool) (k : ℕ) (xs : List A) (d : A) → first_from p k xs ≡ None
    → (i : ℕ) → i < length xs → p (get_or xs i d) ≡ false
unfolding first_from
unmatched p k [] d e i h = absurd (not-suc-le-zero h)
unmatched p k (x ∷ xs) d e zero h =
    case (p x) (λ t. let f : Some k ≡ None = rw t at e in let z : ◌≡◌ {A = ℕ} 0 1 = cc in absurd (omega arith)) (λ t. t)
unmatched p k (x ∷ xs) d e (suc i) h =
    case (p x)
    (λ t. let f : Some k ≡ None = rw t at e in let z : ◌≡◌ {A = ℕ} 0 1 = cc in absurd (omega arith))
    (λ t. unmatched p (k + 1) xs d (rw t at e) i (le_of_suc-le-suc h))
