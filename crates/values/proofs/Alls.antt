-- A test of every element of a list: what it means, and its steps; the steps of a sum.
use Prim.Native.Nat.{ℕ, zero, suc, ◌+◌, ◌<◌, ◌≤◌}
use native.Mathlib.Omega.{arith}
use native.Mathlib.Numerals.{add-one}
use mathlib.Core.Bool.{Bool, true, false}
use mathlib.Core.Path.{◌≡◌, refl, ap, ◌∙◌}
use mathlib.Core.List.{List, [], ◌∷◌, map}
use lib.ListN.{length, length-map, get_or, drop, drop_of_length-le}
use lib.Seq.{drop-cons}
use Rattle.values.specs.Lists.{all, sum}
use Rattle.values.proofs.Cases.{and_left, and_right, and-false}
use Rattle.values.proofs.Maps.{map_at}

-- what it means
module _ {A : Type 0} (p : A → Bool) (d : A) where
  pub all_true : (l : List A) → ((j : ℕ) → j < length l → p (get_or l j d) ≡ true) → all p l ≡ true
  unfolding all
  all_true [] f = refl
  all_true (x ∷ xs) f = rw (f 0 (omega arith), all_true xs (λ j h. f (suc j) (omega arith)))

  pub all_false : (l : List A) (j : ℕ) → j < length l → p (get_or l j d) ≡ false → all p l ≡ false
  unfolding all
  all_false [] j h e = absurd (omega arith)
  all_false (x ∷ xs) zero h e = rw e
  all_false (x ∷ xs) (suc j) h e = and-false (p x) (all p xs) (all_false xs j (omega arith) e)

  pub all_means : (l : List A) → all p l ≡ true → (j : ℕ) → j < length l → p (get_or l j d) ≡ true
  unfolding all
  all_means [] e j h = absurd (omega arith)
  all_means (x ∷ xs) e zero h = and_left (p x) (all p xs) e
  all_means (x ∷ xs) e (suc j) h = all_means xs (and_right (p x) (all p xs) e) j (omega arith)

-- its steps along the list
module _ {A : Type 0} (p : A → Bool) (xs : List A) (d : A) (i : ℕ) where
  pub all_no : i < length xs → p (get_or xs i d) ≡ false → all p (drop i xs) ≡ false
  unfolding all
  all_no h t = rw (drop-cons xs i d h, t)

  pub all_on : i < length xs → p (get_or xs i d) ≡ true → all p (drop i xs) ≡ all p (drop (i + 1) xs)
  unfolding all
  all_on h t = rw (drop-cons xs i d h, t, add-one i)

  pub all_end : length xs ≤ i → all p (drop i xs) ≡ true
  unfolding all
  all_end h = rw (drop_of_length-le xs h)

-- the same of elements that words stand for
module _ {A : Type 0} (p : A → Bool) (f : ℕ → A) (d : A) (z : f 0 ≡ d) (ws : List ℕ) (i : ℕ) where
  at : p (get_or (map f ws) i d) ≡ p (f (get_or ws i 0))
  at = ap p (map_at f d z ws i)

  pub words_no : i < length ws → p (f (get_or ws i 0)) ≡ false → all p (drop i (map f ws)) ≡ false
  words_no h t = all_no p (map f ws) d i (rw (length-map ws f) h) (at ∙ t)

  pub words_on : i < length ws → p (f (get_or ws i 0)) ≡ true → all p (drop i (map f ws)) ≡ all p (drop (i + 1) (map f ws))
  words_on h t = all_on p (map f ws) d i (rw (length-map ws f) h) (at ∙ t)

  pub words_end : length ws ≤ i → all p (drop i (map f ws)) ≡ true
  words_end h = all_end p (map f ws) d i (rw (length-map ws f) h)

-- a sum over the lines that words stand for
module _ {A : Type 0} (g : A → ℕ) (f : ℕ → A) (d : A) (z : f 0 ≡ d) (ws : List ℕ) (i : ℕ) where
  pub sum_on : i < length ws → sum g (drop i (map f ws)) ≡ g (f (get_or ws i 0)) + sum g (drop (i + 1) (map f ws))
  unfolding sum
  sum_on h = rw (drop-cons (map f ws) i d (rw (length-map ws f) h), map_at f d z ws i, add-one i)

  pub sum_end : length ws ≤ i → sum g (drop i (map f ws)) ≡ 0
  unfolding sum
  sum_end h = rw (drop_of_length-le (map f ws) {i = i} (rw (length-map ws f) h))
