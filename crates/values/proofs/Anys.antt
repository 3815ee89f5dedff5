-- A test of some element of a list: what it means, and its steps.
use Prim.Native.Nat.{ℕ, zero, suc, ◌+◌, ◌<◌, ◌≤◌}
use native.Mathlib.Omega.{arith}
use native.Mathlib.Numerals.{add-one}
use mathlib.Core.Bool.{Bool, true, false}
use mathlib.Core.Path.{◌≡◌, refl}
use mathlib.Core.List.{List, [], ◌∷◌}
use lib.ListN.{length, get_or, drop, drop_of_length-le}
use lib.Seq.{drop-cons}
use Rattle.values.specs.Lists.{any}
use Rattle.values.proofs.Cases.{or_right, or_none}

-- what it means
module _ {A : Type 0} (p : A → Bool) (d : A) where
  pub any_none : (l : List A) → ((j : ℕ) → j < length l → p (get_or l j d) ≡ false) → any p l ≡ false
  unfolding any
  any_none [] f = refl
  any_none (x ∷ xs) f = rw (f 0 (omega arith), any_none xs (λ j h. f (suc j) (omega arith)))

  pub any_some : (l : List A) (j : ℕ) → j < length l → p (get_or l j d) ≡ true → any p l ≡ true
  unfolding any
  any_some [] j h e = absurd (omega arith)
  any_some (x ∷ xs) zero h e = rw e
  any_some (x ∷ xs) (suc j) h e = or_right (p x) (any p xs) (any_some xs j (omega arith) e)

  pub any_means : (l : List A) → any p l ≡ false → (j : ℕ) → j < length l → p (get_or l j d) ≡ false
  unfolding any
  any_means [] e j h = absurd (omega arith)
  any_means (x ∷ xs) e zero h = (or_none (p x) (any p xs) e).0
  any_means (x ∷ xs) e (suc j) h = any_means xs (or_none (p x) (any p xs) e).1 j (omega arith)

-- its steps along the list
module _ {A : Type 0} (p : A → Bool) (xs : List A) (d : A) (i : ℕ) where
  pub any_hit : i < length xs → p (get_or xs i d) ≡ true → any p (drop i xs) ≡ true
  unfolding any
  any_hit h t = rw (drop-cons xs i d h, t)

  pub any_on : i < length xs → p (get_or xs i d) ≡ false → any p (drop i xs) ≡ any p (drop (i + 1) xs)
  unfolding any
  any_on h t = rw (drop-cons xs i d h, t, add-one i)

  pub any_end : length xs ≤ i → any p (drop i xs) ≡ false
  unfolding any
  any_end h = rw (drop_of_length-le xs h)
