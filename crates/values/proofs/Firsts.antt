-- What a search for the first match answers, by which elements match.
use Rattle.std.specs.Prelude.{Option, Some, None}
use Prim.Native.Nat.{ℕ, zero, suc, ◌+◌, ◌<◌}
use native.Mathlib.Omega.{arith}
use mathlib.Core.Bool.{Bool, true, false}
use mathlib.Core.Path.{◌≡◌, refl, ◌∙◌, ap}
use mathlib.Core.List.{List, [], ◌∷◌}
use lib.ListN.{length, get_or}
use Rattle.values.specs.Lists.{first_from}

module _ {A : Type 0} (p : A → Bool) (d : A) where
  -- the first that matches is at i
  pub first_at : (k : ℕ) (xs : List A) (i : ℕ) → i < length xs → p (get_or xs i d) ≡ true → ((j : ℕ) → j < i → p (get_or xs j d) ≡ false)
      → first_from p k xs ≡ Some (k + i)
  unfolding first_from
  first_at k [] i h t f = absurd (omega arith)
  first_at k (x ∷ xs) zero h t f = let e : k ≡ k + 0 = omega arith in rw t (ap {B = Option ℕ} Some e)
  first_at k (x ∷ xs) (suc i) h t f =
      let e : k + 1 + i ≡ k + suc i = omega arith in
      rw (f 0 (omega arith)) (first_at (k + 1) xs i (omega arith) t (λ j l. f (suc j) (omega arith)) ∙ ap {B = Option ℕ} Some e)

  -- none matches
  pub first_none : (k : ℕ) (xs : List A) → ((j : ℕ) → j < length xs → p (get_or xs j d) ≡ false) → first_from p k xs ≡ None
  unfolding first_from
  first_none k [] f = refl
  first_none k (x ∷ xs) f = rw (f 0 (omega arith)) (first_none (k + 1) xs (λ j h. f (suc j) (omega arith)))
