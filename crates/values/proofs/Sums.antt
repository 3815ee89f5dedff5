-- A sum over a list with one element replaced, and over equal elements.
use Prim.Native.Nat.{ℕ, zero, suc, ◌+◌, ◌<◌, ◌≤◌}
use native.Mathlib.Omega.{arith}
use mathlib.Core.Path.{◌≡◌, refl}
use mathlib.Core.List.{List, [], ◌∷◌}
use lib.Dec.{ltb}
use lib.ListN.{length, get_or, set, replicate, get_or-eq_default}
use lib.Seq.{set_out}
use borrow.Author.Tests.{ltb-true, ltb-false}
use Rattle.values.specs.Lists.{sum}
use Rattle.values.proofs.Cases.{case}

module _ {A : Type 0} (g : A → ℕ) where
  -- one element replaced
  pub sum_set : (l : List A) (i : ℕ) (x d : A) → i < length l → sum g (set l i x) + g (get_or l i d) ≡ sum g l + g x
  unfolding sum
  sum_set [] i x d h = absurd (omega arith)
  sum_set (y ∷ ys) zero x d h = omega arith
  sum_set (y ∷ ys) (suc i) x d h = let e = sum_set ys i x d (omega arith) in omega arith

  -- an element replaced by one that counts at most k more
  pub sum_more : (l : List A) (i : ℕ) (x d : A) (k : ℕ) → g x ≤ g (get_or l i d) + k → sum g (set l i x) ≤ sum g l + k
  sum_more l i x d k h =
      case (ltb i (length l))
      (λ t. let e = sum_set l i x d (ltb-true i (length l) t) in omega arith)
      (λ t. rw (set_out l i x (ltb-false i (length l) t)) (omega arith))

  -- an element replaced by one that counts nothing
  pub sum_out : (l : List A) (i : ℕ) (x d : A) → g x ≡ 0 → g d ≡ 0 → g (get_or l i d) + sum g (set l i x) ≡ sum g l
  sum_out l i x d z n =
      case (ltb i (length l))
      (λ t. let e = sum_set l i x d (ltb-true i (length l) t) in omega arith)
      (λ t.
      let h = ltb-false i (length l) t in
      rw (set_out l i x h, get_or-eq_default l d h) (omega arith))

  -- elements that count nothing
  pub sum_replicate : (n : ℕ) (x : A) → g x ≡ 0 → sum g (replicate n x) ≡ 0
  unfolding sum
  sum_replicate zero x z = refl
  sum_replicate (suc n) x z = let e = sum_replicate n x z in omega arith
