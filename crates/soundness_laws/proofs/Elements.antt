-- A test of every element of a list, for each index; tests by cases, and seven tests of which all hold.
use Prim.Native.Nat.{ℕ}
use mathlib.Core.Bool.{Bool, true, false, cond, ◌&&◌}
use mathlib.Core.Path.{◌≡◌, ◌∙◌, ap}
use mathlib.Core.List.{List}
use lib.Dec.{ltb}
use lib.ListN.{length, length-replicate, get_or, get_or-replicate, replicate, get_or-eq_default}
use borrow.Author.Tests.{ltb-true, ltb-false}
use Rattle.values.specs.Lists.{all}
use Rattle.values.proofs.Cases.{case, and_left, and_right}
use Rattle.values.proofs.Alls.{all_true, all_means}

-- ---- a test of every element that the default passes

module _ {A : Type 0} (p : A → Bool) (d : A) (e : p d ≡ true) (l : List A) where
  pub each_means : all p l ≡ true → (i : ℕ) → p (get_or l i d) ≡ true
  each_means h i =
      case (ltb i (length l))
      (λ t. all_means p d l h i (ltb-true i (length l) t))
      (λ t. ap p (get_or-eq_default l d (ltb-false i (length l) t)) ∙ e)

  pub each_of : ((i : ℕ) → p (get_or l i d) ≡ true) → all p l ≡ true
  each_of f = all_true p d l (λ j h. f j)

-- an element of a list of equal elements
pub same_at : {A : Type 0} (n : ℕ) (x : A) (i : ℕ) → get_or (replicate n x) i x ≡ x
same_at n x i =
    case (ltb i n)
    (λ t. get_or-replicate n i x x (ltb-true i n t))
    (λ t. get_or-eq_default (replicate n x) x {n = i} (rw (length-replicate n x) (ltb-false i n t)))

-- a test by cases
pub choice_yes : (b x y : Bool) → b ≡ true → cond b x y ≡ true → x ≡ true
choice_yes b x y e h = rw e at h

pub choice_no : (b x y : Bool) → b ≡ false → cond b x y ≡ true → y ≡ true
choice_no b x y e h = rw e at h

-- seven tests of which all hold
pub record Seven (a b c d f g i : Bool) : Type 0 where
  pub first : a ≡ true
  pub second : b ≡ true
  pub third : c ≡ true
  pub fourth : d ≡ true
  pub fifth : f ≡ true
  pub sixth : g ≡ true
  pub seventh : i ≡ true

pub seven : (a b c d f g i : Bool) → (a && (b && (c && (d && (f && (g && i)))))) ≡ true → Seven a b c d f g i
seven a b c d f g i h =
    let h1 = and_right a (b && (c && (d && (f && (g && i))))) h in
    let h2 = and_right b (c && (d && (f && (g && i)))) h1 in
    let h3 = and_right c (d && (f && (g && i))) h2 in
    let h4 = and_right d (f && (g && i)) h3 in
    let h5 = and_right f (g && i) h4 in
    record {
      first = and_left a (b && (c && (d && (f && (g && i))))) h;
      second = and_left b (c && (d && (f && (g && i)))) h1;
      third = and_left c (d && (f && (g && i))) h2;
      fourth = and_left d (f && (g && i)) h3;
      fifth = and_left f (g && i) h4;
      sixth = and_left g i h5;
      seventh = and_right g i h5;
    }
