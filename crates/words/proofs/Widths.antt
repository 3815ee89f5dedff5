-- The widths 1, 2 and 4.
use Prim.Native.Nat.{ℕ}
use mathlib.Core.Bool.{Bool, true, false, ◌||◌}
use mathlib.Core.Path.{◌≡◌, refl}
use lib.Dec.{eqb}
use borrow.Author.Tests.{eqb-true, ne_eqb}
use Rattle.words.specs.Words.{is_width}

-- a width that is neither 4 nor 2 is 1
pub is_one : (w : ℕ) → is_width w ≡ true → (w ≡ 4 → ⊥) → (w ≡ 2 → ⊥) → w ≡ 1
is_one w h n4 n2 = eqb-true w 1 (or_left (eqb w 1) (rw (ne_eqb w 2 n2, ne_eqb w 4 n4) at h))
  where
    or_left : (b : Bool) → (b || false) ≡ true → b ≡ true
    or_left true e = refl
    or_left false e = e
