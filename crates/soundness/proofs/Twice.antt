-- No two valid lines of a list with equal tags, for all i and j.
use Prim.Native.Nat.{ℕ, zero, suc, ◌<◌}
use native.Mathlib.Omega.{arith}
use mathlib.Core.Bool.{true, false}
use mathlib.Core.Path.{◌≡◌, refl}
use mathlib.Core.List.{List, [], ◌∷◌}
use lib.ListN.{length, get_or}
use Rattle.values.specs.Lists.{any}
use Rattle.values.specs.Empty.{empty_line}
use Rattle.values.specs.declared.Line.{Line}
use Rattle.values.proofs.Cases.{or_right, or_none}
use Rattle.values.proofs.Anys.{any_none, any_some, any_means}
use Rattle.soundness.specs.Soundness.{same_tag, tag_twice}

-- "two valid lines of one set with equal tags"
pub twice_none : (l : List Line) → ((i j : ℕ) → i < j → j < length l → same_tag (get_or l i empty_line) (get_or l j empty_line) ≡ false) → tag_twice l ≡ false
unfolding tag_twice
twice_none [] f = refl
twice_none (x ∷ xs) f =
    rw (
      any_none (same_tag x) empty_line xs (λ j h. f 0 (suc j) (omega arith) (omega arith)),
      twice_none xs (λ i j k h. f (suc i) (suc j) (omega arith) (omega arith)),
    )

pub twice_some : (l : List Line) (i j : ℕ) → i < j → j < length l → same_tag (get_or l i empty_line) (get_or l j empty_line) ≡ true → tag_twice l ≡ true
unfolding tag_twice
twice_some [] i j k h e = absurd (omega arith)
twice_some (x ∷ xs) i zero k h e = absurd (omega arith)
twice_some (x ∷ xs) zero (suc j) k h e = rw (any_some (same_tag x) empty_line xs j (omega arith) e)
twice_some (x ∷ xs) (suc i) (suc j) k h e = or_right (any (same_tag x) xs) (tag_twice xs) (twice_some xs i j (omega arith) (omega arith) e)

pub twice_means : (l : List Line) → tag_twice l ≡ false → (i j : ℕ) → i < j → j < length l → same_tag (get_or l i empty_line) (get_or l j empty_line) ≡ false
unfolding tag_twice
twice_means [] e i j k h = absurd (omega arith)
twice_means (x ∷ xs) e i zero k h = absurd (omega arith)
twice_means (x ∷ xs) e zero (suc j) k h = any_means (same_tag x) empty_line xs (or_none (any (same_tag x) xs) (tag_twice xs) e).0 j (omega arith)
twice_means (x ∷ xs) e (suc i) (suc j) k h = twice_means xs (or_none (any (same_tag x) xs) (tag_twice xs) e).1 i j (omega arith) (omega arith)
