-- The bytes of a map: none exceeds 1 if the greatest does not.
use Prim.Native.Nat.{ℕ, max, ◌*◌, ◌/◌, ◌%◌}
use native.Mathlib.Omega.{arith}
use mathlib.Core.Bool.{Bool, true, false, ◌&&◌}
use mathlib.Core.Path.{◌≡◌, refl, ◌∙◌, ap}
use Rattle.std.specs.List.{fold}
use Rattle.std.proofs.lemmas.Bool.Decides.{nat_tests}
use mathlib.Core.List.{List, [], ◌∷◌}
use lib.Dec.{eqb, leb}
use lib.ListN.{length}
use borrow.Author.Tests.{eq-eqb, ne_eqb, eqb-true}
use Rattle.values.specs.Lists.{all}
use Rattle.values.proofs.Cases.{and_left}
use Rattle.refusals.specs.Refusals.{map_fits}

abbrev pub low : ℕ → Bool
low b = leb b 1

-- the greater of two numbers
max_low : (a b : ℕ) → low (max a b) ≡ (low a && low b)
max_low a b = grind (arith, nat_tests)

-- the greatest of some, from one on
pub greatest_low : (most : ℕ) (xs : List ℕ) → low (fold max most xs) ≡ (low most && all low xs)
unfolding all
greatest_low most [] = always (low most)
  where
    always : (b : Bool) → b ≡ (b && true)
    always true = refl
    always false = refl
greatest_low most (x ∷ xs) =
    greatest_low (max most x) xs ∙ ap (λ (b : Bool). b && all low xs) (max_low most x) ∙ and_assoc (low most) (low x) (all low xs)
  where
    and_assoc : (a b d : Bool) → ((a && b) && d) ≡ (a && (b && d))
    and_assoc true b d = refl
    and_assoc false b d = refl

-- ---- the map fits

pub quarter_fits : (n : ℕ) (bad : List ℕ) → n % 4 ≡ 0 → length bad ≡ n / 4 → all low bad ≡ map_fits n bad
unfolding map_fits
quarter_fits n bad h e = rw (eq-eqb (length bad * 4) n (omega arith))

pub other_length : (n : ℕ) (bad : List ℕ) → (length bad ≡ n / 4 → ⊥) → false ≡ map_fits n bad
unfolding map_fits
other_length n bad d = rw (ne_eqb (length bad * 4) n (λ e. d (omega arith)))

pub no_quarter : (n : ℕ) (bad : List ℕ) → (n % 4 ≡ 0 → ⊥) → false ≡ map_fits n bad
unfolding map_fits
no_quarter n bad d = rw (ne_eqb (length bad * 4) n (λ e. d (omega arith)))

-- what a map that fits has: one byte a word
pub fits_length : (n : ℕ) (bad : List ℕ) → map_fits n bad ≡ true → length bad * 4 ≡ n
unfolding map_fits
fits_length n bad e = eqb-true (length bad * 4) n (and_left (eqb (length bad * 4) n) (all low bad) e)
