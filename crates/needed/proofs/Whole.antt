-- Where all of a rule is left, the tests of the table are term 3's.
use Prim.Native.Nat.{ℕ, zero, suc}
use mathlib.Core.Bool.{Bool, true, false, ◌&&◌}
use mathlib.Core.Path.{◌≡◌, refl}
use mathlib.Core.List.{List}
use lib.ListN.{length}
use Rattle.values.specs.declared.Call.{Call}
use Rattle.terms.specs.Positions.{each, r2_physical, r2_virtual, r3, r4, r5, r6_inside, r6_equal, throughout, keeps_rules}
use Rattle.needed.specs.Needed.{Rule, R2, R3, R4, R5, R6, keeps_but, test, Whole}

and_swap : (a b c d : Bool) → ((a && b) && (c && d)) ≡ ((a && c) && (b && d))
and_swap true true c d = refl
and_swap true false true d = refl
and_swap true false false d = refl
and_swap false b c d = refl

and_assoc : (a b c : Bool) → ((a && b) && c) ≡ (a && (b && c))
and_assoc true b c = refl
and_assoc false b c = refl

-- two tests at each position
each_and : (n : ℕ) (f g : ℕ → Bool) → each n (λ j. f j && g j) ≡ (each n f && each n g)
unfolding each
each_and zero f g = refl
each_and (suc n) f g = rw (each_and n f g) (and_swap (each n f) (each n g) (f n) (g n))

module _ (memory bad : List ℕ) (list : List Call) where
  abbrev all : (List ℕ → List ℕ → List Call → ℕ → Bool) → Bool
  all rule = throughout memory bad list (rule memory bad list)

  -- R2 and R6 in their halves
  halves : keeps_but R2 (test R2) memory bad list ≡ keeps_rules memory bad list
  unfolding keeps_rules
  halves =
      rw (
        each_and (length list) (r2_physical memory bad list) (r2_virtual memory bad list),
        each_and (length list) (r6_inside memory bad list) (r6_equal memory bad list),
      )
      (and_assoc (all r2_physical) (all r2_virtual) (all r3 && (all r4 && (all r5 && (all r6_inside && all r6_equal)))))

  rules : (rule : Rule) → keeps_but rule (test rule) memory bad list ≡ keeps_rules memory bad list
  rules R2 = halves
  rules R3 = halves
  rules R4 = halves
  rules R5 = halves
  rules R6 = halves

pub whole : Whole
whole = rules
