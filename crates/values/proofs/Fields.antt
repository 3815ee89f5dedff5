-- The fields of a number, one field at a time: `a` is the value of a field's lowest bit, `b` the number of its values.
use Prim.Native.Nat.{ℕ, ◌+◌, ◌*◌, ◌/◌, ◌%◌, ◌^◌, ◌<◌}
use native.Mathlib.Omega.{arith}
use native.Mathlib.Nat.{mod-add-div, div-div-eq-div-mul, add-mul-mod_self_left, add-mul-div_left, mod-eq_of_lt, div-eq_of_lt}
use mathlib.Core.Bool.{Bool}
use mathlib.Core.Path.{◌≡◌, sym, ◌∙◌, ap}
use lib.Dec.{eqb}
use borrow.Author.Tests.{eqb-true, eqb-false}
use Rattle.values.specs.Bits.{bit, number}
use Rattle.values.proofs.Cases.{case, number_bit}

-- a bit, as a number
pub bit_number : (w k : ℕ) → number (bit w k) ≡ w / 2 ^ k % 2
bit_number w k = low (w / 2 ^ k)
  where
    low : (n : ℕ) → number (eqb (n % 2) 1) ≡ n % 2
    low n =
        case (eqb (n % 2) 1) (λ t. let e : n % 2 ≡ 1 = eqb-true (n % 2) 1 t in rw e)
        (λ t. let ne = eqb-false (n % 2) 1 t in let e : n % 2 ≡ 0 = omega arith in rw e)

-- and a number that is a bit's tells the bit
pub bit_is : (n : ℕ) (b : Bool) → n ≡ number b → eqb n 1 ≡ b
bit_is n b e = ap (λ (x : ℕ). eqb x 1) e ∙ number_bit b

-- a field and what is above it make the number that begins there
pub field_and_above : (w a b : ℕ) → w / a % b + b * (w / (a * b)) ≡ w / a
field_and_above w a b = rw (← div-div-eq-div-mul w a b) (mod-add-div (w / a) b)

-- a number that begins there with a field x, and goes on with y: the field, and what is above it
module _ (w a b x y : ℕ) (h : x < b) (e : w / a ≡ x + b * y) where
  pub field_is : w / a % b ≡ x
  field_is = ap (λ (n : ℕ). n % b) e ∙ add-mul-mod_self_left x b y ∙ mod-eq_of_lt h

  pub above_is : w / (a * b) ≡ y
  above_is =
      let z : x / b ≡ 0 = div-eq_of_lt h in
      sym (div-div-eq-div-mul w a b) ∙ ap (λ (n : ℕ). n / b) e ∙ add-mul-div_left x y (omega arith) ∙ rw z (omega arith)
