-- A number without bit 12: its other bits, and what control's tests ask of it.
use Prim.Native.Nat.{ℕ, ◌+◌, ◌*◌, ◌/◌, ◌%◌, ◌^◌, ◌<◌}
use native.Mathlib.Omega.{arith}
use native.Mathlib.Nat.{mul_assoc, add-mul-div_right, add-mul-mod_self_right}
use mathlib.Core.Path.{◌≡◌, refl, sym, ◌∙◌, ap, ap₂}
use lib.Dec.{eqb}
use lib.Pow.{pow_pos}
use borrow.Author.Tests.{eqb-true, eqb-false, eq-eqb, ne_eqb}
use Rattle.values.specs.Bits.{bit}
use Rattle.values.specs.Control.{kept, listed, control_read}
use Rattle.values.proofs.Cases.{case}
use Rattle.i_bit.specs.BitI.{number_without_i}

-- a field is the same with a multiple of the field's end added
field_same : (x d a b : ℕ) → 0 < a → (x + d * (b * a)) / a % b ≡ x / a % b
field_same x d a b h =
    let e : (x + d * (b * a)) / a ≡ x / a + d * b = ap (λ (y : ℕ). (x + y) / a) (omega arith) ∙ add-mul-div_right x (d * b) h in
    ap (λ (y : ℕ). y % b) e ∙ add-mul-mod_self_right (x / a) d b

-- two numbers with the same added are equal as the two are
test_same : (x y k : ℕ) → eqb (x + k) (y + k) ≡ eqb x y
test_same x y k =
    case (eqb x y)
    (λ t. let e : x ≡ y = eqb-true x y t in eq-eqb (x + k) (y + k) (omega arith) ∙ sym t)
    (λ t. let ne : x ≡ y → ⊥ = eqb-false x y t in ne_eqb (x + k) (y + k) (λ h. ne (omega arith)) ∙ sym t)

module _ (n : ℕ) where
  -- bit 12 added
  with_i : n ≡ number_without_i n + n / 0x1000 % 2 * 0x1000
  unfolding number_without_i
  with_i = omega arith

  no_i : number_without_i n / 0x1000 % 2 ≡ 0
  unfolding number_without_i
  no_i = omega arith

  pub without_twice : number_without_i (number_without_i n) ≡ number_without_i n
  unfolding number_without_i
  without_twice = omega arith

  -- a field that ends at or below bit 12
  field_without : (a b c : ℕ) → 0 < a → c * (b * a) ≡ 0x1000 → number_without_i n / a % b ≡ n / a % b
  field_without a b c h e =
      let i = n / 0x1000 % 2 in
      let f : i * c * (b * a) ≡ i * 0x1000 = mul_assoc i c (b * a) ∙ ap (λ (x : ℕ). i * x) e in
      sym (field_same (number_without_i n) (i * c) a b h) ∙ ap (λ (x : ℕ). (number_without_i n + x) / a % b) f
      ∙ ap (λ (x : ℕ). x / a % b) (sym with_i)

  pub bit_without : (k c : ℕ) → c * (2 * 2 ^ k) ≡ 0x1000 → bit (number_without_i n) k ≡ bit n k
  bit_without k c e = ap (λ (x : ℕ). eqb x 1) (field_without (2 ^ k) 2 c (pow_pos k) e)

  pub listed_without : listed (number_without_i n) ≡ listed n
  unfolding listed
  listed_without = rw (bit_without 0 0x800 refl, bit_without 2 0x200 refl, bit_without 3 0x100 refl)

  -- the fields that are kept
  low_field : number_without_i n % 0x10 ≡ n % 0x10
  unfolding number_without_i
  low_field = omega arith

  middle_field : number_without_i n / 0x100 % 4 ≡ n / 0x100 % 4
  middle_field = field_without 0x100 4 4 (omega arith) refl

  kept_with_i : kept n ≡ kept (number_without_i n) + n / 0x1000 % 2 * 0x1000
  unfolding kept
  kept_with_i = rw (no_i, low_field, middle_field) (omega arith)

  -- "others read as zero and are ignored on write": control has only the bits that are kept
  pub kept_without : eqb (kept (number_without_i n)) (number_without_i n) ≡ eqb (kept n) n
  kept_without =
      sym (ap₂ eqb kept_with_i with_i ∙ test_same (kept (number_without_i n)) (number_without_i n) (n / 0x1000 % 2 * 0x1000))

  without_kept : number_without_i (kept n) ≡ n % 0x10 + n / 0x100 % 4 * 0x100
  unfolding number_without_i kept
  without_kept = parts (n % 0x10) (n / 0x100 % 4) (n / 0x1000 % 2) (omega arith) (omega arith) (omega arith)
    where
      parts : (a b i : ℕ) → a < 0x10 → b < 4 → i < 2
          → (a + b * 0x100 + i * 0x1000) / 0x2000 * 0x2000 + (a + b * 0x100 + i * 0x1000) % 0x1000 ≡ a + b * 0x100
      parts a b i ha hb hi = omega arith

-- a value that a write keeps
pub kept_alike : (n : ℕ) → number_without_i (kept (number_without_i n)) ≡ number_without_i (kept n)
kept_alike n = without_kept (number_without_i n) ∙ rw (low_field n, middle_field n) (sym (without_kept n))

-- "4 to 6 read as one": of bits that are kept, nothing is carried into bit 12
no_carry : (n : ℕ) → number_without_i n < 0x400 → number_without_i (control_read n) ≡ control_read (number_without_i n)
unfolding number_without_i control_read
no_carry n h = omega arith

pub read_without : (n : ℕ) → kept n ≡ n → number_without_i (control_read (number_without_i n)) ≡ number_without_i (control_read n)
read_without n e =
    let f : number_without_i n ≡ n % 0x10 + n / 0x100 % 4 * 0x100 = ap number_without_i (sym e) ∙ without_kept n in
    let h : number_without_i n < 0x400 = omega arith in
    no_carry (number_without_i n) (rw (without_twice n) h) ∙ ap control_read (without_twice n) ∙ sym (no_carry n h)
