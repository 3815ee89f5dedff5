-- The mask without the bytes of bad words, bit by bit.
use Prim.Native.Nat.{ℕ, zero, suc, ◌+◌, ◌-◌, ◌*◌, ◌/◌, ◌%◌, ◌^◌, ◌<◌}
use native.Mathlib.Omega.{arith}
use native.Mathlib.Nat.{zero-div}
use mathlib.Core.Bool.{Bool, false, not, ◌&&◌}
use mathlib.Core.Path.{◌≡◌, sym, ◌∙◌, ap}
use mathlib.Core.List.{List}
use lib.Dec.{eqb, ltb}
use lib.Pow.{shr-shr}
use borrow.Author.Tests.{ltb-true, ltb-false}
use Rattle.values.specs.Bits.{bit}
use Rattle.values.proofs.Cases.{case}
use Rattle.bus.specs.Physical.{is_bad}
use Rattle.buffer.specs.Buffer.{word_mask, good_words}

-- the bits of a number whose lowest four are x
low_bit : (x y k : ℕ) → x < 16 → k < 4 → bit (x + 16 * y) k ≡ bit x k
low_bit x y zero h l = let e : (x + 16 * y) / 1 % 2 ≡ x / 1 % 2 = omega arith in rw e
low_bit x y (suc zero) h l = let e : (x + 16 * y) / 2 % 2 ≡ x / 2 % 2 = omega arith in rw e
low_bit x y (suc (suc zero)) h l = let e : (x + 16 * y) / 4 % 2 ≡ x / 4 % 2 = omega arith in rw e
low_bit x y (suc (suc (suc zero))) h l = let e : (x + 16 * y) / 8 % 2 ≡ x / 8 % 2 = omega arith in rw e
low_bit x y (suc (suc (suc (suc k)))) h l = absurd (omega arith)

high_bit : (x y k : ℕ) → x < 16 → bit (x + 16 * y) (4 + k) ≡ bit y k
high_bit x y k h =
    let e : (x + 16 * y) / 16 ≡ y = omega arith in
    ap (λ (n : ℕ). eqb (n % 2) 1) (sym (shr-shr (x + 16 * y) 4 k)) ∙ ap (λ (n : ℕ). bit n k) e

-- the lowest four bits of a number, and those above
of_low : (n k : ℕ) → k < 4 → bit (n % 16) k ≡ bit n k
of_low n k h =
    let e : n ≡ n % 16 + 16 * (n / 16) = omega arith in
    sym (ap (λ (x : ℕ). bit x k) e ∙ low_bit (n % 16) (n / 16) k (omega arith) h)

of_high : (n k : ℕ) → bit (n / 16) k ≡ bit n (4 + k)
of_high n k = ap (λ (x : ℕ). eqb (x % 2) 1) (shr-shr n 4 k)

-- no bit is set in 0
pub zero_bit : (k : ℕ) → bit 0 k ≡ false
zero_bit k = rw (zero-div (2 ^ k))

module _ (bad : List ℕ) where
  mask_low : (w mask : ℕ) → word_mask bad w mask < 16
  mask_low w mask = case (is_bad bad w) (λ t. rw t (omega arith)) (λ t. rw t (omega arith))

  word_bit : (w mask k : ℕ) → k < 4 → bit (word_mask bad w mask) k ≡ (not (is_bad bad w) && bit mask k)
  word_bit w mask k h = case (is_bad bad w) (λ t. rw t (zero_bit k)) (λ t. rw t (of_low mask k h))

  -- where no word of a block is bad, the whole mask is left
  pub good_all : (w mask : ℕ) → ((k : ℕ) → k < 4 → is_bad bad (w + k) ≡ false) → good_words bad w 4 mask ≡ mask % 0x10000
  unfolding good_words
  good_all w mask h =
      let i : w + 0 ≡ w = omega arith in
      let j : w + 2 ≡ w + 1 + 1 = omega arith in
      let k : w + 3 ≡ w + 1 + 1 + 1 = omega arith in
      rw (
        ap (is_bad bad) (sym i) ∙ h 0 (omega arith),
        h 1 (omega arith),
        ap (is_bad bad) (sym j) ∙ h 2 (omega arith),
        ap (is_bad bad) (sym k) ∙ h 3 (omega arith),
      ) (omega arith)

  -- a bit of the mask that is left is the mask's, unless its byte's word is bad
  pub good_bit : (n w mask i : ℕ) → i < 4 * n → bit (good_words bad w n mask) i ≡ (not (is_bad bad (w + i / 4)) && bit mask i)
  unfolding good_words
  good_bit zero w mask i h = absurd (omega arith)
  good_bit (suc n) w mask i h =
      let rest = good_words bad (w + 1) n (mask / 16) in
      case (ltb i 4)
      (λ t.
      let l = ltb-true i 4 t in
      let e : w + i / 4 ≡ w = omega arith in
      low_bit (word_mask bad w mask) rest i (mask_low w mask) l ∙ word_bit w mask i l ∙ ap (λ (x : ℕ). not (is_bad bad x) && bit mask i) (sym e))
      (λ t.
      let l = ltb-false i 4 t in
      let e : 4 + (i - 4) ≡ i = omega arith in
      let f : w + 1 + (i - 4) / 4 ≡ w + i / 4 = omega arith in
      ap (λ (x : ℕ). bit (word_mask bad w mask + 16 * rest) x) (sym e) ∙ high_bit (word_mask bad w mask) rest (i - 4) (mask_low w mask)
      ∙ good_bit n (w + 1) (mask / 16) (i - 4) (omega arith)
      ∙ ap (λ (x : ℕ). not (is_bad bad x) && bit (mask / 16) (i - 4)) f
      ∙ ap (λ (x : Bool). not (is_bad bad (w + i / 4)) && x) (of_high mask (i - 4) ∙ ap (bit mask) e))
