use Rattle.std.proofs.Common.{◌≡◌, ℕ, ◌+◌, ◌/◌, ◌%◌, ◌<◌, ap, ◌∙◌, arith}
use lib.Bits.{bit_or, bit_and, and_zero_l, or_zero_r, or_zero_l, and_comm, and_mask}
use Rattle.tags_test.proofs.key_of.Goals as goal

-- the key, where the mask is x
abbrev key : ℕ → ℕ → ℕ → ℕ
key w p x = bit_or (w / 0x100000000) (bit_and x (0x800000 + p))

valid_key : (w p x : ℕ) → x ≡ 0 → key w p x ≡ w / 0x100000000
valid_key w p x z =
    ap (λ (y : ℕ). key w p y) z ∙ ap (λ (y : ℕ). bit_or (w / 0x100000000) y) (and_zero_l (0x800000 + p)) ∙ or_zero_r (w / 0x100000000)

empty_key : (w p x : ℕ) → w ≡ 0 → x ≡ 0xFFFFFFFF → 0x800000 + p < 0x100000000 → key w p x ≡ 0x800000 + p
empty_key w p x e z h =
    let low : (0x800000 + p) % 0x100000000 ≡ 0x800000 + p = omega arith in
    ap (λ (y : ℕ). key y p x) e ∙ or_zero_l (bit_and x (0x800000 + p))
    ∙ ap (λ (y : ℕ). bit_and y (0x800000 + p)) z ∙ and_comm 0xFFFFFFFF (0x800000 + p) ∙ and_mask (0x800000 + p) 32 ∙ low

pub returns : goal.returns
returns c = let a = c.args in
    let x = (a.w % 2 + 0xFFFFFFFF) % 0x100000000 in
    (λ e. let z : x ≡ 0 = omega arith in valid_key a.w a.p x z, λ e. let z : x ≡ 0xFFFFFFFF = omega arith in empty_key a.w a.p x e z (omega arith))
