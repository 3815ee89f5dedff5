-- The test whether an entry masks a byte of what is read, from the entries' words, and the masks of accesses.
use Prim.Native.Nat.{ℕ, zero, suc, ◌+◌, ◌*◌, ◌%◌, ◌^◌, ◌<◌, ◌≤◌}
use native.Mathlib.Omega.{arith}
use native.Mathlib.Nat.{mul-le-mul_left}
use mathlib.Core.Path.{◌≡◌, refl}
use mathlib.Core.List.{List, [], ◌∷◌}
use lib.ListN.{length, take}
use lib.Pow.{pow_mono}
use Rattle.std.specs.List.{list_any}
use Rattle.values.specs.Lists.{any}
use Rattle.buffer.specs.Buffer.{buffer_from, meets, holds}
use Rattle.buffer.specs.Packing.{slot_of, slots_of}

-- an entry's bytes do not matter
meets_word : (n a w : ℕ) (b c : List ℕ) → meets n a (slot_of w b) ≡ meets n a (slot_of w c)
unfolding meets
meets_word zero a w b c = refl
meets_word (suc n) a w b c = rw (meets_word n (a + 1) w b c)

-- one of the first `used` entries masks a byte if one of their words says so
pub any_word : (n a : ℕ) (ws : List ℕ) (bs : List (List ℕ)) (used : ℕ) → length ws ≡ length bs
    → list_any (λ w. meets n a (slot_of w [])) (take used ws) ≡ holds (buffer_from (slots_of ws bs) used) a n
unfolding any holds slots_of
any_word n a ws bs zero e = refl
any_word n a [] bs (suc k) e = refl
any_word n a (w ∷ ws) [] (suc k) e = absurd (omega arith)
any_word n a (w ∷ ws) (b ∷ bs) (suc k) e = rw (meets_word n a w [] b, any_word n a ws bs k (omega arith))

-- a mask's shift by its place in the block loses nothing, and leaves 16 bits
pub shifted : (c o k : ℕ) → 2 ^ o ≤ k → c * k < 0x10000 → (c * 2 ^ o % 2 ^ 64 ≡ c * 2 ^ o) × (c * 2 ^ o % 2 ^ 64 < 0x10000)
shifted c o k h b =
    let q : c * 2 ^ o ≤ c * k = mul-le-mul_left c h in
    let e : c * 2 ^ o % 2 ^ 64 ≡ c * 2 ^ o = omega arith in
    (e, omega arith)

pub power_low : (o j : ℕ) → o ≤ j → 2 ^ o ≤ 2 ^ j
power_low o j h = pow_mono {i = o} {j = j} h
