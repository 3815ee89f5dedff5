-- "Words in memory are little-endian": numbers of some bytes' width in a list of bytes.
use Rattle.std.specs.Prelude.{ℕ, zero, suc, ◌+◌, ◌*◌, ◌/◌, ◌%◌, ◌^◌, ◌<◌, Bool, ◌||◌, ◌≡◌, List, eqb, ltb, length, get_or, set}

-- the number that the n bytes from a hold
unfoldable pub value_at : ℕ → List ℕ → ℕ → ℕ
value_at zero m a = 0
value_at (suc n) m a = get_or m a 0 + 256 * value_at n m (a + 1)

-- the bytes with the number v in the n bytes from a
unfoldable pub stored : ℕ → List ℕ → ℕ → ℕ → List ℕ
stored zero m a v = m
stored (suc n) m a v = stored n (set m a (v % 256)) (a + 1) (v / 256)

-- "The access width is not 1, 2 or 4 bytes": the widths there are
abbrev pub is_width : ℕ → Bool
is_width w = eqb w 1 || (eqb w 2 || eqb w 4)

-- "The value to store does not fit the width": the values that do
abbrev pub fits_width : ℕ → ℕ → Bool
fits_width w v = ltb v (256 ^ w)

-- what a load of n bytes from a answers: their number, which fits the width
pub record Loaded (n : ℕ) (m : List ℕ) (a r : ℕ) : Type 0 where
  pub value : r ≡ value_at n m a
  pub fits : r < 256 ^ n

-- each element is a byte
abbrev pub Bytes : List ℕ → Type 0
Bytes m = (i : ℕ) → i < length m → get_or m i 0 < 256
