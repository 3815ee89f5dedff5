-- Lists of bytes stay lists of bytes.
use Prim.Native.Nat.{ℕ, zero, suc, ◌+◌, ◌/◌, ◌%◌, ◌<◌}
use native.Mathlib.Omega.{arith}
use mathlib.Core.Path.{◌≡◌}
use mathlib.Core.List.{List, [], ◌∷◌, ◌++◌}
use lib.Dec.{eqb, ltb}
use lib.ListN.{length, get_or, set, take, drop, replicate, get_or-eq_default}
use lib.Seq.{get_or-set_same, get_or-set_other, set_out, get_or-drop}
use borrow.Author.Tests.{eqb-true, eqb-false, ltb-true, ltb-false}
use Rattle.values.specs.Bits.{bit}
use Rattle.values.proofs.Cases.{case}
use Rattle.words.specs.Words.{stored, Bytes}
use Rattle.buffer.specs.Buffer.{laid_one, laid}

-- a byte, also behind the list's end
pub byte_at : (m : List ℕ) → Bytes m → (i : ℕ) → get_or m i 0 < 256
byte_at m f i =
    case (ltb i (length m))
    (λ t. f i (ltb-true i (length m) t))
    (λ t. rw (get_or-eq_default m 0 (ltb-false i (length m) t)) (omega arith))

pub bytes_zeros : (n : ℕ) → Bytes (replicate n 0)
bytes_zeros zero i h = absurd (omega arith)
bytes_zeros (suc n) zero h = omega arith
bytes_zeros (suc n) (suc i) h = bytes_zeros n i (omega arith)

pub bytes_set : (m : List ℕ) (a x : ℕ) → Bytes m → x < 256 → Bytes (set m a x)
bytes_set m a x f l i h =
    case (eqb i a)
    (λ t.
    case (ltb a (length m))
    (λ u. let e : i ≡ a = eqb-true i a t in rw (e, get_or-set_same m a x 0 (ltb-true a (length m) u)) l)
    (λ u. rw (set_out m a x (ltb-false a (length m) u)) (byte_at m f i)))
    (λ t. rw (get_or-set_other m a i x 0 (eqb-false i a t)) (byte_at m f i))

pub bytes_stored : (n : ℕ) (m : List ℕ) (a v : ℕ) → Bytes m → Bytes (stored n m a v)
unfolding stored
bytes_stored zero m a v f = f
bytes_stored (suc n) m a v f = bytes_stored n (set m a (v % 256)) (a + 1) (v / 256) (bytes_set m a (v % 256) f (omega arith))

pub bytes_append : (xs ys : List ℕ) → Bytes xs → Bytes ys → Bytes (xs ++ ys)
bytes_append [] ys f g i h = g i h
bytes_append (x ∷ xs) ys f g zero h = f 0 (omega arith)
bytes_append (x ∷ xs) ys f g (suc i) h = bytes_append xs ys (λ j k. f (suc j) (omega arith)) g i (omega arith)

pub bytes_take : (n : ℕ) (m : List ℕ) → Bytes m → Bytes (take n m)
bytes_take zero m f i h = absurd (omega arith)
bytes_take (suc n) [] f i h = absurd (omega arith)
bytes_take (suc n) (x ∷ xs) f zero h = f 0 (omega arith)
bytes_take (suc n) (x ∷ xs) f (suc i) h = bytes_take n xs (λ j k. f (suc j) (omega arith)) i (omega arith)

pub bytes_drop : (n : ℕ) (m : List ℕ) → Bytes m → Bytes (drop n m)
bytes_drop n m f i h = rw (get_or-drop n m i 0) (byte_at m f (n + i))

bytes_laid_one : (m : List ℕ) (a mask x : ℕ) → Bytes m → x < 256 → Bytes (laid_one m a mask x)
bytes_laid_one m a mask x f l = case (bit mask 0) (λ t. rw t (bytes_set m a x f l)) (λ t. rw t f)

pub bytes_laid : (bs m : List ℕ) (a mask : ℕ) → Bytes m → Bytes bs → Bytes (laid m a mask bs)
unfolding laid
bytes_laid [] m a mask f g = f
bytes_laid (x ∷ xs) m a mask f g =
    bytes_laid xs (laid_one m a mask x) (a + 1) (mask / 2) (bytes_laid_one m a mask x f (g 0 (omega arith))) (λ j k. g (suc j) (omega arith))
