-- The steps of laying an entry's bytes into memory.
use Prim.Native.Nat.{ℕ, suc, ◌+◌, ◌/◌, ◌<◌, ◌≤◌}
use native.Mathlib.Omega.{arith}
use native.Mathlib.Numerals.{add-one}
use mathlib.Core.Path.{◌≡◌, refl, sym, ◌∙◌, ap}
use mathlib.Core.List.{List, [], ◌∷◌}
use lib.ListN.{length, length-set, get_or, drop, drop_of_length-le}
use lib.Seq.{drop-cons}
use Rattle.values.specs.Bits.{bit}
use Rattle.values.proofs.Cases.{case}
use Rattle.buffer.specs.Buffer.{laid_one, laid}

pub length_laid_one : (m : List ℕ) (a mask x : ℕ) → length (laid_one m a mask x) ≡ length m
length_laid_one m a mask x = case (bit mask 0) (λ t. rw t (length-set m a x)) (λ t. rw t)

pub length_laid : (bytes m : List ℕ) (a mask : ℕ) → length (laid m a mask bytes) ≡ length m
unfolding laid
length_laid [] m a mask = refl
length_laid (x ∷ xs) m a mask = length_laid xs (laid_one m a mask x) (a + 1) (mask / 2) ∙ length_laid_one m a mask x

module _ (bytes m : List ℕ) (at mask i : ℕ) where
  pub lay_more : i < length bytes
      → laid m (at + i) mask (drop i bytes) ≡ laid (laid_one m (at + i) mask (get_or bytes i 0)) (at + (i + 1)) (mask / 2) (drop (i + 1) bytes)
  unfolding laid
  lay_more h =
      let e : at + i + 1 ≡ at + (i + 1) = omega arith in
      let m' = laid_one m (at + i) mask (get_or bytes i 0) in
      ap (λ (l : List ℕ). laid m (at + i) mask l) (drop-cons bytes i 0 h)
      ∙ ap (λ (k : ℕ). laid m' k (mask / 2) (drop (suc i) bytes)) e
      ∙ ap (λ (k : ℕ). laid m' (at + (i + 1)) (mask / 2) (drop k bytes)) (sym (add-one i))

  pub lay_done : length bytes ≤ i → laid m (at + i) mask (drop i bytes) ≡ m
  unfolding laid
  lay_done h = rw (drop_of_length-le bytes h)
