-- A number's bytes copied at once: up to four of them into zeros, and out of its four.
use Prim.Native.Nat.{ℕ, zero, suc, ◌+◌, ◌-◌, ◌*◌, ◌/◌, ◌%◌, ◌^◌, ◌<◌, ◌≤◌}
use native.Mathlib.Omega.{arith}
use native.Mathlib.Nat.{pow-suc}
use native.Mathlib.Numerals.{add-one}
use mathlib.Core.Path.{◌≡◌, refl, sym, ◌∙◌, ap}
use mathlib.Core.List.{List, [], ◌∷◌, ◌++◌, append_assoc}
use lib.ListN.{length, get_or, set, take, drop, get_or-append, length-drop}
use lib.Seq.{get_or-take, get_or-drop, length-take-le, drop-drop, sets, sets-eq}
use borrow.Rule.Slice.PartMut.{put_mid}
use Rattle.words.specs.Words.{value_at, stored, Loaded}
use Rattle.words.proofs.Laws.{same_bytes}

-- ---- a load

-- bytes that fit make a number that fits
pub value_fits : (n : ℕ) (m : List ℕ) (a : ℕ) → ((i : ℕ) → get_or m i 0 < 256) → value_at n m a < 256 ^ n
unfolding value_at
value_fits zero m a h = omega arith
value_fits (suc n) m a h =
    let p : 256 ^ suc n ≡ 256 ^ n * 256 = pow-suc 256 n in
    omega (arith, value_fits n m (a + 1) h, h a)

-- zeros behind a number's bytes add nothing
value_zeros : (n k : ℕ) (l : List ℕ) (a : ℕ) → n ≤ k → ((j : ℕ) → a + n ≤ j → get_or l j 0 ≡ 0) → value_at k l a ≡ value_at n l a
unfolding value_at
value_zeros zero zero l a h f = refl
value_zeros zero (suc k) l a h f =
    omega (arith, f a (omega arith), value_zeros zero k l (a + 1) (omega arith) (λ j g. f j (omega arith)))
value_zeros (suc n) zero l a h f = absurd (omega arith)
value_zeros (suc n) (suc k) l a h f =
    ap (λ (x : ℕ). get_or l a 0 + 256 * x) (value_zeros n k l (a + 1) (omega arith) (λ j g. f j (omega arith)))

-- four zeros of which n became bytes
abbrev zeros : List ℕ
zeros = 0 ∷ 0 ∷ 0 ∷ 0 ∷ []

abbrev padded : ℕ → List ℕ → List ℕ
padded n xs = xs ++ drop n zeros

zero_at : (k : ℕ) → get_or zeros k 0 ≡ 0
zero_at zero = refl
zero_at (suc zero) = refl
zero_at (suc (suc zero)) = refl
zero_at (suc (suc (suc zero))) = refl
zero_at (suc (suc (suc (suc k)))) = refl

zero_behind : (xs zs : List ℕ) (j : ℕ) → ((i : ℕ) → get_or zs i 0 ≡ 0) → length xs ≤ j → get_or (xs ++ zs) j 0 ≡ 0
zero_behind [] zs j z h = z j
zero_behind (x ∷ xs) zs zero z h = absurd (omega arith)
zero_behind (x ∷ xs) zs (suc j) z h = zero_behind xs zs j z (omega arith)

value_four : (l : List ℕ) → value_at 4 l 0 ≡ get_or l 0 0 + get_or l 1 0 * 256 + get_or l 2 0 * 0x10000 + get_or l 3 0 * 0x1000000
unfolding value_at
value_four l = omega arith

module _ (n : ℕ) (m xs : List ℕ) (a : ℕ) (low : n ≤ 4) (inside : a + n ≤ length m) (e : xs ≡ take (a + n - a) (drop a m)) where
  copied : xs ≡ take n (drop a m)
  copied = let k : a + n - a ≡ n = omega arith in e ∙ ap (λ (x : ℕ). take x (drop a m)) k

  long : length xs ≡ n
  long = ap length copied ∙ length-take-le n (drop a m) (rw length-drop (omega arith))

  same_value : value_at n (padded n xs) 0 ≡ value_at n m a
  same_value = same_bytes n (padded n xs) m 0 a each
    where
      each : (j : ℕ) → j < n → get_or (padded n xs) (0 + j) 0 ≡ get_or m (a + j) 0
      each j h =
          let z : 0 + j ≡ j = omega arith in
          ap (λ (k : ℕ). get_or (padded n xs) k 0) z ∙ get_or-append xs (drop n zeros) 0 j (omega (arith, long))
          ∙ ap (λ (l : List ℕ). get_or l j 0) copied ∙ get_or-take n (drop a m) j 0 h ∙ get_or-drop a m j 0

  -- the number of the four bytes is the number of the n
  pub loaded : (r : ℕ) → ((i : ℕ) → get_or m i 0 < 256)
      → r ≡ get_or (padded n xs) 0 0 + get_or (padded n xs) 1 0 * 256 + get_or (padded n xs) 2 0 * 0x10000 + get_or (padded n xs) 3 0 * 0x1000000
      → Loaded n m a r
  loaded r bytes f =
      let l = padded n xs in
      let behind : (j : ℕ) → 0 + n ≤ j → get_or l j 0 ≡ 0 = λ j h.
      zero_behind xs (drop n zeros) j (λ i. get_or-drop n zeros i 0 ∙ zero_at (n + i)) (omega (arith, long)) in
      let v : r ≡ value_at n m a = f ∙ sym (value_four l) ∙ value_zeros n 4 l 0 low behind ∙ same_value in
      record { value = v; fits = rw v (value_fits n m a bytes) }

-- ---- a store

-- the n low bytes of a number, lowest first
low_bytes : ℕ → ℕ → List ℕ
low_bytes zero v = []
low_bytes (suc n) v = v % 256 ∷ low_bytes n (v / 256)

length_low : (n v : ℕ) → length (low_bytes n v) ≡ n
unfolding low_bytes
length_low zero v = refl
length_low (suc n) v = ap suc (length_low n (v / 256))

low_of_four : (n k v : ℕ) → n ≤ k → take n (low_bytes k v) ≡ low_bytes n v
unfolding low_bytes
low_of_four zero k v h = refl
low_of_four (suc n) zero v h = absurd (omega arith)
low_of_four (suc n) (suc k) v h = ap (λ (l : List ℕ). v % 256 ∷ l) (low_of_four n k (v / 256) (omega arith))

four_low : (v : ℕ) → low_bytes 4 v ≡ v % 256 ∷ v / 256 % 256 ∷ v / 0x10000 % 256 ∷ v / 0x1000000 % 256 ∷ []
unfolding low_bytes
four_low v =
    let g : v / 256 / 256 ≡ v / 0x10000 = omega arith in
    let h : v / 0x10000 / 256 ≡ v / 0x1000000 = omega arith in
    rw (g, h)

stored_sets : (n : ℕ) (m : List ℕ) (a v : ℕ) → stored n m a v ≡ sets m a (low_bytes n v)
unfolding stored low_bytes
stored_sets zero m a v = refl
stored_sets (suc n) m a v =
    let m' = set m a (v % 256) in
    stored_sets n m' (a + 1) (v / 256) ∙ ap (λ (i : ℕ). sets m' i (low_bytes n (v / 256))) (add-one a)

-- the n first of a number's four bytes, put at once
pub stored_copied : (n : ℕ) (m new : List ℕ) (a v : ℕ) (four : List ℕ) → n ≤ 4 → a + n ≤ length m
    → four ≡ v % 256 ∷ v / 256 % 256 ∷ v / 0x10000 % 256 ∷ v / 0x1000000 % 256 ∷ [] → new ≡ take n four
    → put_mid a (a + n - a) m new ≡ stored n m a v
stored_copied n m new a v four low inside e f =
    let k : a + n - a ≡ n = omega arith in
    let g : new ≡ low_bytes n v = f ∙ ap (take n) (e ∙ sym (four_low v)) ∙ low_of_four n 4 v low in
    let l = length_low n v in
    rw (k, g, drop-drop n a m) (sym (append_assoc (take a m) (low_bytes n v) (drop (a + n) m)))
    ∙ sym (stored_sets n m a v ∙ sets-eq (low_bytes n v) m a (omega arith) ∙ ap (λ (j : ℕ). take a m ++ low_bytes n v ++ drop (a + j) m) l)
