-- The clauses of refusal 3 of one word.
use Prim.Native.Nat.{ℕ, ◌+◌, ◌*◌, ◌/◌, ◌%◌, ◌<◌, ◌≤◌}
use native.Mathlib.Omega.{arith}
use mathlib.Core.Bool.{Bool, true, false, cond, not, ◌&&◌}
use mathlib.Core.Path.{◌≡◌, refl, sym, ◌∙◌, ap}
use lib.Dec.{eqb, ltb, leb}
use borrow.Author.Tests.{eqb-true, eqb-false, eq-eqb, ne_eqb, lt-ltb, le-ltb, le-leb, lt-leb}
use Rattle.values.specs.Bits.{bit}
use Rattle.values.proofs.Cases.{case, and-false}
use Rattle.cache.specs.Packing.{line_of}
use mathlib.Core.List.{List}
use Rattle.values.specs.Bits.{number}
use Rattle.values.specs.Lists.{sum}
use Rattle.values.specs.declared.Counts.{Counts}
use Rattle.values.specs.declared.Line.{Line}
use Rattle.tlb.specs.Tlb.{base_of}
use Rattle.tlb.specs.Packing.{entry_of}
use Rattle.cache.specs.Dcache.{dirty_halves}
use Rattle.soundness.specs.Soundness.{pointer_sound, line_empty, line_sound, entry_in_range, entry_sound, counts_sound}

-- "a pointer above 31"
pub high : (p : ℕ) → 31 < p → pointer_sound p ≡ false
high p h = lt-leb p 31 h

pub low : (p : ℕ) → p ≤ 31 → pointer_sound p ≡ true
low p h = le-leb p 31 h

-- a number whose parts are zero
high_zero : (x : ℕ) → x / 0x1000000 ≡ 0 → x / 0x10000 % 256 ≡ 0 → x / 0x10000 ≡ 0
high_zero x h k = let m : x / 0x10000 < 256 = omega arith in rest (x / 0x10000) m k
  where
    rest : (y : ℕ) → y < 256 → y % 256 ≡ 0 → y ≡ 0
    rest y h k = omega arith

middle_zero : (x : ℕ) → x / 0x10000 ≡ 0 → x / 256 % 256 ≡ 0 → x / 256 ≡ 0
middle_zero x h k = let m : x / 256 < 256 = omega arith in rest (x / 256) m k
  where
    rest : (y : ℕ) → y < 256 → y % 256 ≡ 0 → y ≡ 0
    rest y h k = omega arith

eighth : (x : ℕ) → x / 256 ≡ 0 → x / 8 % 32 ≡ 0 → x / 8 ≡ 0
eighth x h k = let m : x / 8 < 32 = omega arith in rest (x / 8) m k
  where
    rest : (y : ℕ) → y < 32 → y % 32 ≡ 0 → y ≡ 0
    rest y h k = omega arith

below_eight : (x : ℕ) → x / 8 ≡ 0 → x < 8
below_eight x h = omega arith

pub even : (x : ℕ) → (x % 2 ≡ 1 → ⊥) → x % 2 ≡ 0
even x h = omega arith

-- three bits of zero
small : (x : ℕ) → x < 8 → x % 2 ≡ 0 → x / 2 % 2 ≡ 0 → x / 4 % 2 ≡ 0 → x ≡ 0
small x h a b c = none x (one x (two x h c) b) a
  where
    none : (y : ℕ) → y < 2 → y % 2 ≡ 0 → y ≡ 0
    none y h e = omega arith

    two : (y : ℕ) → y < 8 → y / 4 % 2 ≡ 0 → y < 4
    two y h c = let m : y / 4 < 2 = omega arith in let k : y / 4 ≡ 0 = none (y / 4) m c in omega arith

    one : (y : ℕ) → y < 4 → y / 2 % 2 ≡ 0 → y < 2
    one y h c = let m : y / 2 < 2 = omega arith in let k : y / 2 ≡ 0 = none (y / 2) m c in omega arith

module _ (w : ℕ) where
  pub line_invalid : w % 2 ≡ 0 → (line_of w).valid ≡ false
  unfolding line_of
  line_invalid e = let k : w / 1 % 2 ≡ 0 = omega arith in rw k

  pub line_valid : w % 2 ≡ 1 → (line_of w).valid ≡ true
  unfolding line_of
  line_valid e = let k : w / 1 % 2 ≡ 1 = omega arith in rw k

  pub empty_even : w % 2 ≡ 0 → line_empty (line_of w) ≡ eqb w 0
  unfolding line_of
  empty_even e =
      let k : w / 1 % 2 ≡ 0 = omega arith in
      rw k (empty (eqb w 0) refl)
    where
      all_zero : w / 0x100000000 ≡ 0 → w / 8 % 0x20000000 ≡ 0 → (w / 2 % 2 ≡ 1 → ⊥) → (w / 4 % 2 ≡ 1 → ⊥) → w ≡ 0
      all_zero a b c d =
          let c' : w / 2 % 2 ≡ 0 = omega arith in
          let d' : w / 4 % 2 ≡ 0 = omega arith in
          let q : w / 8 / 0x20000000 ≡ 0 = omega arith in
          let y : w / 8 ≡ 0 = omega arith in
          let l : w < 8 = omega arith in
          small w l e c' d'

      empty : (z : Bool) → eqb w 0 ≡ z → (eqb (w / 0x100000000) 0 && (eqb (w / 8 % 0x20000000) 0 && (not (bit w 1) && not (bit w 2)))) ≡ z
      empty true z = let k : w ≡ 0 = eqb-true w 0 z in rw k
      empty false z =
          case (eqb (w / 0x100000000) 0)
          (λ a.
          case (eqb (w / 8 % 0x20000000) 0)
          (λ b.
          case (bit w 1)
          (λ c. rw (a, b, c))
          (λ c.
          case (bit w 2)
          (λ d. rw (a, b, c, d))
          (λ d.
          absurd
          (eqb-false w 0 z
          (all_zero (eqb-true (w / 0x100000000) 0 a) (eqb-true (w / 8 % 0x20000000) 0 b) (eqb-false (w / 2 % 2) 1 c) (eqb-false (w / 4 % 2) 1 d))))))
          (λ b. rw (a, b)))
          (λ a. rw a)

  module _ (n : ℕ) where
    abbrev sound_as : Bool → Bool
    sound_as v = cond v (leb ((line_of w).frame * 32 + 32) n && ltb (line_of w).tag 0x800000) (line_empty (line_of w))

    pub line_even : w % 2 ≡ 0 → line_sound n (line_of w) ≡ eqb w 0
    unfolding line_sound
    line_even e = ap sound_as (line_invalid e) ∙ empty_even e

    pub line_odd : w % 2 ≡ 1 → line_sound n (line_of w) ≡ (leb (w / 8 % 0x20000000 * 32 + 32) n && ltb (w / 0x100000000) 0x800000)
    unfolding line_sound line_of
    line_odd e = ap sound_as (line_valid e)

-- two tests that hold together
same_test : (a b x y : ℕ) → (a ≡ b → x ≡ y) → (x ≡ y → a ≡ b) → eqb a b ≡ eqb x y
same_test a b x y f g =
    case (eqb x y) (λ t. rw t (eq-eqb a b (g (eqb-true x y t)))) (λ t. rw t (ne_eqb a b (λ e. eqb-false x y t (f e))))

-- "a TLB base not a multiple of its size"
module _ (size page : ℕ) where
  pub base_section : size ≡ 0 → eqb (base_of size (page * 0x1000)) (page * 0x1000) ≡ eqb (page % 0x100) 0
  base_section e =
      let q : page * 0x1000 / 0x100000 ≡ page / 256 = omega arith in
      rw (e, q) (same_test (page / 256 * 0x100000) (page * 0x1000) (page % 0x100) 0 (λ k. omega arith) (λ k. omega arith))

  pub base_large : size ≡ 1 → eqb (base_of size (page * 0x1000)) (page * 0x1000) ≡ eqb (page % 16) 0
  base_large e =
      let q : page * 0x1000 / 0x10000 ≡ page / 16 = omega arith in
      rw (e, q) (same_test (page / 16 * 0x10000) (page * 0x1000) (page % 16) 0 (λ k. omega arith) (λ k. omega arith))

  pub base_small : (size ≡ 0 → ⊥) → (size ≡ 1 → ⊥) → eqb (base_of size (page * 0x1000)) (page * 0x1000) ≡ true
  base_small a b =
      let q : page * 0x1000 / 0x1000 ≡ page = omega arith in
      rw (ne_eqb size 0 a, ne_eqb size 1 b, q) (eq-eqb (page * 0x1000) (page * 0x1000) refl)

-- the fields of an entry
module _ (w : ℕ) where
  pub size_high : 3 ≤ w / 8 % 32 → entry_in_range (entry_of w) ≡ false
  unfolding entry_of
  size_high h = rw (le-ltb (w / 8 % 32) 3 h)

  pub halves_sum : w / 2 % 2 + w / 4 % 2 ≡ dirty_halves (line_of w)
  unfolding line_of
  halves_sum = rw (bit_of (w / 2), bit_of (w / 4))
    where
      bit_of : (y : ℕ) → number (eqb (y % 2) 1) ≡ y % 2
      bit_of y = case (eqb (y % 2) 1) (λ t. rw t (sym (eqb-true (y % 2) 1 t))) (λ t. rw t (zero_of (eqb-false (y % 2) 1 t)))
        where
          zero_of : (y % 2 ≡ 1 → ⊥) → 0 ≡ y % 2
          zero_of k = omega arith

module _ (w : ℕ) (small' : w < 0x10000000000000000) where
  abbrev vtest : Bool
  vtest = eqb (base_of (w / 8 % 32) (w / 0x100000000000 * 0x1000)) (w / 0x100000000000 * 0x1000)

  abbrev ptest : Bool
  ptest = eqb (base_of (w / 8 % 32) (w / 0x1000000 % 0x100000 * 0x1000)) (w / 0x1000000 % 0x100000 * 0x1000)

  pub in_range : w / 8 % 32 < 3 → entry_in_range (entry_of w) ≡ (vtest && (ptest && ltb (w / 0x100 % 0x100) 16))
  unfolding entry_of
  in_range h =
      rw (
        lt-ltb (w / 8 % 32) 3 h,
        lt-ltb (w / 0x100000000000 * 0x1000) 0x100000000 (omega arith),
        lt-ltb (w / 0x1000000 % 0x100000 * 0x1000) 0x100000000 (omega arith),
        lt-ltb (w / 0x10000 % 256) 256 (omega arith),
      )
      (shuffle vtest ptest (ltb (w / 0x100 % 0x100) 16))
    where
      shuffle : (a b c : Bool) → (a && (b && (c && true))) ≡ (a && (b && c))
      shuffle a b true = refl
      shuffle a b false = refl

  module _ (h : w / 8 % 32 < 3) where
    pub range_domain : 16 ≤ w / 0x100 % 0x100 → entry_in_range (entry_of w) ≡ false
    range_domain d = in_range h ∙ rw (le-ltb (w / 0x100 % 0x100) 16 d) (never vtest ptest)
      where
        never : (a b : Bool) → (a && (b && false)) ≡ false
        never true true = refl
        never true false = refl
        never false b = refl

    pub range_physical : w / 0x100 % 0x100 < 16 → vtest ≡ true → entry_in_range (entry_of w) ≡ ptest
    range_physical d v = in_range h ∙ rw (lt-ltb (w / 0x100 % 0x100) 16 d, v) (always ptest)
      where
        always : (b : Bool) → (b && true) ≡ b
        always true = refl
        always false = refl

    pub range_virtual : vtest ≡ false → entry_in_range (entry_of w) ≡ false
    range_virtual v = in_range h ∙ rw v

  -- "an empty place in the state not all zeros"
  pub entry_even : (w % 2 ≡ 1 → ⊥) → entry_sound (entry_of w) ≡ eqb w 0
  unfolding entry_sound entry_of
  entry_even e =
      let q : w / 1 % 2 ≡ 0 = omega arith in
      rw q (empty (eqb w 0) refl)
    where
      all_zero : w / 8 % 32 ≡ 0 → w / 0x100000000000 * 0x1000 ≡ 0 → w / 0x1000000 % 0x100000 * 0x1000 ≡ 0 → w / 0x100 % 0x100 ≡ 0 → w / 0x10000 % 256 ≡ 0
          → (w / 2 % 2 ≡ 1 → ⊥) → (w / 4 % 2 ≡ 1 → ⊥) → w ≡ 0
      all_zero s v p d a c b =
          let c' : w / 2 % 2 ≡ 0 = omega arith in
          let b' : w / 4 % 2 ≡ 0 = omega arith in
          let x0 : w / 0x1000000 / 0x100000 ≡ 0 = omega arith in
          let x1 : w / 0x1000000 ≡ 0 = omega arith in
          let x2 : w / 0x10000 ≡ 0 = high_zero w x1 a in
          let x3 : w / 256 ≡ 0 = middle_zero w x2 d in
          let x4 : w / 8 ≡ 0 = eighth w x3 s in
          small w (below_eight w x4) (even w e) c' b'

      empty : (z : Bool) → eqb w 0 ≡ z
          → (eqb (w / 8 % 32) 0 && (eqb (w / 0x100000000000 * 0x1000) 0 &&
          (eqb (w / 0x1000000 % 0x100000 * 0x1000) 0 && (eqb (w / 0x100 % 0x100) 0 && (eqb (w / 0x10000 % 256) 0
          && (not (bit w 1) && not (bit w 2))))))) ≡ z
      empty true z = let k : w ≡ 0 = eqb-true w 0 z in rw k
      empty false z =
          case (eqb (w / 8 % 32) 0)
          (λ s.
          case (eqb (w / 0x100000000000 * 0x1000) 0)
          (λ v.
          case (eqb (w / 0x1000000 % 0x100000 * 0x1000) 0)
          (λ p.
          case (eqb (w / 0x100 % 0x100) 0)
          (λ d.
          case (eqb (w / 0x10000 % 256) 0)
          (λ a.
          case (bit w 1)
          (λ c. rw (s, v, p, d, a, c))
          (λ c.
          case (bit w 2)
          (λ b. rw (s, v, p, d, a, c, b))
          (λ b.
          absurd
          (eqb-false w 0 z
          (all_zero (eqb-true (w / 8 % 32) 0 s) (eqb-true (w / 0x100000000000 * 0x1000) 0 v) (eqb-true (w / 0x1000000 % 0x100000 * 0x1000) 0 p)
          (eqb-true (w / 0x100 % 0x100) 0 d) (eqb-true (w / 0x10000 % 256) 0 a)
          (eqb-false (w / 2 % 2) 1 c) (eqb-false (w / 4 % 2) 1 b))))))
          (λ a. rw (s, v, p, d, a)))
          (λ d. rw (s, v, p, d)))
          (λ p. rw (s, v, p)))
          (λ v. rw (s, v)))
          (λ s. rw s)

  pub entry_odd : w % 2 ≡ 1 → entry_sound (entry_of w) ≡ entry_in_range (entry_of w)
  unfolding entry_sound entry_of
  entry_odd e = let q : w / 1 % 2 ≡ 1 = omega arith in rw q

-- "TLB misses, hits or fills above the calls, or halves sent out plus dirty halves above the calls"
module _ (c : Counts) (lines : List Line) where
  pub misses_high : c.calls < c.misses → counts_sound c lines ≡ false
  unfolding counts_sound
  misses_high h = rw (lt-leb c.misses c.calls h)

  module _ (m : c.misses ≤ c.calls) where
    pub hits_high : c.calls < c.hits → counts_sound c lines ≡ false
    unfolding counts_sound
    hits_high h = rw (le-leb c.misses c.calls m, lt-leb c.hits c.calls h)

    module _ (k : c.hits ≤ c.calls) where
      pub fills_high : c.calls < c.fills → counts_sound c lines ≡ false
      unfolding counts_sound
      fills_high h = rw (le-leb c.misses c.calls m, le-leb c.hits c.calls k, lt-leb c.fills c.calls h)

      pub halves_test : c.fills ≤ c.calls → (dirty : ℕ) → dirty ≡ sum dirty_halves lines → counts_sound c lines ≡ leb (c.halves + dirty) c.calls
      unfolding counts_sound
      halves_test f dirty e = rw (le-leb c.misses c.calls m, le-leb c.hits c.calls k, le-leb c.fills c.calls f, e)

-- a conjunction of two tests, each by its meaning
pub pair : {r a b x y : Bool} → r ≡ (a && b) → a ≡ x → b ≡ y → r ≡ (x && y)
pair e f g = e ∙ rw (f, g)

-- where the first test is told only if l holds, and the second fails if l does not
pub pair_under : {r a b x y : Bool} (l : Bool) → r ≡ (a && b) → (l ≡ true → a ≡ x) → b ≡ y → (l ≡ false → y ≡ false) → r ≡ (x && y)
pair_under true e f g h = pair e (f refl) g
pair_under {a = a} {x = x} {y = y} false e f g h = e ∙ rw (g, h refl) (and-false a false refl ∙ sym (and-false x false refl))
