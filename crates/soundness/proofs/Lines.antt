-- The test of all lines at once, by what their words have together.
use Prim.Native.Nat.{ℕ, ◌+◌, ◌*◌, ◌/◌, ◌%◌, ◌^◌, ◌<◌, ◌≤◌}
use native.Mathlib.Omega.{arith}
use native.Mathlib.Numerals.{add-one}
use mathlib.Core.Bool.{Bool, true, false, ◌&&◌, ◌||◌}
use mathlib.Core.Path.{◌≡◌, refl, sym, ◌∙◌, ap}
use mathlib.Core.List.{List, [], ◌∷◌}
use lib.Bits.{bit_or, bit_and, or_lt, or_comm, or_add_and, and_le_r, and_zero_l, and_comm, and_mask}
use lib.Dec.{eqb, ltb, leb}
use lib.ListN.{length, get_or, drop, drop_of_length-le}
use lib.Seq.{drop-cons}
use borrow.Author.Tests.{ltb-true, ltb-false, leb-true, leb-false, eqb-true, eqb-false, lt-ltb, le-ltb}
use Rattle.values.specs.Lists.{all}
use Rattle.values.proofs.Cases.{case, and_left, and_right, and-false}
use Rattle.cache.specs.Packing.{line_of, lines_of}
use Rattle.soundness.specs.Soundness.{line_empty, line_sound}
use Rattle.soundness.proofs.Clauses.{even, line_valid, line_invalid, line_odd, line_even, empty_even}

-- ---- the tests of a word

-- the tag is in range
abbrev pub fits : ℕ → Bool
fits w = ltb w 0x80000000000000

-- the low 32 bits and the spare number stay below 2 ^ 32
abbrev pub inside : ℕ → ℕ → Bool
inside spare w = ltb (w % 0x100000000 + spare) 0x100000000

abbrev pub odd : ℕ → Bool
odd w = eqb (w % 2) 1

-- the line is valid or empty
abbrev pub whole : ℕ → Bool
whole w = (line_of w).valid || line_empty (line_of w)

-- the spare number for a memory of n bytes
abbrev pub Spared : ℕ → ℕ → Type 0
Spared n spare = (n / 32 < 0x20000000 → spare + n / 32 * 8 ≡ 0xFFFFFFFF) × (0x20000000 ≤ n / 32 → spare ≡ 0)

pub spared_low : (n spare : ℕ) → Spared n spare → spare ≤ 0xFFFFFFFF
spared_low n spare s =
    case (ltb (n / 32) 0x20000000)
    (λ t. let e = s.0 (ltb-true (n / 32) 0x20000000 t) in omega arith)
    (λ t. let e = s.1 (ltb-false (n / 32) 0x20000000 t) in omega arith)

module _ (w : ℕ) where
  pub odd_whole : w % 2 ≡ 1 → whole w ≡ true
  odd_whole e = rw (line_valid w e)

  even_whole : w % 2 ≡ 0 → whole w ≡ eqb w 0
  even_whole e = ap (λ (v : Bool). v || line_empty (line_of w)) (line_invalid w e) ∙ empty_even w e

  -- the word of an invalid line, and 0 for a valid one, is 0 where the line is valid or empty
  pub part_whole : (r : ℕ) → (w % 2 ≡ 0 → r ≡ w) × (w % 2 ≡ 1 → r ≡ 0) → eqb r 0 ≡ whole w
  part_whole r s =
      case (eqb (w % 2) 1)
      (λ t. let e = eqb-true (w % 2) 1 t in rw (s.1 e, odd_whole e))
      (λ t. let e = even w (eqb-false (w % 2) 1 t) in rw (s.0 e) (sym (even_whole e)))

  module _ (n spare : ℕ) (s : Spared n spare) where
    end_inside : w % 2 ≡ 1 → inside spare w ≡ leb (w / 8 % 0x20000000 * 32 + 32) n
    end_inside e =
        case (leb (w / 8 % 0x20000000 * 32 + 32) n)
        (λ t. rw t (lt-ltb (w % 0x100000000 + spare) 0x100000000 (in_memory (leb-true (w / 8 % 0x20000000 * 32 + 32) n t))))
        (λ t. rw t (le-ltb (w % 0x100000000 + spare) 0x100000000 (behind_memory (leb-false (w / 8 % 0x20000000 * 32 + 32) n t))))
      where
        frame : w % 0x100000000 / 8 ≡ w / 8 % 0x20000000
        frame = omega arith

        low : w % 0x100000000 % 2 ≡ 1
        low = omega arith

        in_memory : w / 8 % 0x20000000 * 32 + 32 ≤ n → w % 0x100000000 + spare < 0x100000000
        in_memory h =
            case (ltb (n / 32) 0x20000000)
            (λ t. let e = s.0 (ltb-true (n / 32) 0x20000000 t) in let f = frame in omega arith)
            (λ t. let e = s.1 (ltb-false (n / 32) 0x20000000 t) in omega arith)

        behind_memory : n < w / 8 % 0x20000000 * 32 + 32 → 0x100000000 ≤ w % 0x100000000 + spare
        behind_memory h =
            case (ltb (n / 32) 0x20000000)
            (λ t. let e = s.0 (ltb-true (n / 32) 0x20000000 t) in let f = frame in let o = low in omega arith)
            (λ t. let g = ltb-false (n / 32) 0x20000000 t in absurd (omega arith))

    tag_fits : fits w ≡ ltb (w / 0x100000000) 0x800000
    tag_fits =
        case (ltb (w / 0x100000000) 0x800000)
        (λ t. let h = ltb-true (w / 0x100000000) 0x800000 t in rw t (lt-ltb w 0x80000000000000 (omega arith)))
        (λ t. let h = ltb-false (w / 0x100000000) 0x800000 t in rw t (le-ltb w 0x80000000000000 (omega arith)))

    line_tests : line_sound n (line_of w) ≡ (fits w && (inside spare w && whole w))
    line_tests =
        case (eqb (w % 2) 1)
        (λ t.
        let e = eqb-true (w % 2) 1 t in
        line_odd w n e ∙ rw (tag_fits, end_inside e, odd_whole e) (turned (leb (w / 8 % 0x20000000 * 32 + 32) n) (ltb (w / 0x100000000) 0x800000)))
        (λ t.
        let e = even w (eqb-false (w % 2) 1 t) in
        line_even w n e ∙ rw (even_whole e) (empty (eqb w 0) refl))
      where
        turned : (a b : Bool) → (a && b) ≡ (b && (a && true))
        turned true true = refl
        turned true false = refl
        turned false true = refl
        turned false false = refl

        empty : (z : Bool) → eqb w 0 ≡ z → z ≡ (fits w && (inside spare w && z))
        empty true z = let k : w ≡ 0 = eqb-true w 0 z in rw (
          lt-ltb w 0x80000000000000 (omega arith),
          lt-ltb (w % 0x100000000 + spare) 0x100000000 (let l = spared_low n spare s in omega arith),
        )
        empty false z = sym (and-false (fits w) (inside spare w && false) (and-false (inside spare w) false refl))

-- ---- the tests of all words

module _ (n spare : ℕ) (s : Spared n spare) where
  lines_tests : (ws : List ℕ) → all (line_sound n) (lines_of ws) ≡ (all fits ws && (all (inside spare) ws && all whole ws))
  unfolding all
  lines_tests [] = refl
  lines_tests (w ∷ ws) =
      rw (line_tests w n spare s, lines_tests ws)
      (split (fits w) (inside spare w) (whole w) (all fits ws) (all (inside spare) ws) (all whole ws))
    where
      split : (a b c x y z : Bool) → ((a && (b && c)) && (x && (y && z))) ≡ ((a && x) && ((b && y) && (c && z)))
      split false b c x y z = refl
      split true b c false y z = and-false (b && c) false refl
      split true false c true y z = refl
      split true true c true false z = and-false c false refl
      split true true c true true z = refl

  pub tag_out : (ws : List ℕ) → all fits ws ≡ false → all (line_sound n) (lines_of ws) ≡ false
  tag_out ws e = lines_tests ws ∙ rw e

  pub end_out : (ws : List ℕ) → all (inside spare) ws ≡ false → all (line_sound n) (lines_of ws) ≡ false
  end_out ws e = lines_tests ws ∙ rw e (and-false (all fits ws) false refl)

  pub all_in : (ws : List ℕ) → all fits ws ≡ true → all (inside spare) ws ≡ true → all (line_sound n) (lines_of ws) ≡ all whole ws
  all_in ws e f = lines_tests ws ∙ rw (e, f)

pub odds_whole : (ws : List ℕ) → all odd ws ≡ true → all whole ws ≡ true
unfolding all
odds_whole [] e = refl
odds_whole (w ∷ ws) e = rw (odd_whole w (eqb-true (w % 2) 1 (and_left (odd w) (all odd ws) e)), odds_whole ws (and_right (odd w) (all odd ws) e))

-- ---- a loop that joins the words

-- b is the test of the first i words: with that of the words behind it makes the whole
pub record Joined (f : ℕ → Bool) (ws : List ℕ) (i : ℕ) (b : Bool) : Type 0 where
  pub same : (b && all f (drop i ws)) ≡ all f ws

module _ (f : ℕ → Bool) (ws : List ℕ) where
  pub joined_start : Joined f ws 0 true
  joined_start = record { same = refl }

  pub joined_on : (i : ℕ) (b e : Bool) → i < length ws → Joined f ws i b → e ≡ (b && f (get_or ws i 0)) → Joined f ws (i + 1) e
  unfolding all
  joined_on i b e h j q = record { same = rw q (again b (f (get_or ws i 0)) (all f (drop (i + 1) ws)) ∙ ap (λ (x : Bool). b && x) (sym step) ∙ j.same) }
    where
      again : (a b c : Bool) → ((a && b) && c) ≡ (a && (b && c))
      again true b c = refl
      again false b c = refl

      step : all f (drop i ws) ≡ (f (get_or ws i 0) && all f (drop (i + 1) ws))
      step = rw (drop-cons ws i 0 h, add-one i)

  pub joined_end : (i : ℕ) (b : Bool) → length ws ≤ i → Joined f ws i b → all f ws ≡ b
  unfolding all
  joined_end i b h j = sym j.same ∙ rw (drop_of_length-le ws {i = i} h) (only b)
    where
      only : (a : Bool) → (a && true) ≡ a
      only true = refl
      only false = refl

-- ---- the tests of joined words

or_above : (a b : ℕ) → a ≤ bit_or a b
or_above a b = let s = or_add_and a b in let l = and_le_r a b in omega arith

-- below a power of two
pub or_below : (k a b : ℕ) → ltb (bit_or a b) (2 ^ k) ≡ (ltb a (2 ^ k) && ltb b (2 ^ k))
or_below k a b =
    case (ltb a (2 ^ k))
    (λ s.
    case (ltb b (2 ^ k))
    (λ t. rw (s, t) (lt-ltb (bit_or a b) (2 ^ k) (or_lt k a b (ltb-true a (2 ^ k) s) (ltb-true b (2 ^ k) t))))
    (λ t. rw (s, t) (le-ltb (bit_or a b) (2 ^ k) (let h = ltb-false b (2 ^ k) t in let g = or_above b a in let c = or_comm a b in omega arith))))
    (λ s. rw s (le-ltb (bit_or a b) (2 ^ k) (let h = ltb-false a (2 ^ k) s in let g = or_above a b in omega arith)))

-- zero
pub or_is_zero : (a b : ℕ) → eqb (bit_or a b) 0 ≡ (eqb a 0 && eqb b 0)
or_is_zero a b = below (bit_or a b) ∙ or_below 0 a b ∙ rw (sym (below a), sym (below b))
  where
    below : (x : ℕ) → eqb x 0 ≡ ltb x 1
    below x =
        case (eqb x 0)
        (λ t. let e = eqb-true x 0 t in rw t (sym (lt-ltb x 1 (omega arith))))
        (λ t. let n = eqb-false x 0 t in rw t (sym (le-ltb x 1 (some n))))
      where
        some : (x ≡ 0 → ⊥) → 1 ≤ x
        some n = omega arith

-- bit 0 of all
pub and_odd : (v w : ℕ) → v ≤ 1 → eqb (bit_and v w) 1 ≡ (eqb v 1 && odd w)
and_odd v w l =
    case (eqb v 1)
    (λ t. let e = eqb-true v 1 t in rw (t, e) (ap (λ (x : ℕ). eqb x 1) (and_comm 1 w ∙ and_mask w 1)))
    (λ t. let e = none (eqb-false v 1 t) in rw (t, e) (ap (λ (x : ℕ). eqb x 1) (and_zero_l w)))
  where
    none : (v ≡ 1 → ⊥) → v ≡ 0
    none n = omega arith
