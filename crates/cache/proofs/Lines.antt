-- Lines and the words that stand for them; the steps of the search of a set.
use Rattle.std.specs.Prelude.{Some, None}
use Prim.Native.Nat.{ℕ, ◌+◌, ◌*◌, ◌/◌, ◌%◌, ◌<◌, ◌≤◌}
use native.Mathlib.Omega.{arith}
use mathlib.Core.Bool.{true, false, ◌||◌}
use mathlib.Core.Path.{◌≡◌, refl, sym, ◌∙◌, ap}
use mathlib.Core.List.{List}
use lib.Dec.{eqb}
use lib.ListN.{length, length-map, length-drop, get_or, take, drop, replicate}
use lib.Seq.{get_or-take, get_or-drop, length-take-le}
use borrow.Author.Tests.{lt-ltb, le-ltb, eq-eqb, ne_eqb}
use Rattle.values.proofs.Cases.{and-false}
use Rattle.values.specs.Lists.{first_from}
use Rattle.values.specs.Empty.{empty_line, no_lines}
use Rattle.values.specs.declared.Line.{Line}
use Rattle.values.proofs.Searches.{search_hit, search_on, search_end}
use Rattle.values.proofs.Maps.{map_at, map_replicate}
use Rattle.cache.specs.Dcache.{has_tag, marked, clean_line, fresh_line}
use Rattle.cache.specs.Packing.{line_of, lines_of, SendsLine}

pub line_zero : line_of 0 ≡ empty_line
unfolding line_of
line_zero = refl

pub line_at : (ws : List ℕ) (i : ℕ) → get_or (lines_of ws) i empty_line ≡ line_of (get_or ws i 0)
line_at ws i = map_at line_of empty_line line_zero ws i

-- ---- the tag's test

module _ (tag w : ℕ) where
  pub tag_valid : w % 2 ≡ 1 → w / 0x100000000 ≡ tag → has_tag tag (line_of w) ≡ true
  unfolding line_of
  tag_valid h t = let e : w / 1 % 2 ≡ 1 = omega arith in rw e (eq-eqb (w / 0x100000000) tag t)

  pub tag_invalid : (w % 2 ≡ 1 → ⊥) → has_tag tag (line_of w) ≡ false
  unfolding line_of
  tag_invalid h = let e : w / 1 % 2 ≡ 0 = omega arith in rw e

  pub tag_other : (w / 0x100000000 ≡ tag → ⊥) → has_tag tag (line_of w) ≡ false
  unfolding line_of
  tag_other h = and-false (line_of w).valid (eqb (w / 0x100000000) tag) (ne_eqb (w / 0x100000000) tag h)

-- ---- the dirty bits

-- a number's parts above bit 2 and above bit 31, by its part above bit 1
above : (x y : ℕ) → x / 4 ≡ y / 4 → (x / 8 ≡ y / 8) × (x / 0x100000000 ≡ y / 0x100000000)
above x y h =
    let a : x / 8 ≡ x / 4 / 2 = omega arith in
    let b : y / 8 ≡ y / 4 / 2 = omega arith in
    let c : x / 0x100000000 ≡ x / 4 / 0x40000000 = omega arith in
    let d : y / 0x100000000 ≡ y / 4 / 0x40000000 = omega arith in
    (a ∙ ap (λ (z : ℕ). z / 2) h ∙ sym b, c ∙ ap (λ (z : ℕ). z / 0x40000000) h ∙ sym d)

low_quarter : (w : ℕ) → (w / 2 % 2 ≡ 1 → ⊥) → (w + 2) / 4 ≡ w / 4
low_quarter w n = omega arith

high_eighth : (w v : ℕ) → w / 4 ≡ v → (v % 2 ≡ 1 → ⊥) → ((w + 4) / 8 ≡ w / 8) × ((w + 4) / 0x100000000 ≡ w / 0x100000000)
high_eighth w v e n =
    let a : (w + 4) / 4 ≡ v + 1 = omega arith in
    let b : (v + 1) / 2 ≡ v / 2 = odd v n in
    let c : (w + 4) / 8 ≡ (w + 4) / 4 / 2 = eighth (w + 4) in
    let d : w / 8 ≡ w / 4 / 2 = eighth w in
    let f : (w + 4) / 8 ≡ w / 8 = c ∙ ap (λ (z : ℕ). z / 2) a ∙ b ∙ ap (λ (z : ℕ). z / 2) (sym e) ∙ sym d in
    (f, top (w + 4) ∙ ap (λ (z : ℕ). z / 0x20000000) f ∙ sym (top w))
  where
    odd : (x : ℕ) → (x % 2 ≡ 1 → ⊥) → (x + 1) / 2 ≡ x / 2
    odd x k = omega arith

    eighth : (x : ℕ) → x / 8 ≡ x / 4 / 2
    eighth x = omega arith

    top : (x : ℕ) → x / 0x100000000 ≡ x / 8 / 0x20000000
    top x = omega arith

module _ (w offset : ℕ) where
  pub marked_low : offset < 16 → w / 2 % 2 ≡ 1 → line_of w ≡ marked (line_of w) offset
  unfolding line_of
  marked_low h e = rw (lt-ltb offset 16 h, e)

  pub marked_high : 16 ≤ offset → w / 4 % 2 ≡ 1 → line_of w ≡ marked (line_of w) offset
  unfolding line_of
  marked_high h e = rw (le-ltb offset 16 h, e)

  pub mark_low : offset < 16 → (w / 2 % 2 ≡ 1 → ⊥) → line_of (w + 2) ≡ marked (line_of w) offset
  unfolding line_of
  mark_low h n =
      let q = low_quarter w n in
      let a = above (w + 2) w q in
      let e0 : (w + 2) / 1 % 2 ≡ w / 1 % 2 = omega arith in
      let e1 : (w + 2) / 2 % 2 ≡ 1 = omega arith in
      rw (lt-ltb offset 16 h, e0, e1, q, a.0, a.1)

  pub mark_high : 16 ≤ offset → (w / 4 % 2 ≡ 1 → ⊥) → line_of (w + 4) ≡ marked (line_of w) offset
  unfolding line_of
  mark_high h n =
      let a = high_eighth w (w / 4) refl n in
      let e0 : (w + 4) / 1 % 2 ≡ w / 1 % 2 = zero_bit w in
      let e1 : (w + 4) / 2 % 2 ≡ w / 2 % 2 = one_bit w in
      let e2 : (w + 4) / 4 % 2 ≡ 1 = two_bit w n in
      rw (le-ltb offset 16 h, e0, e1, e2, a.0, a.1)
    where
      zero_bit : (x : ℕ) → (x + 4) / 1 % 2 ≡ x / 1 % 2
      zero_bit x = omega arith

      one_bit : (x : ℕ) → (x + 4) / 2 % 2 ≡ x / 2 % 2
      one_bit x = omega arith

      two_bit : (x : ℕ) → (x / 4 % 2 ≡ 1 → ⊥) → (x + 4) / 4 % 2 ≡ 1
      two_bit x k = omega arith

-- ---- the search of a set, whose lines begin at `base`

module _ (ws : List ℕ) (tag base i : ℕ) (long : length ws ≡ 512) (low : base ≤ 480) where
  abbrev ways : List Line
  ways = take 32 (drop base (lines_of ws))

  length_ways : length ways ≡ 32
  length_ways = length-take-le 32 (drop base (lines_of ws)) (rw (length-drop base (lines_of ws), length-map ws line_of) (omega arith))

  way_at : i < 32 → get_or ways i empty_line ≡ line_of (get_or ws (base + i) 0)
  way_at h = get_or-take 32 (drop base (lines_of ws)) i empty_line h ∙ get_or-drop base (lines_of ws) i empty_line ∙ line_at ws (base + i)

  pub find_hit : i < 32 → has_tag tag (line_of (get_or ws (base + i) 0)) ≡ true → first_from (has_tag tag) (base + i) (drop i ways) ≡ Some (base + i)
  find_hit h t = search_hit (has_tag tag) ways empty_line (base + i) i (rw length_ways h) (ap (has_tag tag) (way_at h) ∙ t)

  pub find_on : i < 32 → has_tag tag (line_of (get_or ws (base + i) 0)) ≡ false
      → first_from (has_tag tag) (base + i) (drop i ways) ≡ first_from (has_tag tag) (base + (i + 1)) (drop (i + 1) ways)
  find_on h t =
      let e : base + i + 1 ≡ base + (i + 1) = omega arith in
      search_on (has_tag tag) ways empty_line (base + i) i (rw length_ways h) (ap (has_tag tag) (way_at h) ∙ t)
      ∙ ap (λ (k : ℕ). first_from (has_tag tag) k (drop (i + 1) ways)) e

  pub find_end : 32 ≤ i → first_from (has_tag tag) (base + i) (drop i ways) ≡ None
  find_end h = search_end (has_tag tag) ways empty_line (base + i) i (rw length_ways h)

-- ---- a flush

-- zeros are empty lines
pub flush_all : (n : ℕ) → n ≡ 512 → lines_of (replicate n 0) ≡ no_lines
flush_all n h = map_replicate line_of n 0 ∙ ap (replicate n) line_zero ∙ ap (λ (k : ℕ). replicate k empty_line) h

-- ---- a clean

-- a number with bits 1 and 2 clear
record Clear (q b x : ℕ) : Type 0 where
  zero_bit : x / 1 % 2 ≡ b
  one_bit : x / 2 % 2 ≡ 0
  two_bit : x / 4 % 2 ≡ 0
  rest : x / 8 ≡ q

clear : (q b x : ℕ) → x ≡ q * 8 + b → b < 2 → Clear q b x
clear q b x e h =
    let f1 : x / 2 ≡ q * 4 = omega arith in
    let f2 : x / 4 ≡ q * 2 = omega arith in
    record { zero_bit = omega arith; one_bit = rw f1 (four q); two_bit = rw f2 (two q); rest = omega arith }
  where
    four : (y : ℕ) → y * 4 % 2 ≡ 0
    four y = omega arith

    two : (y : ℕ) → y * 2 % 2 ≡ 0
    two y = omega arith

above_frame : (x : ℕ) → x / 0x100000000 ≡ x / 8 / 0x20000000
above_frame x = omega arith

pub clean_word : (w : ℕ) → line_of (w / 8 * 8 + w % 2) ≡ clean_line (line_of w)
unfolding line_of
clean_word w =
    let x = w / 8 * 8 + w % 2 in
    let c = clear (w / 8) (w % 2) x refl (omega arith) in
    let v : w / 1 % 2 ≡ w % 2 = omega arith in
    let t : x / 0x100000000 ≡ w / 0x100000000 = above_frame x ∙ ap (λ (y : ℕ). y / 0x20000000) c.rest ∙ sym (above_frame w) in
    rw (c.zero_bit, c.one_bit, c.two_bit, t, c.rest, v)

-- ---- a line that is read

pub fresh_word : (tag frame : ℕ) → frame < 0x20000000 → line_of (tag * 0x100000000 + frame * 8 + 1) ≡ fresh_line tag frame
unfolding line_of
fresh_word tag frame h =
    let x = tag * 0x100000000 + frame * 8 + 1 in
    let c = clear (tag * 0x20000000 + frame) 1 x (omega arith) (omega arith) in
    let f : x / 8 % 0x20000000 ≡ frame = rw c.rest (omega arith) in
    let t : x / 0x100000000 ≡ tag = above_frame x ∙ rw c.rest (omega arith) in
    rw (c.zero_bit, c.one_bit, c.two_bit, f, t)

-- a line's frame is below 2 ^ 29, so that its halves can go out where it lies inside memory
pub line_sends : (w : ℕ) (memory : List ℕ) → (((line_of w).low || (line_of w).high) ≡ true → (line_of w).frame * 32 + 32 ≤ length memory)
    → SendsLine memory (line_of w)
unfolding line_of
line_sends w memory h = record { low_frame = omega arith; dirty_inside = h }

pub held_sends : (w : ℕ) (memory : List ℕ) → (line_of w).frame * 32 + 32 ≤ length memory → SendsLine memory (line_of w)
held_sends w memory h = line_sends w memory (λ t. h)
