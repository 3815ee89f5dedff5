-- Two valid lines of a set with equal tags, by the words of the lines; and the sets in turn.
use Prim.Native.Nat.{ℕ, suc, ◌+◌, ◌-◌, ◌*◌, ◌/◌, ◌%◌, ◌<◌, ◌≤◌}
use native.Mathlib.Omega.{arith}
use mathlib.Core.Bool.{Bool, true, false, not, ◌&&◌}
use mathlib.Core.Path.{◌≡◌, refl, ◌∙◌}
use mathlib.Core.List.{List}
use lib.Dec.{eqb}
use lib.ListN.{length, length-map, length-drop, get_or, take, drop}
use lib.Seq.{get_or-take, get_or-drop, length-take-le, drop-drop}
use borrow.Author.Tests.{eq-eqb}
use Rattle.values.specs.Empty.{empty_line}
use Rattle.values.specs.declared.Line.{Line}
use Rattle.values.proofs.Cases.{clash}
use Rattle.cache.specs.Packing.{line_of, lines_of}
use Rattle.cache.proofs.Lines.{line_at}
use Rattle.soundness.specs.Soundness.{same_tag, tag_twice, tags_sound}
use Rattle.soundness.proofs.Twice.{twice_none, twice_means}

-- ---- the tags' test

module _ (v w : ℕ) where
  pub tags_compared : v % 2 ≡ 1 → w % 2 ≡ 1 → same_tag (line_of v) (line_of w) ≡ eqb (v / 0x100000000) (w / 0x100000000)
  unfolding line_of
  tags_compared a b = let a' : v / 1 % 2 ≡ 1 = omega arith in let b' : w / 1 % 2 ≡ 1 = omega arith in rw (a', b')

  pub first_empty : (v % 2 ≡ 1 → ⊥) → same_tag (line_of v) (line_of w) ≡ false
  unfolding line_of
  first_empty a = let a' : v / 1 % 2 ≡ 0 = omega arith in rw a'

  pub second_empty : (w % 2 ≡ 1 → ⊥) → same_tag (line_of v) (line_of w) ≡ false
  unfolding line_of
  second_empty b = let b' : w / 1 % 2 ≡ 0 = omega arith in rw b' (never (eqb (v / 1 % 2) 1))
    where
      never : (a : Bool) → (a && false) ≡ false
      never true = refl
      never false = refl

-- ---- the whole set

-- no two of the set's lines have equal tags
pub record Apart (ws : List ℕ) (base : ℕ) : Type 0 where
  pub pairs : (i j : ℕ) → i < j → j < 32 → same_tag (line_of (get_or ws (base + i) 0)) (line_of (get_or ws (base + j) 0)) ≡ false

module _ (ws : List ℕ) (base : ℕ) (n : length ws ≡ 512) (b : base ≤ 480) where
  abbrev ways : List Line
  ways = take 32 (drop base (lines_of ws))

  long : length ways ≡ 32
  long = length-take-le 32 (drop base (lines_of ws)) (rw (length-drop base (lines_of ws), length-map ws line_of) (omega arith))

  way : (i : ℕ) → i < 32 → get_or ways i empty_line ≡ line_of (get_or ws (base + i) 0)
  way i h = get_or-take 32 (drop base (lines_of ws)) i empty_line h ∙ get_or-drop base (lines_of ws) i empty_line ∙ line_at ws (base + i)

  pub set_apart : Apart ws base → tag_twice ways ≡ false
  set_apart a =
      twice_none ways
      (λ i j k h. let h' : j < 32 = rw long at h in rw (way i (omega arith), way j h') (a.pairs i j k h'))

  pub set_means : tag_twice ways ≡ false → Apart ws base
  set_means e =
      record {
        pairs = λ i j k h. rw (← way i (omega arith), ← way j h) (twice_means ways e i j k (rw long h));
      }

-- two valid lines of such a set have different tags
pub apart_tags : (ws : List ℕ) (base i j : ℕ) → Apart ws base → i < j → j < 32
    → get_or ws (base + i) 0 % 2 ≡ 1 → get_or ws (base + j) 0 % 2 ≡ 1 → get_or ws (base + i) 0 / 0x100000000 ≡ get_or ws (base + j) 0 / 0x100000000 → ⊥
apart_tags ws base i j a k h v w e =
    let x = get_or ws (base + i) 0 in
    let y = get_or ws (base + j) 0 in
    clash (tags_compared x y v w ∙ eq-eqb (x / 0x100000000) (y / 0x100000000) e) (a.pairs i j k h)

-- ---- all sets

module _ (l : List Line) (s : ℕ) (h : s < 16) where
  set_step : tags_sound (16 - s) (drop (s * 32) l) ≡ (not (tag_twice (take 32 (drop (s * 32) l))) && tags_sound (16 - (s + 1)) (drop ((s + 1) * 32) l))
  unfolding tags_sound
  set_step =
      let k : 16 - s ≡ suc (16 - (s + 1)) = omega arith in
      let e : s * 32 + 32 ≡ (s + 1) * 32 = omega arith in
      rw (k, drop-drop 32 (s * 32) l, e)

  pub set_bad : tag_twice (take 32 (drop (s * 32) l)) ≡ true → tags_sound (16 - s) (drop (s * 32) l) ≡ false
  set_bad t = set_step ∙ rw t

  pub set_good : tag_twice (take 32 (drop (s * 32) l)) ≡ false → tags_sound (16 - s) (drop (s * 32) l) ≡ tags_sound (16 - (s + 1)) (drop ((s + 1) * 32) l)
  set_good t = set_step ∙ rw t

pub sets_end : (l : List Line) (s : ℕ) → 16 ≤ s → tags_sound (16 - s) (drop (s * 32) l) ≡ true
unfolding tags_sound
sets_end l s h = let k : 16 - s ≡ 0 = omega arith in rw k
