-- The keys of a set: where no key occurs again, no two valid lines of the set have equal tags, and the other way round if each line is sound.
use Prim.Native.Nat.{ℕ, ◌+◌, ◌-◌, ◌*◌, ◌/◌, ◌%◌, ◌<◌, ◌≤◌}
use native.Mathlib.Omega.{arith}
use native.Mathlib.Numerals.{add-one}
use mathlib.Core.Bool.{Bool, true, false, ◌||◌}
use mathlib.Core.Path.{◌≡◌, refl, sym, ◌∙◌, ap, subst}
use mathlib.Core.List.{List, [], ◌∷◌, ◌++◌}
use lib.Dec.{eqb, ltb, leb}
use lib.ListN.{length, length-map, length-drop, length-set, get_or, set, take, drop}
use lib.Seq.{get_or-take, get_or-drop, get_or-set_same, get_or-set_other, length-take-le, take-suc}
use borrow.Author.Tests.{ltb-true, ltb-false, eqb-true, eqb-false, ne_eqb}
use Rattle.values.specs.Lists.{all, any}
use Rattle.values.specs.Empty.{empty_line}
use Rattle.values.proofs.Cases.{case, clash, and_right, or_none}
use Rattle.values.proofs.Alls.{all_means}
use Rattle.values.proofs.Anys.{any_none, any_means}
use Rattle.cache.specs.Packing.{line_of, lines_of}
use Rattle.cache.proofs.Lines.{line_at}
use Rattle.soundness.specs.Soundness.{same_tag, tag_twice, line_sound}
use Rattle.soundness.proofs.Clauses.{even, line_odd, line_even}
use Rattle.soundness.proofs.Tags.{Apart, set_means, tags_compared, first_empty, second_empty, apart_tags}

-- a number up to p is p or below it
up_to : {A : Type 0} (j p : ℕ) → j < p + 1 → (j ≡ p → A) → (j < p → A) → A
up_to j p h f g = case (eqb j p) (λ t. f (eqb-true j p t)) (λ t. let n = eqb-false j p t in g (before n))
  where
    before : (j ≡ p → ⊥) → j < p
    before n = omega arith

-- ---- the keys

-- k is the key of the word w of line p: a valid line's tag, an empty line's number
abbrev pub KeyIs : ℕ → ℕ → ℕ → Type 0
KeyIs w p k = (w % 2 ≡ 1 → k ≡ w / 0x100000000) × (w ≡ 0 → k ≡ 0x800000 + p)

-- the keys of the first p lines stand at their places and 32 behind
pub record Keyed (ws : List ℕ) (base p : ℕ) (keys : List ℕ) : Type 0 where
  pub long : length keys ≡ 64
  pub first : (j : ℕ) → j < p → KeyIs (get_or ws (base + j) 0) j (get_or keys j 0)
  pub second : (j : ℕ) → j < p → KeyIs (get_or ws (base + j) 0) j (get_or keys (j + 32) 0)

module _ (ws : List ℕ) (base : ℕ) where
  pub none_keyed : (keys : List ℕ) → length keys ≡ 64 → Keyed ws base 0 keys
  none_keyed keys n = record { long = n; first = λ j h. absurd (omega arith); second = λ j h. absurd (omega arith) }

  pub keyed_on : (p k : ℕ) (keys : List ℕ) → p < 32 → Keyed ws base p keys → KeyIs (get_or ws (base + p) 0) p k
      → Keyed ws base (p + 1) (set (set keys p k) (p + 32) k)
  keyed_on p k keys l s m =
      record {
        long = length-set (set keys p k) (p + 32) k ∙ length-set keys p k ∙ s.long;
        first = λ j h.
            up_to j p h
            (λ e. subst (λ (x : ℕ). KeyIs (get_or ws (base + x) 0) x (get_or (set (set keys p k) (p + 32) k) x 0)) (sym e) (at p here))
            (λ b. subst (λ (x : ℕ). KeyIs (get_or ws (base + j) 0) j x) (sym (kept j (λ e. omega arith) (λ e. omega arith))) (s.first j b));
        second = λ j h.
            up_to j p h
            (λ e. subst (λ (x : ℕ). KeyIs (get_or ws (base + x) 0) x (get_or (set (set keys p k) (p + 32) k) (x + 32) 0)) (sym e) (at (p + 32) there))
            (λ b. subst (λ (x : ℕ). KeyIs (get_or ws (base + j) 0) j x) (sym (kept (j + 32) (λ e. omega arith) (λ e. omega arith))) (s.second j b));
      }
    where
      wide : length (set keys p k) ≡ 64
      wide = length-set keys p k ∙ s.long

      -- a place that is neither p nor p + 32 keeps its key
      kept : (x : ℕ) → (x ≡ p → ⊥) → (x ≡ p + 32 → ⊥) → get_or (set (set keys p k) (p + 32) k) x 0 ≡ get_or keys x 0
      kept x a b = get_or-set_other (set keys p k) (p + 32) x k 0 b ∙ get_or-set_other keys p x k 0 a

      here : get_or (set (set keys p k) (p + 32) k) p 0 ≡ k
      here = get_or-set_other (set keys p k) (p + 32) p k 0 (λ e. omega arith) ∙ get_or-set_same keys p k 0 (rw s.long (omega arith))

      there : get_or (set (set keys p k) (p + 32) k) (p + 32) 0 ≡ k
      there = get_or-set_same (set keys p k) (p + 32) k 0 (rw wide (omega arith))

      -- a place that has k has the key of line p
      at : (x : ℕ) → get_or (set (set keys p k) (p + 32) k) x 0 ≡ k → KeyIs (get_or ws (base + p) 0) p (get_or (set (set keys p k) (p + 32) k) x 0)
      at x e = subst (λ (y : ℕ). KeyIs (get_or ws (base + p) 0) p y) (sym e) m

-- all keys, round the set
pub record Round (ws : List ℕ) (base : ℕ) (keys : List ℕ) : Type 0 where
  pub key : (j : ℕ) → j < 64 → KeyIs (get_or ws (base + j % 32) 0) (j % 32) (get_or keys j 0)

pub keyed_round : (ws : List ℕ) (base : ℕ) (keys : List ℕ) → Keyed ws base 32 keys → Round ws base keys
keyed_round ws base keys k =
    record {
      key = λ j h.
          case (ltb j 32)
          (λ t.
          let l : j < 32 = ltb-true j 32 t in
          let e : j % 32 ≡ j = omega arith in
          subst (λ (x : ℕ). KeyIs (get_or ws (base + x) 0) x (get_or keys j 0)) (sym e) (k.first j l))
          (λ t.
          let l : 32 ≤ j = ltb-false j 32 t in
          let e : j % 32 ≡ j - 32 = omega arith in
          let f : j - 32 + 32 ≡ j = omega arith in
          subst (λ (x : ℕ). KeyIs (get_or ws (base + x) 0) x (get_or keys j 0)) (sym e)
          (subst (λ (x : ℕ). KeyIs (get_or ws (base + (j - 32)) 0) (j - 32) (get_or keys x 0)) f (k.second (j - 32) (omega arith))));
    }

-- ---- a key that occurs again

-- key i is among the d keys behind it
abbrev pub again : List ℕ → ℕ → ℕ → Bool
again keys i d = any (eqb (get_or keys i 0)) (take d (drop (i + 1) keys))

any_snoc : (p : ℕ → Bool) (l : List ℕ) (x : ℕ) → any p (l ++ (x ∷ [])) ≡ (any p l || p x)
unfolding any
any_snoc p [] x = only (p x)
  where
    only : (a : Bool) → (a || false) ≡ (false || a)
    only true = refl
    only false = refl
any_snoc p (y ∷ l) x = rw (any_snoc p l x) (other (p y) (any p l) (p x))
  where
    other : (a b c : Bool) → (a || (b || c)) ≡ ((a || b) || c)
    other true b c = refl
    other false b c = refl

module _ (keys : List ℕ) (i : ℕ) where
  pub again_none : again keys i 0 ≡ false
  unfolding any
  again_none = refl

  pub again_on : (d : ℕ) → 1 ≤ d → i + d < length keys → (again keys i (d - 1) || eqb (get_or keys i 0) (get_or keys (i + d) 0)) ≡ again keys i (d + 1 - 1)
  again_on d o h =
      let l = drop (i + 1) keys in
      let k : d + 1 - 1 ≡ (d - 1) + 1 = omega arith in
      let e : i + 1 + (d - 1) ≡ i + d = omega arith in
      let n : length l ≡ length keys - (i + 1) = length-drop (i + 1) keys in
      let m : d - 1 < length l = omega arith in
      let g : get_or l (d - 1) 0 ≡ get_or keys (i + d) 0 = get_or-drop (i + 1) keys (d - 1) 0 ∙ ap (λ (x : ℕ). get_or keys x 0) e in
      ap (λ (x : ℕ). again keys i (d - 1) || eqb (get_or keys i 0) x) (sym g)
      ∙ sym (any_snoc (eqb (get_or keys i 0)) (take (d - 1) l) (get_or l (d - 1) 0))
      ∙ ap (λ (x : List ℕ). any (eqb (get_or keys i 0)) x) (sym (ap (λ (x : ℕ). take x l) (k ∙ add-one (d - 1)) ∙ take-suc l (d - 1) 0 m))

-- none of the j keys from i on is among the 16 behind it
pub record Alone (keys : List ℕ) (i j : ℕ) : Type 0 where
  pub each : (x : ℕ) → i ≤ x → x < i + j → again keys x 16 ≡ false

module _ (keys : List ℕ) where
  pub none_alone : (i : ℕ) → Alone keys i 0
  none_alone i = record { each = λ x a b. absurd (omega arith) }

  alone_on : (i j : ℕ) → Alone keys i j → again keys (i + j) 16 ≡ false → Alone keys i (j + 1)
  alone_on i j a e =
      record {
        each = λ x k h. up_to x (i + j) (omega arith) (λ q. subst (λ (y : ℕ). again keys y 16 ≡ false) (sym q) e) (λ l. a.each x k l);
      }

  pub alone_join : (p j : ℕ) → Alone keys 0 p → ((x : ℕ) → p ≤ x → x < p + j → again keys x 16 ≡ false) → Alone keys 0 (p + j)
  alone_join p j a f =
      record {
        each = λ x k h. case (ltb x p) (λ t. let l = ltb-true x p t in a.each x k (omega arith)) (λ t. f x (ltb-false x p t) (omega arith));
      }

-- b is false just where none of the j keys from i on is among the 16 behind it
pub record Told (keys : List ℕ) (i j : ℕ) (b : Bool) : Type 0 where
  pub none : b ≡ false → Alone keys i j
  pub so : Alone keys i j → b ≡ false

module _ (keys : List ℕ) (i : ℕ) where
  pub none_told : Told keys i 0 false
  none_told = record { none = λ e. none_alone keys i; so = λ a. refl }

  pub told_on : (j : ℕ) (b e : Bool) → Told keys i j b → e ≡ again keys (i + j) 16 → Told keys i (j + 1) (b || e)
  told_on j b e t q =
      record {
        none = λ f. let z = or_none b e f in alone_on keys i j (t.none z.0) (sym q ∙ z.1);
        so = λ a. rw (t.so (record { each = λ x k h. a.each x k (omega arith) }), q, a.each (i + j) (omega arith) (omega arith));
      }

-- ---- keys and tags

module _ (ws : List ℕ) (base : ℕ) (keys : List ℕ) (n : length keys ≡ 64) (r : Round ws base keys) where
  behind : (x : ℕ) → x < 32 → length (take 16 (drop (x + 1) keys)) ≡ 16
  behind x h = length-take-le 16 (drop (x + 1) keys) (rw (length-drop (x + 1) keys, n) (omega arith))

  -- the key that is e + 1 behind key x
  at_behind : (x e : ℕ) → e < 16 → get_or (take 16 (drop (x + 1) keys)) e 0 ≡ get_or keys (x + 1 + e) 0
  at_behind x e h = get_or-take 16 (drop (x + 1) keys) e 0 h ∙ get_or-drop (x + 1) keys e 0

  -- the word of line p
  abbrev word : ℕ → ℕ
  word p = get_or ws (base + p) 0

  -- where no key occurs again, no two valid lines have equal tags
  pub alone_apart : Alone keys 0 32 → Apart ws base
  alone_apart a = record { pairs = λ i j l h. pair i j l h }
    where
      differ : (x e : ℕ) → x < 32 → e < 16 → get_or keys x 0 ≡ get_or keys (x + 1 + e) 0 → ⊥
      differ x e h l =
          let q = any_means (eqb (get_or keys x 0)) 0 (take 16 (drop (x + 1) keys)) (a.each x (omega arith) (omega arith)) e (rw (behind x h) l) in
          eqb-false (get_or keys x 0) (get_or keys (x + 1 + e) 0) (ap (λ (y : ℕ). eqb (get_or keys x 0) y) (sym (at_behind x e l)) ∙ q)

      tag : (x y : ℕ) → x < 64 → x % 32 ≡ y → word y % 2 ≡ 1 → get_or keys x 0 ≡ word y / 0x100000000
      tag x y h q v = (subst (λ (z : ℕ). KeyIs (word z) z (get_or keys x 0)) q (r.key x h)).0 v

      unlike : (i j : ℕ) → i < j → j < 32 → word i % 2 ≡ 1 → word j % 2 ≡ 1 → word i / 0x100000000 ≡ word j / 0x100000000 → ⊥
      unlike i j l h v w e =
          case (ltb (j - i) 17)
          (λ t.
          let near : j - i < 17 = ltb-true (j - i) 17 t in
          let q : i + 1 + (j - i - 1) ≡ j = omega arith in
          differ i (j - i - 1) (omega arith) (omega arith)
          (tag i i (omega arith) (omega arith) v ∙ e ∙ sym (tag (i + 1 + (j - i - 1)) j (omega arith) (omega arith) w)))
          (λ t.
          let far : 17 ≤ j - i = ltb-false (j - i) 17 t in
          let q : j + 1 + (31 - (j - i)) ≡ i + 32 = omega arith in
          differ j (31 - (j - i)) h (omega arith)
          (tag j j (omega arith) (omega arith) w ∙ sym e ∙ sym (tag (j + 1 + (31 - (j - i))) i (omega arith) (omega arith) v)))

      pair : (i j : ℕ) → i < j → j < 32 → same_tag (line_of (word i)) (line_of (word j)) ≡ false
      pair i j l h =
          case (eqb (word i % 2) 1)
          (λ v.
          case (eqb (word j % 2) 1)
          (λ w.
          let v' = eqb-true (word i % 2) 1 v in
          let w' = eqb-true (word j % 2) 1 w in
          tags_compared (word i) (word j) v' w' ∙ ne_eqb (word i / 0x100000000) (word j / 0x100000000) (unlike i j l h v' w'))
          (λ w. second_empty (word i) (word j) (eqb-false (word j % 2) 1 w)))
          (λ v. first_empty (word i) (word j) (eqb-false (word i % 2) 1 v))

  module _ (size : ℕ) (long : length ws ≡ 512) (b : base ≤ 480) (s : all (line_sound size) (lines_of ws) ≡ true) (a : Apart ws base) where
    sound_at : (p : ℕ) → p < 32 → line_sound size (line_of (word p)) ≡ true
    sound_at p h =
        ap (line_sound size) (sym (line_at ws (base + p)))
        ∙ all_means (line_sound size) empty_line (lines_of ws) s (base + p) (rw (length-map ws line_of) (omega arith))

    -- a valid line's tag is in range
    tag_low : (p : ℕ) → p < 32 → word p % 2 ≡ 1 → word p / 0x100000000 < 0x800000
    tag_low p h v =
        ltb-true (word p / 0x100000000) 0x800000
        (and_right (leb (word p / 8 % 0x20000000 * 32 + 32) size) (ltb (word p / 0x100000000) 0x800000) (sym (line_odd (word p) size v) ∙ sound_at p h))

    -- another line's word is 0
    empty_word : (p : ℕ) → p < 32 → word p % 2 ≡ 0 → word p ≡ 0
    empty_word p h v = eqb-true (word p) 0 (sym (line_even (word p) size v) ∙ sound_at p h)

    -- keys of two lines differ
    keys_differ : (p q k l : ℕ) → p < 32 → q < 32 → (p ≡ q → ⊥) → KeyIs (word p) p k → KeyIs (word q) q l → k ≡ l → ⊥
    keys_differ p q k l h g d x y e =
        case (eqb (word p % 2) 1)
        (λ v.
        let v' = eqb-true (word p % 2) 1 v in
        let x' = x.0 v' in
        let t = tag_low p h v' in
        case (eqb (word q % 2) 1)
        (λ w. let w' = eqb-true (word q % 2) 1 w in both v' w' (sym x' ∙ e ∙ y.0 w'))
        (λ w. let y' = y.1 (empty_word q g (even (word q) (eqb-false (word q % 2) 1 w))) in omega arith))
        (λ v.
        let x' = x.1 (empty_word p h (even (word p) (eqb-false (word p % 2) 1 v))) in
        case (eqb (word q % 2) 1)
        (λ w. let w' = eqb-true (word q % 2) 1 w in let y' = y.0 w' in let t = tag_low q g w' in omega arith)
        (λ w. let y' = y.1 (empty_word q g (even (word q) (eqb-false (word q % 2) 1 w))) in d (omega arith)))
      where
        above : (ltb p q ≡ false) → q < p
        above t = let z = ltb-false p q t in other d z
          where
            other : (p ≡ q → ⊥) → q ≤ p → q < p
            other n z = omega arith

        both : word p % 2 ≡ 1 → word q % 2 ≡ 1 → word p / 0x100000000 ≡ word q / 0x100000000 → ⊥
        both v w t =
            case (ltb p q)
            (λ z. apart_tags ws base p q a (ltb-true p q z) g v w t)
            (λ z. apart_tags ws base q p a (above z) h w v (sym t))

    -- so no key occurs again
    pub apart_alone : (x : ℕ) → x < 32 → again keys x 16 ≡ false
    apart_alone x h =
        any_none (eqb (get_or keys x 0)) 0 (take 16 (drop (x + 1) keys))
        (λ e k.
        let l : e < 16 = rw (behind x h) at k in
        let y = x + 1 + e in
        ap (λ (z : ℕ). eqb (get_or keys x 0) z) (at_behind x e l)
        ∙ ne_eqb (get_or keys x 0) (get_or keys y 0)
        (keys_differ x (y % 32) (get_or keys x 0) (get_or keys y 0) h (omega arith) (λ q. omega arith) (own x h) (r.key y (omega arith))))
      where
        own : (x : ℕ) → x < 32 → KeyIs (word x) x (get_or keys x 0)
        own x h = let q : x % 32 ≡ x = omega arith in subst (λ (z : ℕ). KeyIs (word z) z (get_or keys x 0)) q (r.key x (omega arith))

-- a key of the eight from p on that occurs again, in a set whose lines are sound: two valid lines of the set have equal tags
pub again_twice : (ws : List ℕ) (base : ℕ) (keys : List ℕ) (size p : ℕ) (b : Bool) → length ws ≡ 512 → base ≤ 480 → length keys ≡ 64 → Round ws base keys
    → all (line_sound size) (lines_of ws) ≡ true → p ≤ 24 → (((x : ℕ) → p ≤ x → x < p + 8 → again keys x 16 ≡ false) → b ≡ false) → b ≡ true
    → tag_twice (take 32 (drop base (lines_of ws))) ≡ true
again_twice ws base keys size p b long low n r s h f t =
    case (tag_twice (take 32 (drop base (lines_of ws)))) (λ q. q)
    (λ q. clash t (f (λ x k l. apart_alone ws base keys n r size long low s (set_means ws base long low q) x (omega arith))))
