-- What the tests of the Dcache mean: each pointer, each line, and each two lines of a set.
use Prim.Native.Nat.{ℕ, zero, suc, ◌+◌, ◌*◌, ◌<◌, ◌≤◌}
use native.Mathlib.Omega.{arith}
use mathlib.Core.Bool.{true, false, not, ◌&&◌}
use mathlib.Core.Logic.{◌≢◌}
use mathlib.Core.Path.{◌≡◌, refl, sym, ◌∙◌, ap, subst}
use mathlib.Core.List.{List}
use lib.Dec.{eqb, ltb, leb}
use lib.ListN.{length, length-drop, get_or, take, drop}
use lib.Seq.{get_or-take, get_or-drop, length-take-le}
use borrow.Author.Tests.{eqb-true, eq-eqb, ne_eqb, lt-ltb, le-leb, ltb-true, leb-true, not-true}
use Rattle.values.specs.Lists.{all}
use Rattle.values.specs.Empty.{empty_line}
use Rattle.values.specs.declared.Line.{Line}
use Rattle.values.proofs.Cases.{case, clash, and_left, and_right}
use Rattle.soundness.specs.Soundness.{pointer_sound, same_tag, tag_twice, tags_sound, line_empty, line_sound}
use Rattle.soundness.proofs.Twice.{twice_none, twice_means}
use Rattle.soundness_laws.proofs.Elements.{each_means, each_of, choice_yes, choice_no}

-- ---- pointers

pub pointers_mean : (l : List ℕ) → all pointer_sound l ≡ true → (s : ℕ) → get_or l s 0 ≤ 31
pointers_mean l h s = leb-true (get_or l s 0) 31 (each_means pointer_sound 0 refl l h s)

pub pointers_of : (l : List ℕ) → ((s : ℕ) → get_or l s 0 ≤ 31) → all pointer_sound l ≡ true
pointers_of l f = each_of pointer_sound 0 refl l (λ i. le-leb (get_or l i 0) 31 (f i))

-- ---- a line

pub record LineIs (n : ℕ) (l : Line) : Type 0 where
  pub inside : l.valid ≡ true → l.frame * 32 + 32 ≤ n
  pub tag : l.valid ≡ true → l.tag < 0x800000
  pub empty : l.valid ≡ false → l ≡ empty_line

-- a line whose fields are those of the empty line
line_zero : (l : Line) → line_empty l ≡ true → l ≡ empty_line
line_zero l h =
    let a = not-true l.valid (and_left (not l.valid) (eqb l.tag 0 && (eqb l.frame 0 && (not l.low && not l.high))) h) in
    let h1 = and_right (not l.valid) (eqb l.tag 0 && (eqb l.frame 0 && (not l.low && not l.high))) h in
    let b = eqb-true l.tag 0 (and_left (eqb l.tag 0) (eqb l.frame 0 && (not l.low && not l.high)) h1) in
    let h2 = and_right (eqb l.tag 0) (eqb l.frame 0 && (not l.low && not l.high)) h1 in
    let c = eqb-true l.frame 0 (and_left (eqb l.frame 0) (not l.low && not l.high) h2) in
    let h3 = and_right (eqb l.frame 0) (not l.low && not l.high) h2 in
    let d = not-true l.low (and_left (not l.low) (not l.high) h3) in
    let e = not-true l.high (and_right (not l.low) (not l.high) h3) in
    rw (a, b, c, d, e)

pub line_means : (n : ℕ) (l : Line) → line_sound n l ≡ true → LineIs n l
unfolding line_sound
line_means n l h =
    let i = leb (l.frame * 32 + 32) n in
    let t = ltb l.tag 0x800000 in
    record {
      inside = λ v. leb-true (l.frame * 32 + 32) n (and_left i t (choice_yes l.valid (i && t) (line_empty l) v h));
      tag = λ v. ltb-true l.tag 0x800000 (and_right i t (choice_yes l.valid (i && t) (line_empty l) v h));
      empty = λ v. line_zero l (choice_no l.valid (i && t) (line_empty l) v h);
    }

pub line_of : (n : ℕ) (l : Line) → LineIs n l → line_sound n l ≡ true
unfolding line_sound
line_of n l r =
    case l.valid
    (λ t. rw (t, le-leb (l.frame * 32 + 32) n (r.inside t), lt-ltb l.tag 0x800000 (r.tag t)))
    (λ t. rw (r.empty t))

module _ (n : ℕ) (l : List Line) where
  empty_line_lem : line_sound n empty_line ≡ true
  unfolding line_sound
  empty_line_lem = refl

  pub lines_mean : all (line_sound n) l ≡ true → (i : ℕ) → LineIs n (get_or l i empty_line)
  lines_mean h i = line_means n (get_or l i empty_line) (each_means (line_sound n) empty_line empty_line_lem l h i)

  pub lines_of_lem : ((i : ℕ) → LineIs n (get_or l i empty_line)) → all (line_sound n) l ≡ true
  lines_of_lem f = each_of (line_sound n) empty_line empty_line_lem l (λ i. line_of n (get_or l i empty_line) (f i))

-- ---- two lines of one set

-- two valid lines have other tags
abbrev pub Differ : Line → Line → Type 0
Differ a b = a.valid ≡ true → b.valid ≡ true → a.tag ≢ b.tag

pub differ_means : (a b : Line) → same_tag a b ≡ false → Differ a b
differ_means a b h u v e = clash (rw (u, v) (eq-eqb a.tag b.tag e)) h

pub differ_of : (a b : Line) → Differ a b → same_tag a b ≡ false
differ_of a b d =
    case a.valid
    (λ u. case b.valid (λ v. rw (u, v) (ne_eqb a.tag b.tag (d u v))) (λ v. rw (u, v)))
    (λ u. rw u)

-- ways i and j of each of the first n sets
abbrev pub Apart : ℕ → List Line → Type 0
Apart n l = (s i j : ℕ) → s < n → i < j → j < 32 → Differ (get_or l (s * 32 + i) empty_line) (get_or l (s * 32 + j) empty_line)

module _ (l : List Line) (h : 32 ≤ length l) where
  set_long : length (take 32 l) ≡ 32
  set_long = length-take-le 32 l h

  pub set_means : tag_twice (take 32 l) ≡ false → (i j : ℕ) → i < j → j < 32 → Differ (get_or l i empty_line) (get_or l j empty_line)
  set_means e i j k b =
      differ_means (get_or l i empty_line) (get_or l j empty_line)
      (ap (λ (x : Line). same_tag x (get_or l j empty_line)) (sym (get_or-take 32 l i empty_line (omega arith)))
      ∙ ap (λ (x : Line). same_tag (get_or (take 32 l) i empty_line) x) (sym (get_or-take 32 l j empty_line b))
      ∙ twice_means (take 32 l) e i j k (rw set_long b))

  pub set_of_lem : ((i j : ℕ) → i < j → j < 32 → Differ (get_or l i empty_line) (get_or l j empty_line)) → tag_twice (take 32 l) ≡ false
  set_of_lem f =
      twice_none (take 32 l)
      (λ i j k b.
      let b' : j < 32 = rw set_long at b in
      ap (λ (x : Line). same_tag x (get_or (take 32 l) j empty_line)) (get_or-take 32 l i empty_line (omega arith))
      ∙ ap (λ (x : Line). same_tag (get_or l i empty_line) x) (get_or-take 32 l j empty_line b')
      ∙ differ_of (get_or l i empty_line) (get_or l j empty_line) (f i j k b'))

-- the sets behind the first
next_set : (l : List Line) (s i : ℕ) → get_or (drop 32 l) (s * 32 + i) empty_line ≡ get_or l (suc s * 32 + i) empty_line
next_set l s i =
    let e : 32 + (s * 32 + i) ≡ suc s * 32 + i = omega arith in
    get_or-drop 32 l (s * 32 + i) empty_line ∙ ap (λ (k : ℕ). get_or l k empty_line) e

pub tags_mean : (n : ℕ) (l : List Line) → n * 32 ≤ length l → tags_sound n l ≡ true → Apart n l
unfolding tags_sound
tags_mean zero l h e s i j p k b = absurd (omega arith)
tags_mean (suc n) l h e zero i j p k b =
    let z : (x : ℕ) → 0 * 32 + x ≡ x = λ x. omega arith in
    rw (z i, z j)
    (set_means l (omega arith) (not-true (tag_twice (take 32 l)) (and_left (not (tag_twice (take 32 l))) (tags_sound n (drop 32 l)) e)) i j k b)
tags_mean (suc n) l h e (suc s) i j p k b =
    let rest = and_right (not (tag_twice (take 32 l))) (tags_sound n (drop 32 l)) e in
    let r = tags_mean n (drop 32 l) (rw (length-drop 32 l) (omega arith)) rest s i j (omega arith) k b in
    subst (λ (x : Line). Differ x (get_or l (suc s * 32 + j) empty_line)) (next_set l s i)
    (subst (λ (x : Line). Differ (get_or (drop 32 l) (s * 32 + i) empty_line) x) (next_set l s j) r)

pub tags_of : (n : ℕ) (l : List Line) → n * 32 ≤ length l → Apart n l → tags_sound n l ≡ true
unfolding tags_sound
tags_of zero l h f = refl
tags_of (suc n) l h f =
    let z : (x : ℕ) → 0 * 32 + x ≡ x = λ x. omega arith in
    let first : tag_twice (take 32 l) ≡ false = set_of_lem l (omega arith) (λ i j k b. rw (z i, z j) at (f 0 i j (omega arith) k b)) in
    let rest : Apart n (drop 32 l) = λ s i j p k b.
    subst (λ (x : Line). Differ x (get_or (drop 32 l) (s * 32 + j) empty_line)) (sym (next_set l s i))
    (subst (λ (x : Line). Differ (get_or l (suc s * 32 + i) empty_line) x) (sym (next_set l s j)) (f (suc s) i j (omega arith) k b)) in
    rw (first, tags_of n (drop 32 l) (rw (length-drop 32 l) (omega arith)) rest)
