-- Cache lines: their numbers, and the words of numbers.
use Prim.Native.Nat.{ℕ, ◌+◌, ◌*◌, ◌/◌, ◌%◌, ◌<◌}
use native.Mathlib.Omega.{arith}
use mathlib.Core.Bool.{true}
use mathlib.Core.Path.{◌≡◌, refl, sym, ◌∙◌, ap, subst}
use mathlib.Core.List.{List, [], ◌∷◌}
use lib.Dec.{eqb}
use lib.ListN.{length, get_or}
use lib.Seq.{take_all}
use borrow.Author.Tests.{lt-ltb}
use Rattle.values.specs.Bits.{bit, number}
use Rattle.values.specs.declared.Line.{Line}
use Rattle.values.proofs.Cases.{number_low}
use Rattle.values.proofs.Fields.{bit_number}
use Rattle.form.specs.Form.{fit_in, put_in}
use Rattle.form.specs.Texts.{line_places}
use Rattle.cache.specs.Packing.{line_of, word_of}
use Rattle.numbers.specs.Fields.{line_from}
use Rattle.numbers.specs.Code.{cache_line, Packs, LineHolds}
use Rattle.cache.proofs.Words.{line_word}
use Rattle.numbers.proofs.Each.{no_thing}
use Rattle.numbers.proofs.Cells.{cells, part_cells, fit_first, fit_rest, bit_back, bit_low, number_back}

pub line_wide : length cache_line.places ≡ 5
unfolding line_places
line_wide = refl

pub line_long : (l : Line) → length (cache_line.numbers l) ≡ 5
line_long l = refl

-- the numbers of the line of a word, as the code has them
pub line_listed : (w : ℕ) → w / 0x100000000 ∷ w / 8 % 0x20000000 ∷ w % 2 ∷ w / 2 % 2 ∷ w / 4 % 2 ∷ [] ≡ cache_line.numbers (line_of w)
unfolding line_of
line_listed w =
    let b1 : number (bit w 1) ≡ w / 2 % 2 = bit_number w 1 in
    let b2 : number (bit w 2) ≡ w / 4 % 2 = bit_number w 2 in
    rw (bit_low w, b1, b2)

-- ---- numbers that fit

-- the ranges of numbers that fit
pub record LineFit (v l h : ℕ) : Type 0 where
  pub v_low : v < 2
  pub l_low : l < 2
  pub h_low : h < 2

module _ (t f v l h : ℕ) where
  abbrev ns : List ℕ
  ns = t ∷ f ∷ v ∷ l ∷ h ∷ []

  pub line_fit : cache_line.fits ns ≡ true → LineFit v l h
  line_fit e =
      let e1 = fit_rest _ _ _ _ e in
      let e2 = fit_rest _ _ _ _ e1 in
      let e3 = fit_rest _ _ _ _ e2 in
      let e4 = fit_rest _ _ _ _ e3 in
      record { v_low = fit_first _ _ _ _ e2; l_low = fit_first _ _ _ _ e3; h_low = fit_first _ _ _ _ e4 }

  -- the line of numbers
  abbrev pub line_is : Line
  line_is = line_from (eqb v 1) t f (eqb l 1) (eqb h 1)

  pub line_is_lem : cache_line.thing ns ≡ line_is
  unfolding put_in
  line_is_lem = refl

  -- its numbers are these, where they fit
  pub line_again : LineFit v l h → cache_line.numbers line_is ≡ ns
  line_again g = rw (bit_back v g.v_low, bit_back l g.l_low, bit_back h g.h_low)

five : (ns : List ℕ) → length ns ≡ 5 → ns ≡ cells 5 ns 0
five ns h = sym (take_all 5 ns (omega arith)) ∙ part_cells 5 ns 0 (omega arith)

-- numbers that fit are those of the line that they are of
pub lines_again : (ns : List ℕ) → length ns ≡ 5 → cache_line.fits ns ≡ true → cache_line.numbers (cache_line.thing ns) ≡ ns
unfolding cells
lines_again ns h e =
    let q = five ns h in
    let g = line_fit _ _ _ _ _ (ap (λ (l : List ℕ). cache_line.fits l) (sym q) ∙ e) in
    subst (λ (l : List ℕ). cache_line.numbers (cache_line.thing l) ≡ l) (sym q)
    (ap (λ (x : Line). cache_line.numbers x) (line_is_lem _ _ _ _ _) ∙ line_again _ _ _ _ _ g)

-- the ranges of a line whose numbers fit
pub record LineGood (l : Line) : Type 0 where
  pub tag : l.tag < 0x100000000
  pub frame : l.frame < 0x100000000

-- the line of a word has them
pub line_good : (w : ℕ) → w < 0x10000000000000000 → LineGood (line_of w)
unfolding line_of
line_good w h = record { tag = omega arith; frame = omega arith }

-- the numbers of a line fit, and are of that line
pub line_fits : (l : Line) → LineGood l → cache_line.fits (cache_line.numbers l) ≡ true
unfolding fit_in
line_fits l g =
    rw (
      lt-ltb l.tag 0x100000000 g.tag,
      lt-ltb l.frame 0x100000000 g.frame,
      lt-ltb (number l.valid) 2 (number_low l.valid),
      lt-ltb (number l.low) 2 (number_low l.low),
      lt-ltb (number l.high) 2 (number_low l.high),
    )

pub line_back : (l : Line) → cache_line.thing (cache_line.numbers l) ≡ l
line_back l = line_is_lem _ _ _ _ _ ∙ rw (number_back l.valid, number_back l.low, number_back l.high)

-- ---- the word of numbers

module _ (t f v l h w : ℕ) (e : w ≡ v % 2 + 2 * (l % 2 + 2 * (h % 2 + 2 * (f % 0x20000000 + 0x20000000 * t)))) where
  packed : cache_line.fits (t ∷ f ∷ v ∷ l ∷ h ∷ []) ≡ true → LineHolds (cache_line.thing (t ∷ f ∷ v ∷ l ∷ h ∷ []))
      → w ≡ word_of (cache_line.thing (t ∷ f ∷ v ∷ l ∷ h ∷ []))
  unfolding word_of
  packed k r =
      let g = line_fit t f v l h k in
      let i = line_is_lem t f v l h in
      let low : f < 0x20000000 = subst LineHolds i r in
      let l0 = g.v_low in
      let l1 = g.l_low in
      let l2 = g.h_low in
      let f0 : v % 2 ≡ v = omega (arith, l0) in
      let f1 : l % 2 ≡ l = omega (arith, l1) in
      let f2 : h % 2 ≡ h = omega (arith, l2) in
      let f3 : f % 0x20000000 ≡ f = omega (arith, low) in
      e ∙ rw (f0, f1, f2, f3, i, bit_back v l0, bit_back l l1, bit_back h l2)

  pub line_packs : Packs cache_line LineHolds word_of (t ∷ f ∷ v ∷ l ∷ h ∷ []) w
  line_packs = record { same = packed }

-- the word of five numbers
pub line_row : (r : List ℕ) (w : ℕ) → length r ≡ 5
    → w ≡ get_or r 2 0 % 2 + 2 * (get_or r 3 0 % 2 + 2 * (get_or r 4 0 % 2 + 2 * (get_or r 1 0 % 0x20000000 + 0x20000000 * get_or r 0 0)))
    → Packs cache_line LineHolds word_of r w
unfolding cells
line_row r w long e = subst (λ (ns : List ℕ). Packs cache_line LineHolds word_of ns w) (sym (five r long)) (line_packs _ _ _ _ _ w e)

-- ---- a line read

-- numbers that are not those of their word's line do not fit, or are of no line that a word can stand for
pub line_unread : (ns : List ℕ) (w : ℕ) → length ns ≡ 5 → Packs cache_line LineHolds word_of ns w → (ns ≡ cache_line.numbers (line_of w) → ⊥)
    → cache_line.fits ns ≡ true → LineHolds (cache_line.thing ns) → ⊥
line_unread ns w long p z = no_thing cache_line LineHolds word_of line_of ns (cache_line.numbers (line_of w)) w p refl line_word (lines_again ns long) z
