-- TLB entries: their numbers, and the words of numbers.
use Prim.Native.Nat.{ℕ, ◌+◌, ◌*◌, ◌-◌, ◌/◌, ◌%◌, ◌<◌}
use native.Mathlib.Omega.{arith}
use mathlib.Core.Bool.{true}
use mathlib.Core.Path.{◌≡◌, refl, sym, ◌∙◌, ap, subst}
use mathlib.Core.List.{List, [], ◌∷◌}
use lib.Dec.{eqb}
use lib.ListN.{length, get_or}
use lib.Seq.{take_all}
use borrow.Author.Tests.{lt-ltb}
use Rattle.values.specs.Bits.{bit, number}
use Rattle.values.specs.declared.Entry.{Entry}
use Rattle.values.proofs.Cases.{number_low}
use Rattle.values.proofs.Fields.{bit_number}
use Rattle.form.specs.Form.{fit_in, put_in}
use Rattle.form.specs.Texts.{line_places}
use Rattle.tlb.specs.Packing.{entry_of, word_of}
use Rattle.walk.specs.Ranges.{InRange}
use Rattle.numbers.specs.Fields.{entry_from}
use Rattle.numbers.specs.Code.{entry_line, Packs}
use Rattle.tlb.proofs.Packing.{entry_word}
use Rattle.numbers.proofs.Each.{no_thing}
use Rattle.numbers.proofs.Cells.{cells, part_cells, fit_first, fit_rest, bit_back, bit_low, number_back}

pub entry_wide : length entry_line.places ≡ 11
unfolding line_places
entry_wide = refl

pub entry_long : (e : Entry) → length (entry_line.numbers e) ≡ 11
entry_long e = refl

-- the permissions of a word
ap0 : (q : ℕ) → q % 0x100 / 1 % 4 ≡ q % 4
ap0 q = omega arith

ap1 : (q : ℕ) → q % 0x100 / 4 % 4 ≡ q / 4 % 4
ap1 q = omega arith

ap2 : (q : ℕ) → q % 0x100 / 16 % 4 ≡ q / 16 % 4
ap2 q = omega arith

ap3 : (q : ℕ) → q % 0x100 / 64 % 4 ≡ q / 64 % 4
ap3 q = omega arith

-- a place of a word, by the place above it
above : (w : ℕ) → (w / 0x10000 / 4 ≡ w / 0x40000) × (w / 0x10000 / 16 ≡ w / 0x100000) × (w / 0x10000 / 64 ≡ w / 0x400000)
above w = (omega arith, omega arith, omega arith)

-- the numbers of the entry of a word, as the code has them
pub entry_listed : (w : ℕ) → w % 2 ∷ w / 8 % 32 ∷ w / 0x100000000000 * 0x1000 ∷ w / 0x1000000 % 0x100000 * 0x1000 ∷ w / 0x100 % 0x100 ∷ w / 0x10000 % 4
    ∷ w / 0x40000 % 4 ∷ w / 0x100000 % 4 ∷ w / 0x400000 % 4 ∷ w / 2 % 2 ∷ w / 4 % 2 ∷ [] ≡ entry_line.numbers (entry_of w)
unfolding entry_of
entry_listed w =
    let b1 : number (bit w 1) ≡ w / 2 % 2 = bit_number w 1 in
    let b2 : number (bit w 2) ≡ w / 4 % 2 = bit_number w 2 in
    let q = w / 0x10000 in
    let a1 : q % 0x100 / 4 % 4 ≡ w / 0x40000 % 4 = ap1 q ∙ ap (λ (x : ℕ). x % 4) (above w).0 in
    let a2 : q % 0x100 / 16 % 4 ≡ w / 0x100000 % 4 = ap2 q ∙ ap (λ (x : ℕ). x % 4) (above w).1 in
    let a3 : q % 0x100 / 64 % 4 ≡ w / 0x400000 % 4 = ap3 q ∙ ap (λ (x : ℕ). x % 4) (above w).2 in
    rw (bit_low w, b1, b2, ap0 q, a1, a2, a3)

-- two bits and what is above them
low_is : (x a y : ℕ) → a < 4 → x ≡ a + 4 * y → (x % 4 ≡ a) × (x / 4 ≡ y)
low_is x a y h e = (omega arith, omega arith)

-- a quarter's quarter
quarters : (x : ℕ) → (x / 4 / 4 ≡ x / 16) × (x / 16 / 4 ≡ x / 64)
quarters x = (omega arith, omega arith)

-- four pairs of bits make a number below 256
pairs : (x : ℕ) → x < 256 → x / 1 % 4 + 4 * (x / 4 % 4) + 16 * (x / 16 % 4) + 64 * (x / 64 % 4) ≡ x
pairs x h =
    let q = quarters x in
    let e0 : x / 1 ≡ x = omega arith in
    let e1 : x ≡ x % 4 + 4 * (x / 4) = omega arith in
    let e2 : x / 4 ≡ x / 4 % 4 + 4 * (x / 16) = two (x / 4) (x / 16) q.0 in
    let e3 : x / 16 ≡ x / 16 % 4 + 4 * (x / 64) = two (x / 16) (x / 64) q.1 in
    let e4 : x / 64 % 4 ≡ x / 64 = omega arith in
    rw (e0, e4) (sum x (x % 4) (x / 4) (x / 4 % 4) (x / 16) (x / 16 % 4) (x / 64) e1 e2 e3)
  where
    two : (y z : ℕ) → y / 4 ≡ z → y ≡ y % 4 + 4 * z
    two y z e = omega arith

    sum : (x a y b z c w : ℕ) → x ≡ a + 4 * y → y ≡ b + 4 * z → z ≡ c + 4 * w → a + 4 * b + 16 * c + 64 * w ≡ x
    sum x a y b z c w e f g = omega arith

-- ---- numbers that fit

-- the ranges of numbers that fit
pub record EntryFit (v a0 a1 a2 a3 c b : ℕ) : Type 0 where
  pub v_low : v < 2
  pub a0_low : a0 < 4
  pub a1_low : a1 < 4
  pub a2_low : a2 < 4
  pub a3_low : a3 < 4
  pub c_low : c < 2
  pub b_low : b < 2

module _ (v s x y d a0 a1 a2 a3 c b : ℕ) where
  abbrev ns : List ℕ
  ns = v ∷ s ∷ x ∷ y ∷ d ∷ a0 ∷ a1 ∷ a2 ∷ a3 ∷ c ∷ b ∷ []

  pub entry_fit : entry_line.fits ns ≡ true → EntryFit v a0 a1 a2 a3 c b
  entry_fit e =
      let e1 = fit_rest _ _ _ _ e in
      let e2 = fit_rest _ _ _ _ e1 in
      let e3 = fit_rest _ _ _ _ e2 in
      let e4 = fit_rest _ _ _ _ e3 in
      let e5 = fit_rest _ _ _ _ e4 in
      let e6 = fit_rest _ _ _ _ e5 in
      let e7 = fit_rest _ _ _ _ e6 in
      let e8 = fit_rest _ _ _ _ e7 in
      let e9 = fit_rest _ _ _ _ e8 in
      let e10 = fit_rest _ _ _ _ e9 in
      record {
        v_low = fit_first _ _ _ _ e;
        a0_low = fit_first _ _ _ _ e5;
        a1_low = fit_first _ _ _ _ e6;
        a2_low = fit_first _ _ _ _ e7;
        a3_low = fit_first _ _ _ _ e8;
        c_low = fit_first _ _ _ _ e9;
        b_low = fit_first _ _ _ _ e10;
      }

  -- the entry of numbers that fit
  abbrev pub entry_is : Entry
  entry_is = entry_from (eqb v 1) s x y d (a0 + 4 * a1 + 16 * a2 + 64 * a3) (eqb c 1) (eqb b 1)

  module _ (f : EntryFit v a0 a1 a2 a3 c b) where
    -- the permissions put in one after another
    abbrev p0 : ℕ
    p0 = 0 - 0 / 1 % 4 * 1 + a0 * 1

    abbrev p1 : ℕ
    p1 = p0 - p0 / 4 % 4 * 4 + a1 * 4

    abbrev p2 : ℕ
    p2 = p1 - p1 / 16 % 4 * 16 + a2 * 16

    abbrev p3 : ℕ
    p3 = p2 - p2 / 64 % 4 * 64 + a3 * 64

    is1 : p1 ≡ a0 + 4 * a1
    is1 = let l = f.a0_low in omega arith

    is2 : p2 ≡ a0 + 4 * a1 + 16 * a2
    is2 = ap (λ (q : ℕ). q - q / 16 % 4 * 16 + a2 * 16) is1 ∙ (let l = f.a0_low in let m = f.a1_low in omega arith)

    is3 : p3 ≡ a0 + 4 * a1 + 16 * a2 + 64 * a3
    is3 = ap (λ (q : ℕ). q - q / 64 % 4 * 64 + a3 * 64) is2 ∙ (let l = f.a0_low in let m = f.a1_low in let n = f.a2_low in omega arith)

    pub entry_is_lem : entry_line.thing ns ≡ entry_is
    unfolding put_in
    entry_is_lem = ap (λ (q : ℕ). entry_from (eqb v 1) s x y d q (eqb c 1) (eqb b 1)) is3

    -- its numbers are these
    pub entry_again : entry_line.numbers entry_is ≡ ns
    entry_again =
        let l0 = f.a0_low in
        let l1 = f.a1_low in
        let l2 = f.a2_low in
        let l3 = f.a3_low in
        let q = a0 + 4 * a1 + 16 * a2 + 64 * a3 in
        let k = quarters q in
        let s0 = low_is q a0 (a1 + 4 * (a2 + 4 * a3)) l0 (omega arith) in
        let s1 = low_is (q / 4) a1 (a2 + 4 * a3) l1 s0.1 in
        let s2 = low_is (q / 16) a2 a3 l2 (sym k.0 ∙ s1.1) in
        let s3 = low_is (q / 64) a3 0 l3 (sym k.1 ∙ s2.1 ∙ omega arith) in
        let g0 : q / 1 % 4 ≡ a0 = one q ∙ s0.0 in
        let g1 : q / 4 % 4 ≡ a1 = s1.0 in
        let g2 : q / 16 % 4 ≡ a2 = s2.0 in
        let g3 : q / 64 % 4 ≡ a3 = s3.0 in
        rw (bit_back v f.v_low, bit_back c f.c_low, bit_back b f.b_low, g0, g1, g2, g3)
      where
        one : (x : ℕ) → x / 1 % 4 ≡ x % 4
        one x = omega arith

-- a list of eleven numbers
eleven : (ns : List ℕ) → length ns ≡ 11 → ns ≡ cells 11 ns 0
eleven ns h = sym (take_all 11 ns (omega arith)) ∙ part_cells 11 ns 0 (omega arith)

-- numbers that fit are those of the entry that they are of
pub entries_again : (ns : List ℕ) → length ns ≡ 11 → entry_line.fits ns ≡ true → entry_line.numbers (entry_line.thing ns) ≡ ns
unfolding cells
entries_again ns h e =
    let q = eleven ns h in
    let f = entry_fit _ _ _ _ _ _ _ _ _ _ _ (ap (λ (l : List ℕ). entry_line.fits l) (sym q) ∙ e) in
    subst (λ (l : List ℕ). entry_line.numbers (entry_line.thing l) ≡ l) (sym q)
    (ap (λ (x : Entry). entry_line.numbers x) (entry_is_lem _ _ _ _ _ _ _ _ _ _ _ f) ∙ entry_again _ _ _ _ _ _ _ _ _ _ _ f)

-- the ranges of an entry whose numbers fit
pub record EntryGood (e : Entry) : Type 0 where
  pub size : e.size < 0x100000000
  pub vbase : e.vbase < 0x100000000
  pub pbase : e.pbase < 0x100000000
  pub domain : e.domain < 0x100000000
  pub aps : e.aps < 256

-- the entry of a word has them
pub entry_good : (w : ℕ) → w < 0x10000000000000000 → EntryGood (entry_of w)
unfolding entry_of
entry_good w h = record { size = omega arith; vbase = omega arith; pbase = omega arith; domain = omega arith; aps = omega arith }

-- the numbers of an entry fit, and are of that entry
pub entry_fits : (e : Entry) → EntryGood e → entry_line.fits (entry_line.numbers e) ≡ true
unfolding fit_in
entry_fits e g =
    rw (
      lt-ltb (number e.valid) 2 (number_low e.valid),
      lt-ltb e.size 0x100000000 g.size,
      lt-ltb e.vbase 0x100000000 g.vbase,
      lt-ltb e.pbase 0x100000000 g.pbase,
      lt-ltb e.domain 0x100000000 g.domain,
      lt-ltb (e.aps / 1 % 4) 4 (omega arith),
      lt-ltb (e.aps / 4 % 4) 4 (omega arith),
      lt-ltb (e.aps / 16 % 4) 4 (omega arith),
      lt-ltb (e.aps / 64 % 4) 4 (omega arith),
      lt-ltb (number e.cacheable) 2 (number_low e.cacheable),
      lt-ltb (number e.bufferable) 2 (number_low e.bufferable),
    )

pub entry_back : (e : Entry) → EntryGood e → entry_line.thing (entry_line.numbers e) ≡ e
entry_back e g =
    let f = entry_fit _ _ _ _ _ _ _ _ _ _ _ (entry_fits e g) in
    let l = g.aps in
    let q : e.aps / 1 % 4 + 4 * (e.aps / 4 % 4) + 16 * (e.aps / 16 % 4) + 64 * (e.aps / 64 % 4) ≡ e.aps = pairs e.aps l in
    entry_is_lem _ _ _ _ _ _ _ _ _ _ _ f ∙ rw (number_back e.valid, number_back e.cacheable, number_back e.bufferable, q)

-- ---- the word of numbers

module _ (v s x y d a0 a1 a2 a3 c b w : ℕ) where
  abbrev ms : List ℕ
  ms = v ∷ s ∷ x ∷ y ∷ d ∷ a0 ∷ a1 ∷ a2 ∷ a3 ∷ c ∷ b ∷ []

  -- the permissions, each below four
  four : a0 < 4 → a1 < 4 → a2 < 4 → a3 < 4 → a0 % 4 + 4 * (a1 % 4 + 4 * (a2 % 4 + 4 * (a3 % 4))) ≡ a0 + 4 * a1 + 16 * a2 + 64 * a3
  four h0 h1 h2 h3 =
      let f0 : a0 % 4 ≡ a0 = omega arith in
      let f1 : a1 % 4 ≡ a1 = omega arith in
      let f2 : a2 % 4 ≡ a2 = omega arith in
      let f3 : a3 % 4 ≡ a3 = omega arith in
      rw (f0, f1, f2, f3) (omega arith)

  packed : w ≡ v % 2 + 2 * (c % 2 + 2 * (b % 2 + 2 * (s % 32 + 32 * (d % 0x100 + 0x100 * (a0 % 4 + 4 * (a1 % 4 + 4 * (a2 % 4 + 4 * (a3 % 4)))
      + 0x100 * (y / 0x1000 + 0x100000 * (x / 0x1000)))))))
      → entry_line.fits ms ≡ true → InRange (entry_line.thing ms) → w ≡ word_of (entry_line.thing ms)
  unfolding word_of
  packed e t r =
      let f = entry_fit v s x y d a0 a1 a2 a3 c b t in
      let i = entry_is_lem v s x y d a0 a1 a2 a3 c b f in
      let g = subst InRange i r in
      let size : s < 3 = g.size in
      let domain : d < 16 = g.domain in
      let l0 = f.v_low in
      let l1 = f.c_low in
      let l2 = f.b_low in
      let f0 : v % 2 ≡ v = omega (arith, l0) in
      let f1 : c % 2 ≡ c = omega (arith, l1) in
      let f2 : b % 2 ≡ b = omega (arith, l2) in
      let f3 : s % 32 ≡ s = omega (arith, size) in
      let f4 : d % 0x100 ≡ d = omega (arith, domain) in
      let f5 = four f.a0_low f.a1_low f.a2_low f.a3_low in
      e ∙ rw (f0, f1, f2, f3, f4, f5, i, bit_back v l0, bit_back c l1, bit_back b l2)

  pub entry_packs : w ≡ v % 2 + 2 * (c % 2 + 2 * (b % 2 + 2 * (s % 32 + 32 * (d % 0x100 + 0x100 * (a0 % 4 + 4 * (a1 % 4 + 4 * (a2 % 4 + 4 * (a3 % 4)))
      + 0x100 * (y / 0x1000 + 0x100000 * (x / 0x1000)))))))
      → Packs entry_line InRange word_of ms w
  entry_packs e = record { same = packed e }

-- the word of eleven numbers
pub entry_row : (r : List ℕ) (w : ℕ) → length r ≡ 11
    → w ≡ get_or r 0 0 % 2 + 2 * (get_or r 9 0 % 2 + 2 * (get_or r 10 0 % 2 + 2 * (get_or r 1 0 % 32 + 32 * (get_or r 4 0 % 0x100
    + 0x100 * (get_or r 5 0 % 4 + 4 * (get_or r 6 0 % 4 + 4 * (get_or r 7 0 % 4 + 4 * (get_or r 8 0 % 4)))
    + 0x100 * (get_or r 3 0 / 0x1000 + 0x100000 * (get_or r 2 0 / 0x1000)))))))
    → Packs entry_line InRange word_of r w
unfolding cells
entry_row r w long e =
    subst (λ (ns : List ℕ). Packs entry_line InRange word_of ns w) (sym (eleven r long)) (entry_packs _ _ _ _ _ _ _ _ _ _ _ w e)

-- ---- an entry read

-- numbers that are not those of their word's entry do not fit, or are of no entry in range
pub entry_unread : (ns : List ℕ) (w : ℕ) → length ns ≡ 11 → Packs entry_line InRange word_of ns w → (ns ≡ entry_line.numbers (entry_of w) → ⊥)
    → entry_line.fits ns ≡ true → InRange (entry_line.thing ns) → ⊥
entry_unread ns w long p z = no_thing entry_line InRange word_of entry_of ns (entry_line.numbers (entry_of w)) w p refl entry_word (entries_again ns long) z
