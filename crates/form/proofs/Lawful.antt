-- Laws of forms: a thing's numbers fit their places and are of that thing, and numbers that fit are those of the thing that they are of.
use Prim.Native.Nat.{ℕ, zero, suc, ◌+◌, ◌≤◌}
use native.Mathlib.Omega.{arith}
use mathlib.Core.Bool.{true}
use mathlib.Core.Path.{◌≡◌, refl, ◌∙◌, ap, subst}
use mathlib.Core.List.{List, [], ◌∷◌, ◌++◌, map}
use lib.Dec.{ltb}
use lib.ListN.{length, take, drop, length-append, length-drop, take-append-drop}
use lib.Seq.{length-take-le, take_at, drop_at}
use borrow.Author.Tests.{ltb-true}
use Rattle.values.proofs.Cases.{and_left, and_right, and_both}
use Rattle.form.specs.Texts.{Place, line_places}
use Rattle.form.specs.Form.{Field, fit_in, Form, each_places, each_numbers, each_fits, each_thing, many, Pair, pair, both}
use Rattle.form.proofs.Back.{Within, NoDigits, within_append, no_digits_append}

-- a form, with the things that it is for
pub record Lawful {A : Type 0} (f : Form A) (Good : A → Type 0) : Type 0 where
  -- the numbers of a thing fit their places
  pub fit : (a : A) → Good a → f.fits (f.numbers a) ≡ true
  pub long : (a : A) → Good a → length (f.numbers a) ≡ length f.places
  -- and are of that thing
  pub back : (a : A) → Good a → f.thing (f.numbers a) ≡ a
  -- numbers that fit are those of the thing that they are of, and their places take them
  pub again : (ns : List ℕ) → length ns ≡ length f.places → f.fits ns ≡ true → f.numbers (f.thing ns) ≡ ns
  pub within : (ns : List ℕ) → length ns ≡ length f.places → f.fits ns ≡ true → Within f.places ns
  -- the bytes behind the places are no digits
  pub no_digits : NoDigits f.places

-- all elements of a list have P
unfoldable pub Each : {A : Type 0} → (A → Type 0) → List A → Type 0
Each P [] = Unit {0}
Each P (x ∷ xs) = P x × Each P xs

-- ---- numbers in two parts

-- so many numbers, and those behind them
module _ (ns : List ℕ) (n m : ℕ) (e : length ns ≡ n + m) where
  front_long : length (take n ns) ≡ n
  front_long = length-take-le n ns (omega arith)

  rest_long : length (drop n ns) ≡ m
  rest_long = let d = length-drop n ns in omega arith

-- numbers that each part's places take
within_parts : (ps qs : List Place) (ns : List ℕ) → Within ps (take (length ps) ns) → Within qs (drop (length ps) ns) → Within (ps ++ qs) ns
within_parts ps qs ns w v =
    subst (λ (l : List ℕ). Within (ps ++ qs) l) (take-append-drop (length ps) ns)
    (within_append ps qs (take (length ps) ns) (drop (length ps) ns) w v)

-- ---- one form behind another

module _ {A B : Type 0} (f : Form A) (g : Form B) (P : A → Type 0) (Q : B → Type 0) (F : Lawful f P) (G : Lawful g Q) where
  -- how many numbers the first thing has
  abbrev fore : ℕ
  fore = length f.places

  module _ (p : Pair A B) (h : P p.first × Q p.rest) where
    abbrev xs : List ℕ
    xs = f.numbers p.first

    abbrev ys : List ℕ
    ys = g.numbers p.rest

    both_front : take fore (xs ++ ys) ≡ xs
    both_front = take_at xs ys fore (F.long p.first h.0)

    both_rest : drop fore (xs ++ ys) ≡ ys
    both_rest = drop_at xs ys fore (F.long p.first h.0)

    both_fit : (both f g).fits (xs ++ ys) ≡ true
    both_fit =
        and_both (f.fits (take fore (xs ++ ys))) (g.fits (drop fore (xs ++ ys))) (ap f.fits both_front ∙ F.fit p.first h.0)
        (ap g.fits both_rest ∙ G.fit p.rest h.1)

    both_long : length (xs ++ ys) ≡ length (f.places ++ g.places)
    both_long =
        let a = F.long p.first h.0 in
        let b = G.long p.rest h.1 in
        let c = length-append f.places g.places in
        length-append xs ys ∙ omega arith

    both_back : (both f g).thing (xs ++ ys) ≡ p
    both_back =
        ap (λ (l : List ℕ). pair (f.thing l) (g.thing (drop fore (xs ++ ys)))) both_front ∙ ap (λ (l : List ℕ). pair (f.thing xs) (g.thing l)) both_rest
        ∙ ap (λ (a : A). pair a (g.thing ys)) (F.back p.first h.0) ∙ ap (λ (b : B). pair p.first b) (G.back p.rest h.1)

  module _ (ns : List ℕ) (e : length ns ≡ length (f.places ++ g.places)) (t : (both f g).fits ns ≡ true) where
    sum : length ns ≡ fore + length g.places
    sum = e ∙ length-append f.places g.places

    fits_front : f.fits (take fore ns) ≡ true
    fits_front = and_left (f.fits (take fore ns)) (g.fits (drop fore ns)) t

    fits_rest : g.fits (drop fore ns) ≡ true
    fits_rest = and_right (f.fits (take fore ns)) (g.fits (drop fore ns)) t

    both_again : f.numbers (f.thing (take fore ns)) ++ g.numbers (g.thing (drop fore ns)) ≡ ns
    both_again =
        ap (λ (l : List ℕ). l ++ g.numbers (g.thing (drop fore ns))) (F.again (take fore ns) (front_long ns fore (length g.places) sum) fits_front)
        ∙ ap (λ (l : List ℕ). take fore ns ++ l) (G.again (drop fore ns) (rest_long ns fore (length g.places) sum) fits_rest) ∙ take-append-drop fore ns

    both_within : Within (f.places ++ g.places) ns
    both_within =
        within_parts f.places g.places ns (F.within (take fore ns) (front_long ns fore (length g.places) sum) fits_front)
        (G.within (drop fore ns) (rest_long ns fore (length g.places) sum) fits_rest)

pub lawful_both : {A B : Type 0} {f : Form A} {g : Form B} {P : A → Type 0} {Q : B → Type 0} → Lawful f P → Lawful g Q
    → Lawful (both f g) (λ (p : Pair A B). P p.first × Q p.rest)
lawful_both {A} {B} {f} {g} {P} {Q} F G =
    record {
      fit = both_fit f g P Q F G;
      long = both_long f g P Q F G;
      back = both_back f g P Q F G;
      again = both_again f g P Q F G;
      within = both_within f g P Q F G;
      no_digits = no_digits_append f.places g.places F.no_digits G.no_digits;
    }

-- ---- many things

module _ {A : Type 0} (f : Form A) (P : A → Type 0) (F : Lawful f P) where
  abbrev size : ℕ
  size = length f.places

  many_fit : (n : ℕ) (xs : List A) → length xs ≡ n → Each P xs → each_fits f n (each_numbers f xs) ≡ true
  unfolding each_fits each_numbers Each
  many_fit zero xs e h = refl
  many_fit (suc n) [] e h = absurd (omega arith)
  many_fit (suc n) (x ∷ xs) e h =
      let a = f.numbers x in
      let b = each_numbers f xs in
      let l = F.long x h.0 in
      and_both (f.fits (take size (a ++ b))) (each_fits f n (drop size (a ++ b))) (ap f.fits (take_at a b size l) ∙ F.fit x h.0)
      (ap (each_fits f n) (drop_at a b size l) ∙ many_fit n xs (omega arith) h.1)

  many_long : (n : ℕ) (xs : List A) → length xs ≡ n → Each P xs → length (each_numbers f xs) ≡ length (each_places f n)
  unfolding each_places each_numbers Each
  many_long zero [] e h = refl
  many_long zero (x ∷ xs) e h = absurd (omega arith)
  many_long (suc n) [] e h = absurd (omega arith)
  many_long (suc n) (x ∷ xs) e h =
      let a = F.long x h.0 in
      let b = many_long n xs (omega arith) h.1 in
      let c = length-append f.places (each_places f n) in
      length-append (f.numbers x) (each_numbers f xs) ∙ omega arith

  many_back : (n : ℕ) (xs : List A) → length xs ≡ n → Each P xs → each_thing f n (each_numbers f xs) ≡ xs
  unfolding each_thing each_numbers Each
  many_back zero [] e h = refl
  many_back zero (x ∷ xs) e h = absurd (omega arith)
  many_back (suc n) [] e h = absurd (omega arith)
  many_back (suc n) (x ∷ xs) e h =
      let a = f.numbers x in
      let b = each_numbers f xs in
      let l = F.long x h.0 in
      ap (λ (k : List ℕ). f.thing k ∷ each_thing f n (drop size (a ++ b))) (take_at a b size l)
      ∙ ap (λ (k : List ℕ). f.thing a ∷ each_thing f n k) (drop_at a b size l) ∙ ap (λ (k : A). k ∷ each_thing f n b) (F.back x h.0)
      ∙ ap (λ (k : List A). x ∷ k) (many_back n xs (omega arith) h.1)

  -- the numbers of the first thing and of those behind it
  parts : (n : ℕ) (ns : List ℕ) → length ns ≡ length (each_places f (suc n)) → length ns ≡ size + length (each_places f n)
  unfolding each_places
  parts n ns e = e ∙ length-append f.places (each_places f n)

  many_again : (n : ℕ) (ns : List ℕ) → length ns ≡ length (each_places f n) → each_fits f n ns ≡ true → each_numbers f (each_thing f n ns) ≡ ns
  unfolding each_places each_thing each_numbers each_fits
  many_again zero [] e t = refl
  many_again zero (k ∷ ns) e t = absurd (omega arith)
  many_again (suc n) ns e t =
      let s = parts n ns e in
      let a = and_left (f.fits (take size ns)) (each_fits f n (drop size ns)) t in
      let b = and_right (f.fits (take size ns)) (each_fits f n (drop size ns)) t in
      ap (λ (l : List ℕ). l ++ each_numbers f (each_thing f n (drop size ns))) (F.again (take size ns) (front_long ns size (length (each_places f n)) s) a)
      ∙ ap (λ (l : List ℕ). take size ns ++ l) (many_again n (drop size ns) (rest_long ns size (length (each_places f n)) s) b)
      ∙ take-append-drop size ns

  many_within : (n : ℕ) (ns : List ℕ) → length ns ≡ length (each_places f n) → each_fits f n ns ≡ true → Within (each_places f n) ns
  unfolding each_places each_fits Within
  many_within zero [] e t = tt
  many_within zero (k ∷ ns) e t = absurd (omega arith)
  many_within (suc n) ns e t =
      let s = parts n ns e in
      let a = and_left (f.fits (take size ns)) (each_fits f n (drop size ns)) t in
      let b = and_right (f.fits (take size ns)) (each_fits f n (drop size ns)) t in
      within_parts f.places (each_places f n) ns (F.within (take size ns) (front_long ns size (length (each_places f n)) s) a)
      (many_within n (drop size ns) (rest_long ns size (length (each_places f n)) s) b)

  many_no_digits : (n : ℕ) → NoDigits (each_places f n)
  unfolding each_places NoDigits
  many_no_digits zero = tt
  many_no_digits (suc n) = no_digits_append f.places (each_places f n) F.no_digits (many_no_digits n)

pub lawful_many : {A : Type 0} {f : Form A} {P : A → Type 0} (n : ℕ) → Lawful f P → Lawful (many n f) (λ (xs : List A). (length xs ≡ n) × Each P xs)
lawful_many {A} {f} {P} n F =
    record {
      fit = λ xs h. many_fit f P F n xs h.0 h.1;
      long = λ xs h. many_long f P F n xs h.0 h.1;
      back = λ xs h. many_back f P F n xs h.0 h.1;
      again = many_again f P F n;
      within = many_within f P F n;
      no_digits = many_no_digits f P F n;
    }

-- ---- a line

-- numbers that fit the fields of a line are taken by their places, where no field's bound is above what its place takes
pub line_within : {A : Type 0} (fields : List (Field A)) (ns : List ℕ) → Each (λ (f : Field A). f.below ≤ f.most + 1) fields → fit_in fields ns ≡ true
    → length ns ≡ length fields → Within (line_places (map (λ (f : Field A). f.most) fields)) ns
unfolding Each fit_in line_places Within
line_within [] [] h t e = tt
line_within [] (n ∷ ns) h t e = absurd (omega arith)
line_within (f ∷ fs) [] h t e = absurd (omega arith)
line_within (f ∷ fs) (n ∷ ns) h t e =
    let b = h.0 in
    let l = ltb-true n f.below (and_left (ltb n f.below) (fit_in fs ns) t) in
    (omega arith, line_within fs ns h.1 (and_right (ltb n f.below) (fit_in fs ns) t) (omega arith))
