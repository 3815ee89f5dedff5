-- The text of numbers is read back, and a text that has the form is the text of its numbers.
use Prim.Native.Nat.{ℕ, ◌+◌, ◌≤◌, ◌<◌}
use native.Mathlib.Omega.{arith}
use mathlib.Core.Bool.{Bool, true, false, not, ◌&&◌}
use mathlib.Core.Path.{◌≡◌, refl, sym, ◌∙◌, ap, subst}
use mathlib.Core.List.{List, [], ◌∷◌, ◌++◌}
use lib.Dec.{eqb, leb}
use lib.ListN.{length, get_or, drop, length-append, get_or-eq_default}
use lib.Seq.{get_or-append_seam, drop-append-add}
use borrow.Author.Tests.{leb-true, leb-false, le-leb, eqb-true, eq-eqb, ne_eqb, not-true}
use Rattle.values.proofs.Cases.{case, clash, and_left, and_right, and_both}
use Rattle.printed.specs.Printed.{decimal, zero_digit}
use Rattle.printed.proofs.Told.{decimal_digits}
use Rattle.fields.specs.Lines.{is_digit, value_of}
use Rattle.fields.specs.Code.{digits_of}
use Rattle.fields.proofs.Digits.{drop_more}
use Rattle.fields.proofs.ReadBack.{decimal_value}
use Rattle.form.specs.Texts.{Place, separator, line_places, text_by, is_number, Numbers, numbers_from, with_number, read_by}
use Rattle.form.specs.Code.{text_size}
use Rattle.form.proofs.Numerals.{digits_are, digits_split, digits_front, decimal_some, decimal_lead, decimal_back}

-- ---- numbers in places

-- as many numbers as places, each at most what its place takes
unfoldable pub Within : List Place → List ℕ → Type 0
Within [] [] = Unit {0}
Within [] (n ∷ ns) = ⊥
Within (p ∷ ps) [] = ⊥
Within (p ∷ ps) (n ∷ ns) = (n ≤ p.most) × Within ps ns

-- the byte behind each place is no digit, and not 0
unfoldable pub NoDigits : List Place → Type 0
NoDigits [] = Unit {0}
NoDigits (p ∷ ps) = (is_digit p.behind ≡ false) × (1 ≤ p.behind) × NoDigits ps

-- they are as many as the places
pub within_long : (ps : List Place) (ns : List ℕ) → Within ps ns → length ns ≡ length ps
unfolding Within
within_long [] [] w = refl
within_long [] (n ∷ ns) w = absurd w
within_long (p ∷ ps) [] w = absurd w
within_long (p ∷ ps) (n ∷ ns) w = let e = within_long ps ns w.1 in omega arith

-- numbers behind numbers, in places behind places
pub within_append : (ps qs : List Place) (ns ms : List ℕ) → Within ps ns → Within qs ms → Within (ps ++ qs) (ns ++ ms)
unfolding Within
within_append [] qs [] ms w v = v
within_append [] qs (n ∷ ns) ms w v = absurd w
within_append (p ∷ ps) qs [] ms w v = absurd w
within_append (p ∷ ps) qs (n ∷ ns) ms w v = (w.0, within_append ps qs ns ms w.1 v)

-- places behind places
pub no_digits_append : (ps qs : List Place) → NoDigits ps → NoDigits qs → NoDigits (ps ++ qs)
unfolding NoDigits
no_digits_append [] qs g h = h
no_digits_append (p ∷ ps) qs g h = (g.0, g.1, no_digits_append ps qs g.2 h)

-- the byte behind a field
separator_no_digit : (rest : List ℕ) → (is_digit (separator rest) ≡ false) × (1 ≤ separator rest)
separator_no_digit [] = (refl, omega arith)
separator_no_digit (next ∷ rest) = (refl, omega arith)

-- those of a line
pub separators_no_digits : (ms : List ℕ) → NoDigits (line_places ms)
unfolding NoDigits line_places
separators_no_digits [] = tt
separators_no_digits (m ∷ ms) = let s = separator_no_digit ms in (s.0, s.1, separators_no_digits ms)

-- a line has as many places as fields
pub places_long : (ms : List ℕ) → length (line_places ms) ≡ length ms
unfolding line_places
places_long [] = refl
places_long (m ∷ ms) = let e = places_long ms in omega arith

-- ---- the size of a text

-- it is that of its numbers
pub text_size_lem : (ps : List Place) (ns : List ℕ) → length ps ≡ length ns → length (text_by ps ns) ≡ text_size ns
unfolding text_by text_size
text_size_lem [] [] e = refl
text_size_lem [] (n ∷ ns) e = absurd (omega arith)
text_size_lem (p ∷ ps) [] e = absurd (omega arith)
text_size_lem (p ∷ ps) (n ∷ ns) e =
    let r = text_size_lem ps ns (omega arith) in length-append (decimal n) (p.behind ∷ text_by ps ns) ∙ omega arith

-- ---- one place

-- a place takes the number at the front of a text
record Takes (p : Place) (text : List ℕ) : Type 0 where
  some : 1 ≤ length (digits_of text)
  plain : 2 ≤ length (digits_of text) → get_or (digits_of text) 0 0 ≡ zero_digit → ⊥
  small : value_of (digits_of text) ≤ p.most
  ends : get_or text (length (digits_of text)) 0 ≡ p.behind

module _ (p : Place) (text : List ℕ) where
  abbrev ds : List ℕ
  ds = digits_of text

  abbrev zeros : Bool
  zeros = leb 2 (length ds) && eqb (get_or ds 0 0) zero_digit

  abbrev ended : Bool
  ended = eqb (get_or text (length ds) 0) p.behind

  -- that it takes it is what is tested
  test_takes : (is_number p.most ds && ended) ≡ true → Takes p text
  test_takes t =
      let is = and_left (is_number p.most ds) ended t in
      let rest = and_right (leb 1 (length ds)) (not zeros && leb (value_of ds) p.most) is in
      let z : zeros ≡ false = not-true zeros (and_left (not zeros) (leb (value_of ds) p.most) rest) in
      record {
        some = leb-true 1 (length ds) (and_left (leb 1 (length ds)) (not zeros && leb (value_of ds) p.most) is);
        plain = λ h e. clash (and_both (leb 2 (length ds)) (eqb (get_or ds 0 0) zero_digit) (le-leb 2 (length ds) h) (eq-eqb (get_or ds 0 0) zero_digit e)) z;
        small = leb-true (value_of ds) p.most (and_right (not zeros) (leb (value_of ds) p.most) rest);
        ends = eqb-true (get_or text (length ds) 0) p.behind (and_right (is_number p.most ds) ended t);
      }

  takes_test : Takes p text → (is_number p.most ds && ended) ≡ true
  takes_test k =
      let z : zeros ≡ false =
      case (leb 2 (length ds))
      (λ t. rw t (ne_eqb (get_or ds 0 0) zero_digit (k.plain (leb-true 2 (length ds) t))))
      (λ t. rw t refl)
      in
      rw (le-leb 1 (length ds) k.some, z, le-leb (value_of ds) p.most k.small, eq-eqb (get_or text (length ds) 0) p.behind k.ends)

  module _ (ps : List Place) where
    -- what is read where it takes it
    read_more : Takes p text → read_by (p ∷ ps) text ≡ with_number (value_of ds) (read_by ps (drop (length ds + 1) text))
    unfolding read_by
    read_more k = rw (takes_test k)

    -- it takes it where the text has the form
    read_takes : (read_by (p ∷ ps) text).formed ≡ true → Takes p text
    unfolding read_by
    read_takes f =
        case (is_number p.most ds && ended) (λ t. test_takes t) (λ t. clash {b = false} (rw t at f) refl)

  -- a text whose number a place takes is the number's digits, the byte behind them, and the rest
  takes_split : 1 ≤ p.behind → Takes p text → text ≡ decimal (value_of ds) ++ p.behind ∷ drop (length ds + 1) text
  takes_split one k =
      let behind = k.ends in
      let inside : length ds < length text =
      case (leb (length text) (length ds))
      (λ t. let z = get_or-eq_default text 0 {n = length ds} (leb-true (length text) (length ds) t) in absurd (omega arith))
      (λ t. leb-false (length text) (length ds) t)
      in
      digits_split text ∙ ap (λ (l : List ℕ). ds ++ l) (drop_more text (length ds) inside)
      ∙ ap (λ (b : ℕ). ds ++ b ∷ drop (length ds + 1) text) behind
      ∙ ap (λ (l : List ℕ). l ++ p.behind ∷ drop (length ds + 1) text) (sym (decimal_back ds (digits_are text) k.some k.plain))

-- a place takes a number's digits and the byte behind them
text_takes : (p : Place) (n : ℕ) (rest : List ℕ) → is_digit p.behind ≡ false → n ≤ p.most → Takes p (decimal n ++ p.behind ∷ rest)
text_takes p n rest e h =
    let d = decimal n in
    let f : digits_of (d ++ p.behind ∷ rest) ≡ d = digits_front d p.behind rest (decimal_digits n) e in
    let v = decimal_value n in
    record {
      some = rw f (decimal_some n);
      plain = rw f (λ k q. let l = decimal_lead n k in absurd (omega arith));
      small = rw f (omega arith);
      ends = rw f (get_or-append_seam d p.behind rest 0);
    }

-- ---- all places

-- behind the last place the text ends
read_none : (text : List ℕ) → read_by [] text ≡ numbers_from (eqb (length text) 0) []
unfolding read_by
read_none text = refl

-- numbers that fit their places are read back from their text
pub read_text : (ps : List Place) (ns : List ℕ) → NoDigits ps → Within ps ns → read_by ps (text_by ps ns) ≡ numbers_from true ns
unfolding NoDigits Within text_by
read_text [] [] g w = read_none []
read_text [] (n ∷ ns) g w = absurd w
read_text (p ∷ ps) [] g w = absurd w
read_text (p ∷ ps) (n ∷ ns) g w =
    let d = decimal n in
    let rest = text_by ps ns in
    let f : digits_of (d ++ p.behind ∷ rest) ≡ d = digits_front d p.behind rest (decimal_digits n) g.0 in
    read_more p (d ++ p.behind ∷ rest) ps (text_takes p n rest g.0 w.0)
    ∙ ap (λ (l : List ℕ). with_number (value_of l) (read_by ps (drop (length l + 1) (d ++ p.behind ∷ rest)))) f
    ∙ ap (λ (l : List ℕ). with_number (value_of d) (read_by ps l)) (drop-append-add d (p.behind ∷ rest) 1)
    ∙ ap (λ (r : Numbers). with_number (value_of d) r) (read_text ps ns g.2 w.1)
    ∙ ap (λ (k : ℕ). numbers_from true (k ∷ ns)) (decimal_value n)

-- the numbers of a text that has the form fit their places
pub read_within : (ps : List Place) (text : List ℕ) → (read_by ps text).formed ≡ true → Within ps (read_by ps text).numbers
unfolding Within
read_within [] text f = subst (λ (r : Numbers). Within [] r.numbers) (sym (read_none text)) tt
read_within (p ∷ ps) text f =
    let k = read_takes p text ps f in
    let e = read_more p text ps k in
    let r = read_within ps (drop (length (digits_of text) + 1) text) (ap (λ (x : Numbers). x.formed) (sym e) ∙ f) in
    rw e (k.small, r)

-- and their text is that text
pub text_read : (ps : List Place) (text : List ℕ) → NoDigits ps → (read_by ps text).formed ≡ true → text_by ps (read_by ps text).numbers ≡ text
unfolding NoDigits text_by
text_read [] text g f = empty text (ap (λ (r : Numbers). r.formed) (sym (read_none text)) ∙ f)
  where
    empty : (l : List ℕ) → eqb (length l) 0 ≡ true → [] ≡ l
    empty [] e = refl
    empty (b ∷ bs) e = let z = eqb-true (length (b ∷ bs)) 0 e in absurd (omega arith)
text_read (p ∷ ps) text g f =
    let k = read_takes p text ps f in
    let e = read_more p text ps k in
    let ds = digits_of text in
    let rest = drop (length ds + 1) text in
    let r = text_read ps rest g.2 (ap (λ (x : Numbers). x.formed) (sym e) ∙ f) in
    ap (λ (x : Numbers). text_by (p ∷ ps) x.numbers) e ∙ ap (λ (l : List ℕ). decimal (value_of ds) ++ p.behind ∷ l) r
    ∙ sym (takes_split p text g.1 k)
