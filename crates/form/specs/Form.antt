-- The form of a text, written once: a table of lines and fields, from which come the places of its numbers, the numbers of a thing, which numbers fit, and
-- the thing that numbers are of.
use Rattle.std.specs.Prelude.{ℕ, zero, suc, Bool, true, false, ◌&&◌, List, [], ◌∷◌, ◌++◌, map, eqb, ltb, length, take, drop}
use Rattle.values.specs.Bits.{number}
use Rattle.form.specs.Texts.{Place, line_places}

-- ---- a line

-- A field of a line: the greatest number that a text may have there, the bound below which numbers fit the field, the number that a thing has
-- there, and the thing with a number there.
pub record Field (A : Type 0) : Type 0 where
  pub most : ℕ
  pub below : ℕ
  pub get : A → ℕ
  pub put : A → ℕ → A

-- "decimal of at most 32 bits"
abbrev pub most32 : ℕ
most32 = 0xFFFFFFFF

-- a number below a bound, where a thing cannot hold a greater one; a number of 32 bits, whose range is soundness's; a bit
abbrev pub field_below : {A : Type 0} → ℕ → (A → ℕ) → (A → ℕ → A) → Field A
field_below n get put = record { most = most32; below = n; get = get; put = put }

abbrev pub word : {A : Type 0} → (A → ℕ) → (A → ℕ → A) → Field A
word get put = field_below 0x100000000 get put

abbrev pub flag : {A : Type 0} → (A → Bool) → (A → Bool → A) → Field A
flag {A} get put = field_below 2 (λ (a : A). number (get a)) (λ (a : A) (n : ℕ). put a (eqb n 1))

module _ {A : Type 0} where
  -- each number fits its field
  unfoldable pub fit_in : List (Field A) → List ℕ → Bool
  fit_in [] ns = true
  fit_in (f ∷ fs) [] = false
  fit_in (f ∷ fs) (n ∷ ns) = ltb n f.below && fit_in fs ns

  -- a thing with the numbers in its fields
  unfoldable pub put_in : List (Field A) → A → List ℕ → A
  put_in [] a ns = a
  put_in (f ∷ fs) a [] = a
  put_in (f ∷ fs) a (n ∷ ns) = put_in fs (f.put a n) ns

-- ---- a form

-- the places of its numbers; of a thing its numbers; whether numbers fit; the thing that numbers are of
pub record Form (A : Type 0) : Type 0 where
  pub places : List Place
  pub numbers : A → List ℕ
  pub fits : List ℕ → Bool
  pub thing : List ℕ → A

-- a line: its fields in their order, put into an empty thing
abbrev pub line : {A : Type 0} → A → List (Field A) → Form A
line {A} empty fields =
    record {
      places = line_places (map (λ (f : Field A). f.most) fields);
      numbers = λ (a : A). map (λ (f : Field A). f.get a) fields;
      fits = fit_in fields;
      thing = put_in fields empty;
    }

module _ {A : Type 0} (f : Form A) where
  unfoldable pub each_places : ℕ → List Place
  each_places zero = []
  each_places (suc n) = f.places ++ each_places n

  unfoldable pub each_numbers : List A → List ℕ
  each_numbers [] = []
  each_numbers (a ∷ rest) = f.numbers a ++ each_numbers rest

  unfoldable pub each_fits : ℕ → List ℕ → Bool
  each_fits zero ns = true
  each_fits (suc n) ns = f.fits (take (length f.places) ns) && each_fits n (drop (length f.places) ns)

  unfoldable pub each_thing : ℕ → List ℕ → List A
  each_thing zero ns = []
  each_thing (suc n) ns = f.thing (take (length f.places) ns) ∷ each_thing n (drop (length f.places) ns)

-- the form of n things, one behind another
abbrev pub many : {A : Type 0} → ℕ → Form A → Form (List A)
many n f = record { places = each_places f n; numbers = each_numbers f; fits = each_fits f n; thing = each_thing f n }

-- two things
pub record Pair (A B : Type 0) : Type 0 where
  pub first : A
  pub rest : B

abbrev pub pair : {A B : Type 0} → A → B → Pair A B
pair a b = record { first = a; rest = b }

-- one form behind another
abbrev pub both : {A B : Type 0} → Form A → Form B → Form (Pair A B)
both {A} {B} f g =
    record {
      places = f.places ++ g.places;
      numbers = λ (p : Pair A B). f.numbers p.first ++ g.numbers p.rest;
      fits = λ (ns : List ℕ). f.fits (take (length f.places) ns) && g.fits (drop (length f.places) ns);
      thing = λ (ns : List ℕ). pair (f.thing (take (length f.places) ns)) (g.thing (drop (length f.places) ns));
    }
