-- Document 02, Four, the bytes of a text: "Fields are decimal of at most 32 bits without leading zeros, ... parted by commas, a line feed ending each
-- line." The text of numbers and the numbers of a text both go by a list of places.
use Rattle.std.specs.Prelude.{ℕ, ◌+◌, Bool, false, cond, not, ◌&&◌, List, [], ◌∷◌, ◌++◌, eqb, leb, length, get_or, drop}
use Rattle.printed.specs.Printed.{decimal, comma, line_feed, zero_digit}
use Rattle.fields.specs.Lines.{value_of}
use Rattle.fields.specs.Code.{digits_of}

-- the place of a number: the greatest number that it takes, and the byte behind it
pub record Place : Type 0 where
  pub most : ℕ
  pub behind : ℕ

abbrev pub place : ℕ → ℕ → Place
place most behind = record { most = most; behind = behind }

-- the byte behind a field, by those that follow it in its line: "parted by commas, a line feed ending each line"
abbrev pub separator : List ℕ → ℕ
separator [] = line_feed
separator (next ∷ rest) = comma

-- the places of a line, by the greatest number of each field
unfoldable pub line_places : List ℕ → List Place
line_places [] = []
line_places (most ∷ rest) = place most (separator rest) ∷ line_places rest

-- the text of numbers in their places
unfoldable pub text_by : List Place → List ℕ → List ℕ
text_by [] ns = []
text_by (p ∷ ps) [] = []
text_by (p ∷ ps) (n ∷ ns) = decimal n ++ p.behind ∷ text_by ps ns

-- "decimal ... without leading zeros": at least one digit, no 0 before others, and a number that the place takes
abbrev pub is_number : ℕ → List ℕ → Bool
is_number most digits =
    leb 1 (length digits) && (not (leb 2 (length digits) && eqb (get_or digits 0 0) zero_digit) && leb (value_of digits) most)

-- the numbers of a text, as far as it has the form, and whether all of it has
pub record Numbers : Type 0 where
  pub formed : Bool
  pub numbers : List ℕ

abbrev pub numbers_from : Bool → List ℕ → Numbers
numbers_from formed numbers = record { formed = formed; numbers = numbers }

abbrev pub with_number : ℕ → Numbers → Numbers
with_number n r = numbers_from r.formed (n ∷ r.numbers)

-- a text read: in each place a number, the byte behind it, and nothing behind the last
unfoldable pub read_by : List Place → List ℕ → Numbers
read_by [] text = numbers_from (eqb (length text) 0) []
read_by (p ∷ ps) text =
    let digits = digits_of text in
    cond (is_number p.most digits && eqb (get_or text (length digits) 0) p.behind)
    (with_number (value_of digits) (read_by ps (drop (length digits + 1) text))) (numbers_from false [])
