-- What the code reads: digits, a field with the byte behind it, five fields, lines.
use Rattle.std.specs.Prelude.{ℕ, zero, suc, ◌+◌, ◌*◌, ◌≤◌, ◌<◌, true, cond, ◌&&◌, ◌≡◌, Option, Some, None, List, [], ◌∷◌, eqb, leb, length, get_or, take}
use Rattle.std.proofs.lemmas.List.Edits.{sets}
use Rattle.printed.specs.Printed.{line_feed, comma}
use Rattle.fields.specs.Lines.{is_digit, value_of, numbers_in, is_line}
use Rattle.fields.specs.Parse.{first_line, size_of, verdict_number}
use Rattle.fields.specs.Parse as parses
use Rattle.fields.specs.declared.Field.{Field}
use Rattle.fields.specs.declared.Number.{Number}
use Rattle.fields.specs.declared.Parsed.{Parsed}

-- the digits at the front of a text
unfoldable pub digits_of : List ℕ → List ℕ
digits_of [] = []
digits_of (b ∷ bs) = cond (is_digit b) (b ∷ digits_of bs) []

-- a number read: that of the digits, with the place behind them; none where theirs is above 2^32 − 1
abbrev pub Reads : List ℕ → ℕ → Option Number → Type 0
Reads digits from None = 0xFFFFFFFF < value_of digits
Reads digits from (Some n) = (value_of digits ≤ 0xFFFFFFFF) × (n.value ≡ value_of digits) × (n.end ≡ from + length digits)

-- a field's number, and how many bytes it has with the byte behind it
abbrev pub field_from : ℕ → ℕ → Field
field_from value size = record { value = value; size = size }

-- the field at the front of a text, with the byte `by` behind it
unfoldable pub field_at : ℕ → List ℕ → Option Field
field_at by text =
    let digits = digits_of text in
    cond (leb 1 (length digits) && (leb (value_of digits) 0xFFFFFFFF && eqb (get_or text (length digits) 0) by))
    (Some (field_from (value_of digits) (length digits + 1))) None

-- the byte behind a field with n fields to come
abbrev pub behind : ℕ → ℕ
behind zero = line_feed
behind (suc n) = comma

-- the line at the front of a text is read into a list of calls, as call k: its size; none where it departs
pub record LineRead (text calls after : List ℕ) (k : ℕ) (size : Option ℕ) : Type 0 where
  pub sized : size ≡ cond (is_line (first_line text)) (Some (size_of (first_line text))) None
  pub read : is_line (first_line text) ≡ true → after ≡ sets calls (k * 5) (numbers_in (first_line text))
  pub front : take (k * 5) after ≡ take (k * 5) calls

-- lines read into the front of a list of calls
pub record LinesRead (p : parses.Parsed) (calls : List ℕ) (r : Parsed) : Type 0 where
  pub made : r.made ≡ p.made
  pub end : r.end ≡ p.end
  pub verdict : verdict_number r.verdict ≡ p.verdict
  pub numbers : take (r.made * 5) calls ≡ p.numbers
