-- What the code of crate form reads and lays.
use Rattle.std.specs.Prelude.{ℕ, zero, suc, ◌+◌, ◌-◌, ◌≤◌, ◌<◌, Bool, true, cond, ◌&&◌, ◌≡◌, Option, Some, None, List, [], ◌∷◌, ◌++◌, map, eqb, leb, length, get_or, replicate}
use Rattle.printed.specs.Printed.{decimal, comma, line_feed, zero_digit}
use Rattle.fields.specs.Code.{field_at}
use Rattle.fields.specs.declared.Field.{Field}
use Rattle.form.specs.Texts.{Place, place, read_by}
use Rattle.form.specs.Form.{most32}

-- the places of numbers of 32 bits, by the bytes behind them
abbrev pub places_of : List ℕ → List Place
places_of separators = map (place most32) separators

-- a field without leading zeros, by the first byte of its text
abbrev pub plain_field : ℕ → Option Field → Option Field
plain_field first None = None
plain_field first (Some f) = cond (leb 3 f.size && eqb first zero_digit) None (Some f)

-- the field without leading zeros at the front of a text, with the byte `by` behind it, and how many bytes it has with that byte
unfoldable pub plain_at : ℕ → List ℕ → Option Field
plain_at by text = plain_field (get_or text 0 0) (field_at by text)

-- how many bytes the text of numbers has
unfoldable pub text_size : List ℕ → ℕ
text_size [] = 0
text_size (n ∷ ns) = length (decimal n) + 1 + text_size ns

-- a text read into a list: whether it has the form, and then its numbers; of the list of a text that departs nothing is said
pub record NumbersRead (places : List Place) (text numbers : List ℕ) (formed : Bool) : Type 0 where
  pub same : formed ≡ (read_by places text).formed
  pub numbered : formed ≡ true → numbers ≡ (read_by places text).numbers

-- the bytes behind the fields of a line of n fields, and of lines of n fields each
unfoldable pub line_separators : ℕ → List ℕ
line_separators n = replicate (n - 1) comma ++ line_feed ∷ []

unfoldable pub lines_separators : ℕ → ℕ → List ℕ
lines_separators zero n = []
lines_separators (suc k) n = line_separators n ++ lines_separators k n

-- no byte of the list is 0
abbrev pub NoZero : List ℕ → Type 0
NoZero separators = (k : ℕ) → k < length separators → 1 ≤ get_or separators k 0
