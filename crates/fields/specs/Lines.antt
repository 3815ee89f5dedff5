-- Document 02, One, what the replay reads: "one call a line, five decimal fields parted by commas"; "A line has at most 64 bytes with the line feed that
-- ends it, and each field is digits, up to 4,294,967,295. 13 when a line departs from this". A text is a list of bytes.
use Rattle.std.specs.Prelude.{ℕ, ◌+◌, ◌*◌, ◌-◌, Bool, true, false, cond, ◌&&◌, List, [], ◌∷◌, map, eqb, leb, length, get_or}
use Rattle.values.specs.Lists.{all}
use Rattle.values.specs.declared.Call.{Call}
use Rattle.trace.specs.Calls.{call_at, is_call_at}
use Rattle.printed.specs.Printed.{line_feed, comma, zero_digit}

-- a line: its bytes before the line feed, and whether a line feed ends it
pub record Line : Type 0 where
  pub bytes : List ℕ
  pub ended : Bool

abbrev pub line_from : List ℕ → Bool → Line
line_from bytes ended = record { bytes = bytes; ended = ended }

-- a byte that is no line feed, before the lines behind it
abbrev pub onto_line : ℕ → List Line → List Line
onto_line b [] = line_from (b ∷ []) false ∷ []
onto_line b (l ∷ ls) = line_from (b ∷ l.bytes) l.ended ∷ ls

-- the lines of a text; a line feed ends each but perhaps the last
unfoldable pub lines_of : List ℕ → List Line
lines_of [] = []
lines_of (b ∷ bs) = cond (eqb b line_feed) (line_from [] true ∷ lines_of bs) (onto_line b (lines_of bs))

-- a byte that is no comma, before the fields behind it
abbrev pub onto_field : ℕ → List (List ℕ) → List (List ℕ)
onto_field b [] = (b ∷ []) ∷ []
onto_field b (f ∷ fs) = (b ∷ f) ∷ fs

-- "fields parted by commas"
unfoldable pub fields_of : List ℕ → List (List ℕ)
fields_of [] = [] ∷ []
fields_of (b ∷ bs) = cond (eqb b comma) ([] ∷ fields_of bs) (onto_field b (fields_of bs))

-- a decimal digit; the number of a list of digits, where those before them are the number n
abbrev pub is_digit : ℕ → Bool
is_digit b = leb zero_digit b && leb b 57

unfoldable pub value_from : ℕ → List ℕ → ℕ
value_from n [] = n
value_from n (b ∷ bs) = value_from (n * 10 + (b - zero_digit)) bs

abbrev pub value_of : List ℕ → ℕ
value_of field = value_from 0 field

-- "each field is digits, up to 4,294,967,295": at least one digit
abbrev pub is_field : List ℕ → Bool
is_field field = leb 1 (length field) && (all is_digit field && leb (value_of field) 0xFFFFFFFF)

-- the numbers of a line's fields
abbrev pub numbers_in : Line → List ℕ
numbers_in l = map value_of (fields_of l.bytes)

-- call i of a list is one of a text: "call (0 load, 1 signed load, 2 store, 3 CP15 read, 4 CP15 write), privileged (1 or 0)"; no text has a swap
abbrev pub is_text_call_at : List ℕ → ℕ → Bool
is_text_call_at list i = is_call_at list i && leb (get_or list (i * 5) 0) 4

-- A line that does not depart: a line feed ends it, it "has at most 64 bytes with the line feed", it has five fields, and they are a call.
unfoldable pub is_line : Line → Bool
is_line l =
    l.ended && (leb (length l.bytes + 1) 64 && (eqb (length (fields_of l.bytes)) 5 && (all is_field (fields_of l.bytes)
    && is_text_call_at (numbers_in l) 0)))

-- the calls of lines, up to one that departs
unfoldable pub calls_of : List Line → List Call
calls_of [] = []
calls_of (l ∷ ls) = cond (is_line l) (call_at (numbers_in l) 0 ∷ calls_of ls) []

-- one of them departs
unfoldable pub departs : List Line → Bool
departs [] = false
departs (l ∷ ls) = cond (is_line l) (departs ls) true
