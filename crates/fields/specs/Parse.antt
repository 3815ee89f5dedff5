-- The lines at the front of a text that may go on: which are replayed, where they end, and what comes behind them.
use Rattle.std.specs.Prelude.{ℕ, zero, suc, ◌+◌, Bool, true, false, cond, ◌&&◌, ◌||◌, List, [], ◌∷◌, ◌++◌, eqb, leb, length, drop}
use Rattle.printed.specs.Printed.{line_feed}
use Rattle.fields.specs.Lines.{Line, line_from, numbers_in, is_line}
use Rattle.fields.specs.declared.Verdict.{Verdict}
use Rattle.fields.specs.declared.Verdict.TheVariants.{More, Open, Departs}

-- the first line of a text, as far as the text goes
unfoldable pub first_line : List ℕ → Line
first_line [] = line_from [] false
first_line (b ∷ bs) = cond (eqb b line_feed) (line_from [] true) (line_from (b ∷ (first_line bs).bytes) (first_line bs).ended)

-- the bytes of a line with its line feed
abbrev pub size_of : Line → ℕ
size_of l = length l.bytes + 1

-- A first line is decided when it has ended, or has 64 bytes without an end, or the text is not empty and ends here: what comes behind cannot change whether it
-- departs.
unfoldable pub decided : Bool → List ℕ → Bool
decided ends text = (first_line text).ended || leb 64 (length (first_line text).bytes) || (ends && leb 1 (length text))

-- what comes behind the lines: lines that may come, a line that is not decided, or a line that departs
abbrev pub more : ℕ
more = 0

abbrev pub open_line : ℕ
open_line = 1

abbrev pub departing : ℕ
departing = 2

-- the number of each case of the code's
abbrev pub verdict_number : Verdict → ℕ
verdict_number More = more
verdict_number Open = open_line
verdict_number Departs = departing

-- the numbers of the lines, five a line; how many lines and how many bytes they are; what comes behind them
pub record Parsed : Type 0 where
  pub numbers : List ℕ
  pub made : ℕ
  pub end : ℕ
  pub verdict : ℕ

abbrev pub parsed_from : List ℕ → ℕ → ℕ → ℕ → Parsed
parsed_from numbers made end verdict = record { numbers = numbers; made = made; end = end; verdict = verdict }

-- a line before the others
abbrev pub with_line : Line → Parsed → Parsed
with_line l p = parsed_from (numbers_in l ++ p.numbers) (p.made + 1) (size_of l + p.end) p.verdict

-- at most n lines of a text; the text `ends` here or may go on
unfoldable pub parse : Bool → ℕ → List ℕ → Parsed
parse ends zero text = parsed_from [] 0 0 more
parse ends (suc n) text =
    cond (is_line (first_line text)) (with_line (first_line text) (parse ends n (drop (size_of (first_line text)) text)))
    (parsed_from [] 0 0 (cond (decided ends text) departing open_line))
