-- What the code prints: lines by the answers' codes, kind × 2^32 + value, and by the calls that they answer; bytes laid into a lent list.
use Rattle.std.specs.Prelude.{ℕ, zero, suc, ◌+◌, ◌*◌, ◌-◌, ◌/◌, ◌%◌, ◌<◌, ◌≤◌, Bool, true, false, cond, ◌&&◌, ◌≡◌, List, [], ◌∷◌, ◌++◌, eqb, ltb, leb, pos, negsuc, length, get_or, take, drop}
use Rattle.values.specs.Answers.{fsr_of}
use Rattle.values.specs.declared.Answer.{Answer}
use Rattle.values.specs.declared.Answer.TheVariants as answer
use Rattle.trace.specs.Codes.{kind_unit}
use Rattle.printed.specs.Printed.{decimal, line_feed, comma, minus}

-- a list with bytes laid over it from a place on
abbrev pub over : List ℕ → ℕ → List ℕ → List ℕ
over out at bytes = take at out ++ bytes ++ drop (at + length bytes) out

-- what laying bytes from a place on leaves, and the place behind them; at most `most` bytes
pub record Laid (before after : List ℕ) (at end most : ℕ) (bytes : List ℕ) : Type 0 where
  pub same : after ≡ over before at bytes
  pub ends : end ≡ at + length bytes
  pub short : length bytes ≤ most

-- a value of 32 bits in decimal; that of a signed load is negative from 2^31 on
abbrev pub value_text : Bool → ℕ → List ℕ
value_text signed v = cond (signed && leb 0x80000000 v) (minus ∷ decimal (kind_unit - v)) (decimal v)

-- the line of a code, by its number and whether its call is a signed load
unfoldable pub code_line : ℕ → Bool → ℕ → List ℕ
code_line i signed code =
    decimal i ++ comma ∷ decimal (code / kind_unit) ++ comma ∷ value_text (signed && ltb code kind_unit) (code % kind_unit) ++ line_feed ∷ []

-- n lines, numbered from i on, of the codes from place k on of a list, which answer the calls from call k on of a list of five numbers a call
unfoldable pub code_lines : ℕ → ℕ → List ℕ → List ℕ → ℕ → List ℕ
code_lines zero i calls answers k = []
code_lines (suc n) i calls answers k = code_line i (eqb (get_or calls (k * 5) 0) 1) (get_or answers k 0) ++ code_lines n (i + 1) calls answers (k + 1)

-- an answer that its code tells, with whether its call is a signed load: 32 bits, signed for a signed load alone
abbrev pub Told : Bool → Answer → Type 0
Told signed (answer.Value v) = (signed ≡ false) × (v < 0x100000000)
Told signed (answer.Signed (pos n)) = (signed ≡ true) × (n < 0x80000000)
Told signed (answer.Signed (negsuc n)) = (signed ≡ true) × (n < 0x80000000)
Told signed (answer.Fault f) = fsr_of f < 0x100000000
Told signed (answer.Refused n) = n < 0x100000000
