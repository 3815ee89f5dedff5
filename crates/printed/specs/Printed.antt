-- Document 02, One, what the replay prints: "It prints line number from 1, kind (0 served, 1 fault, 2 refused) and the value, FSR or refusal number; a
-- served store or write prints 0, a negative signed load has a minus sign." Text is a list of ASCII codes.
use Rattle.std.specs.Prelude.{ℕ, zero, suc, ◌+◌, ◌/◌, ◌%◌, cond, List, [], ◌∷◌, ◌++◌, eqb, ltb, ℤ, pos, negsuc}
use Rattle.values.specs.Answers.{fsr_of}
use Rattle.values.specs.declared.Answer.{Answer}
use Rattle.values.specs.declared.Answer.TheVariants as answer
use Rattle.trace.specs.Codes.{numbers_of}

-- the bytes that are printed beside digits
abbrev pub line_feed : ℕ
line_feed = 10

abbrev pub comma : ℕ
comma = 44

abbrev pub minus : ℕ
minus = 45

-- the digit 0, from which the others rise
abbrev pub zero_digit : ℕ
zero_digit = 48

-- a number in decimal digits, without leading zeros, where `most` digits are enough
unfoldable pub decimal_by : ℕ → ℕ → List ℕ
decimal_by zero n = []
decimal_by (suc most) n = cond (ltb n 10) ((zero_digit + n) ∷ []) (decimal_by most (n / 10) ++ (zero_digit + n % 10) ∷ [])

-- n + 1 digits are enough for n
abbrev pub decimal : ℕ → List ℕ
decimal n = decimal_by (suc n) n

-- "a negative signed load has a minus sign": `negsuc n` is −(n + 1)
abbrev pub printed_signed : ℤ → List ℕ
printed_signed (pos n) = decimal n
printed_signed (negsuc n) = minus ∷ decimal (n + 1)

-- "the value, FSR or refusal number"
abbrev pub printed_number : Answer → List ℕ
printed_number (answer.Value v) = decimal v
printed_number (answer.Signed z) = printed_signed z
printed_number (answer.Fault f) = decimal (fsr_of f)
printed_number (answer.Refused n) = decimal n

-- the line of an answer, by its number
unfoldable pub line_of : ℕ → Answer → List ℕ
line_of i a = decimal i ++ comma ∷ decimal (numbers_of a).kind ++ comma ∷ printed_number a ++ line_feed ∷ []

-- the lines of answers, numbered from i on
unfoldable pub printed : ℕ → List Answer → List ℕ
printed i [] = []
printed i (a ∷ rest) = line_of i a ++ printed (i + 1) rest

-- how many line feeds a text has
unfoldable pub feeds : List ℕ → ℕ
feeds [] = 0
feeds (b ∷ bs) = cond (eqb b line_feed) 1 0 + feeds bs
