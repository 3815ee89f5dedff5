-- How many bytes lines have: at most 34 each, where a line's number has at most 19 digits and an answer's number at most 11 bytes.
use Prim.Native.Nat.{ℕ, ◌+◌, ◌*◌, ◌<◌, ◌≤◌}
use native.Mathlib.Omega.{arith}
use mathlib.Core.Bool.{Bool}
use mathlib.Core.List.{List, [], ◌∷◌, ◌++◌}
use lib.IntN.{pos, negsuc}
use lib.ListN.{length, length-append}
use Rattle.values.specs.Answers.{fsr_of}
use Rattle.values.specs.declared.Call.{Call}
use Rattle.values.specs.declared.Answer.{Answer}
use Rattle.values.specs.declared.Answer.TheVariants as answer
use Rattle.trace.specs.Codes.{numbers_of}
use Rattle.printed.specs.Printed.{line_feed, comma, decimal, printed_number, line_of, printed}
use Rattle.printed.specs.Code.{Told}
use Rattle.printed.proofs.Decimal.{decimal_one, decimal_ten, decimal_nineteen}
use Rattle.answers.specs.Signed.{is_signed_load, TellsAll}

-- a number that is told has at most ten digits, and a sign
number_short : (signed : Bool) (a : Answer) → Told signed a → length (printed_number a) ≤ 11
number_short signed (answer.Value v) (s, h) = let d = decimal_ten v (omega arith) in omega arith
number_short signed (answer.Signed (pos n)) (s, h) = let d = decimal_ten n (omega arith) in omega arith
number_short signed (answer.Signed (negsuc n)) (s, h) = let d = decimal_ten (n + 1) (omega arith) in omega arith
number_short signed (answer.Fault f) h = let d = decimal_ten (fsr_of f) (omega arith) in omega arith
number_short signed (answer.Refused n) h = let d = decimal_ten n (omega arith) in omega arith

-- a kind has one digit
kind_one : (a : Answer) → length (decimal (numbers_of a).kind) ≤ 1
kind_one (answer.Value v) = rw (decimal_one 0 (omega arith)) (omega arith)
kind_one (answer.Signed z) = rw (decimal_one 0 (omega arith)) (omega arith)
kind_one (answer.Fault f) = rw (decimal_one 1 (omega arith)) (omega arith)
kind_one (answer.Refused n) = rw (decimal_one 2 (omega arith)) (omega arith)

-- a line
line_short : (i : ℕ) (a : Answer) → i < 10000000000000000000 → length (printed_number a) ≤ 11 → length (line_of i a) ≤ 34
unfolding line_of
line_short i a h n =
    let k = decimal (numbers_of a).kind in
    let d = decimal_nineteen i h in
    let o = kind_one a in
    let p = length-append (decimal i) (comma ∷ k) in
    let q = length-append (decimal i ++ comma ∷ k) (comma ∷ printed_number a) in
    let r = length-append (decimal i ++ comma ∷ k ++ comma ∷ printed_number a) (line_feed ∷ []) in
    omega arith

-- each answer's number has at most 11 bytes
unfoldable pub Short : List Answer → Type 0
Short [] = Unit {0}
Short (a ∷ rest) = (length (printed_number a) ≤ 11) × Short rest

-- answers that are told
pub told_short : (cs : List Call) (answers : List Answer) → TellsAll cs answers → Short answers
unfolding TellsAll Short
told_short [] [] h = tt
told_short [] (a ∷ rest) h = absurd h
told_short (c ∷ cs) [] h = tt
told_short (c ∷ cs) (a ∷ rest) h = (number_short (is_signed_load c) a h.0, told_short cs rest h.1)

pub short_append : (xs ys : List Answer) → Short xs → Short ys → Short (xs ++ ys)
unfolding Short
short_append [] ys h k = k
short_append (x ∷ xs) ys h k = (h.0, short_append xs ys h.1 k)

-- the lines of answers
pub printed_short : (i : ℕ) (answers : List Answer) → Short answers → i + length answers ≤ 10000000000000000000
    → length (printed i answers) ≤ length answers * 34
unfolding printed Short
printed_short i [] s h = omega arith
printed_short i (a ∷ rest) s h =
    let l = line_short i a (omega arith) s.0 in
    let r = printed_short (i + 1) rest s.1 (omega arith) in
    let p = length-append (line_of i a) (printed (i + 1) rest) in
    omega arith
