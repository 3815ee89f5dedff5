-- What is printed tells the answers: a code's line is its answer's, numbers are printed in digits, a line has one line feed.
use Prim.Native.Nat.{ℕ, zero, suc, ◌+◌, ◌*◌, ◌-◌, ◌/◌, ◌%◌, ◌<◌, ◌≤◌}
use native.Mathlib.Omega.{arith}
use native.Mathlib.Nat.{add-zero, zero-add, add_assoc}
use mathlib.Core.Bool.{Bool, true, false, cond, ◌&&◌}
use mathlib.Core.Path.{◌≡◌, refl, sym, ◌∙◌, ap, subst}
use mathlib.Core.List.{List, [], ◌∷◌, ◌++◌, append_assoc}
use lib.Dec.{eqb, ltb}
use lib.IntN.{pos, negsuc}
use lib.ListN.{length, get_or}
use borrow.Author.Tests.{ltb-true, ltb-false, lt-ltb, le-ltb, ne_eqb}
use Rattle.values.specs.Answers.{fsr_of}
use Rattle.values.specs.declared.Answer.{Answer}
use Rattle.values.specs.declared.Answer.TheVariants as answer
use Rattle.values.proofs.Cases.{case, and_both, and-false}
use Rattle.trace.specs.Codes.{code_of, kind_unit, numbers_of}
use Rattle.printed.specs.Printed.{zero_digit, line_feed, comma, minus, decimal, printed_number, line_of, printed, feeds}
use Rattle.printed.specs.Code.{value_text, code_line, code_lines, Told}
use Rattle.printed.proofs.Decimal.{decimal_one, decimal_more}
use Rattle.printed.proofs.Steps.{value_low, value_plain, value_minus}

-- ---- an answer's code and its line

-- a kind and 32 bits, whose text is known, make the line
line_is_lem : (i kind v code : ℕ) (signed : Bool) (text : List ℕ) → code ≡ kind * kind_unit + v → v < kind_unit
    → value_text (signed && ltb code kind_unit) v ≡ text → code_line i signed code ≡ decimal i ++ comma ∷ decimal kind ++ comma ∷ text ++ line_feed ∷ []
unfolding code_line
line_is_lem i kind v code signed text e h t =
    let k : code / kind_unit ≡ kind = omega arith in let r : code % kind_unit ≡ v = omega arith in rw (k, r, t)

-- the line of an answer's code is the answer's line
pub told_line : (i : ℕ) (signed : Bool) (a : Answer) → Told signed a → code_line i signed (code_of a) ≡ line_of i a
unfolding line_of
told_line i signed (answer.Value v) (s, h) =
    let c = code_of (answer.Value v) in
    line_is_lem i 0 v c signed (decimal v) (omega arith) h (value_plain (signed && ltb c kind_unit) v (rw s))
told_line i signed (answer.Signed (pos n)) (s, h) =
    let c = code_of (answer.Signed (pos n)) in
    line_is_lem i 0 n c signed (decimal n) (omega arith) (omega arith) (value_low (signed && ltb c kind_unit) n h)
told_line i signed (answer.Signed (negsuc n)) (s, h) =
    let c = code_of (answer.Signed (negsuc n)) in
    let v = 0xFFFFFFFF - n in
    let t : (signed && ltb c kind_unit) ≡ true = and_both signed (ltb c kind_unit) s (lt-ltb c kind_unit (omega arith)) in
    let e : kind_unit - v ≡ n + 1 = omega arith in
    line_is_lem i 0 v c signed (minus ∷ decimal (n + 1)) (omega arith) (omega arith)
    (value_minus (signed && ltb c kind_unit) v t (omega arith) ∙ ap (λ (k : ℕ). minus ∷ decimal k) e)
told_line i signed (answer.Fault f) h =
    let c = code_of (answer.Fault f) in
    let t : (signed && ltb c kind_unit) ≡ false = and-false signed (ltb c kind_unit) (le-ltb c kind_unit (omega arith)) in
    line_is_lem i 1 (fsr_of f) c signed (decimal (fsr_of f)) (omega arith) h (value_plain (signed && ltb c kind_unit) (fsr_of f) t)
told_line i signed (answer.Refused n) h =
    let c = code_of (answer.Refused n) in
    let t : (signed && ltb c kind_unit) ≡ false = and-false signed (ltb c kind_unit) (le-ltb c kind_unit (omega arith)) in
    line_is_lem i 2 n c signed (decimal n) (omega arith) h (value_plain (signed && ltb c kind_unit) n t)

-- an answer's code is below 3 × 2^32
pub told_code : (signed : Bool) (a : Answer) → Told signed a → code_of a < 0x300000000
told_code signed (answer.Value v) (s, h) = omega arith
told_code signed (answer.Signed (pos n)) (s, h) = omega arith
told_code signed (answer.Signed (negsuc n)) (s, h) = omega arith
told_code signed (answer.Fault f) h = omega arith
told_code signed (answer.Refused n) h = omega arith

-- the codes from place k on are those of answers, each told with its call
unfoldable pub AllTold : List ℕ → List ℕ → ℕ → List Answer → Type 0
AllTold calls codes k [] = Unit {0}
AllTold calls codes k (a ∷ rest) = (get_or codes k 0 ≡ code_of a) × Told (eqb (get_or calls (k * 5) 0) 1) a × AllTold calls codes (k + 1) rest

-- the lines of the codes are the lines of the answers
pub told_lines : (i : ℕ) (calls codes : List ℕ) (k : ℕ) (answers : List Answer) → AllTold calls codes k answers
    → code_lines (length answers) i calls codes k ≡ printed i answers
unfolding AllTold code_lines printed
told_lines i calls codes k [] h = refl
told_lines i calls codes k (a ∷ rest) h =
    let signed = eqb (get_or calls (k * 5) 0) 1 in
    ap (λ (l : List ℕ). l ++ code_lines (length rest) (i + 1) calls codes (k + 1)) (ap (λ (c : ℕ). code_line i signed c) h.0 ∙ told_line i signed a h.1)
    ∙ ap (λ (l : List ℕ). line_of i a ++ l) (told_lines (i + 1) calls codes (k + 1) rest h.2)

-- the lines of two lists of answers
pub printed_append : (i : ℕ) (xs ys : List Answer) → printed i (xs ++ ys) ≡ printed i xs ++ printed (i + length xs) ys
unfolding printed
printed_append i [] ys = ap (λ (j : ℕ). printed j ys) (sym (add-zero i))
printed_append i (x ∷ xs) ys =
    let e : i + 1 + length xs ≡ i + suc (length xs) = omega arith in
    ap (λ (l : List ℕ). line_of i x ++ l) (printed_append (i + 1) xs ys ∙ ap (λ (j : ℕ). printed (i + 1) xs ++ printed j ys) e)
    ∙ sym (append_assoc (line_of i x) (printed (i + 1) xs) (printed (i + suc (length xs)) ys))

-- ---- decimal digits

-- each byte is one of the digits 0 to 9
unfoldable pub Digits : List ℕ → Type 0
Digits [] = Unit {0}
Digits (b ∷ bs) = (48 ≤ b) × (b ≤ 57) × Digits bs

-- one digit more at the end
digits_last : (bs : List ℕ) (d : ℕ) → d < 10 → Digits bs → Digits (bs ++ (zero_digit + d) ∷ [])
unfolding Digits
digits_last [] d h g = (omega arith, omega arith, tt)
digits_last (b ∷ bs) d h g = (g.0, g.1, digits_last bs d h g.2)

-- a number is printed in digits alone, for numbers below m
digits_below : (m n : ℕ) → n < m → Digits (decimal n)
unfolding Digits
digits_below zero n h = absurd (omega arith)
digits_below (suc m) n h =
    case (ltb n 10)
    (λ t. let l = ltb-true n 10 t in subst Digits (sym (decimal_one n l)) (omega arith, omega arith, tt))
    (λ t. let l = ltb-false n 10 t in
    subst Digits (sym (decimal_more n l)) (digits_last (decimal (n / 10)) (n % 10) (omega arith) (digits_below m (n / 10) (omega arith))))

-- a number is printed in digits alone
pub decimal_digits : (n : ℕ) → Digits (decimal n)
decimal_digits n = digits_below (suc n) n (omega arith)

-- ---- line feeds

-- two texts have the line feeds of both
feeds_append : (xs ys : List ℕ) → feeds (xs ++ ys) ≡ feeds xs + feeds ys
unfolding feeds
feeds_append [] ys = sym (zero-add (feeds ys))
feeds_append (x ∷ xs) ys =
    ap (λ (k : ℕ). cond (eqb x line_feed) 1 0 + k) (feeds_append xs ys) ∙ sym (add_assoc (cond (eqb x line_feed) 1 0) (feeds xs) (feeds ys))

-- digits have no line feed
feeds_digits : (bs : List ℕ) → Digits bs → feeds bs ≡ 0
unfolding feeds Digits
feeds_digits [] g = refl
feeds_digits (b ∷ bs) g = let h = g.0 in let e = feeds_digits bs g.2 in rw (ne_eqb b line_feed (λ z. omega arith), e)

-- a number in decimal has no line feed
feeds_decimal : (n : ℕ) → feeds (decimal n) ≡ 0
feeds_decimal n = feeds_digits (decimal n) (decimal_digits n)

-- another byte before a text adds no line feed
feeds_other : (b : ℕ) (bs : List ℕ) → eqb b line_feed ≡ false → feeds (b ∷ bs) ≡ feeds bs
unfolding feeds
feeds_other b bs h = rw h (zero-add (feeds bs))

-- an answer's number has no line feed
feeds_number : (a : Answer) → feeds (printed_number a) ≡ 0
feeds_number (answer.Value v) = feeds_decimal v
feeds_number (answer.Signed (pos n)) = feeds_decimal n
feeds_number (answer.Signed (negsuc n)) = feeds_other minus (decimal (n + 1)) refl ∙ feeds_decimal (n + 1)
feeds_number (answer.Fault f) = feeds_decimal (fsr_of f)
feeds_number (answer.Refused n) = feeds_decimal n

-- a line has one line feed
feeds_line : (i : ℕ) (a : Answer) → feeds (line_of i a) ≡ 1
unfolding line_of feeds
feeds_line i a =
    let k = (numbers_of a).kind in
    let x = printed_number a in
    let e = feeds_decimal i in
    let f = feeds_other comma (decimal k) refl ∙ feeds_decimal k in
    let g = feeds_other comma x refl ∙ feeds_number a in
    let p = feeds_append (decimal i) (comma ∷ decimal k) in
    let q = feeds_append (decimal i ++ comma ∷ decimal k) (comma ∷ x) in
    let r = feeds_append (decimal i ++ comma ∷ decimal k ++ comma ∷ x) (line_feed ∷ []) in
    r ∙ omega arith

-- the lines of answers have as many line feeds as there are answers
pub lines_counted : (i : ℕ) (answers : List Answer) → feeds (printed i answers) ≡ length answers
unfolding printed feeds
lines_counted i [] = refl
lines_counted i (a ∷ rest) =
    let e = feeds_line i a in let f = lines_counted (i + 1) rest in feeds_append (line_of i a) (printed (i + 1) rest) ∙ omega arith
