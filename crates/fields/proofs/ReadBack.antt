-- What is printed of a number is read back: its decimal digits are a field, whose number it is.
use Prim.Native.Nat.{ℕ, zero, suc, ◌+◌, ◌*◌, ◌-◌, ◌/◌, ◌%◌, ◌≤◌, ◌<◌}
use native.Mathlib.Omega.{arith}
use mathlib.Core.Bool.{true}
use mathlib.Core.Path.{◌≡◌, refl, ◌∙◌, ap}
use mathlib.Core.List.{List, [], ◌∷◌, ◌++◌}
use lib.Dec.{ltb}
use lib.ListN.{length, length-append}
use borrow.Author.Tests.{ltb-true, ltb-false, le-leb}
use Rattle.values.specs.Lists.{all}
use Rattle.values.proofs.Cases.{case}
use Rattle.printed.specs.Printed.{zero_digit, decimal}
use Rattle.printed.proofs.Decimal.{decimal_one, decimal_more}
use Rattle.printed.proofs.Told.{Digits, decimal_digits}
use Rattle.fields.specs.Lines.{is_digit, value_from, value_of, is_field}

-- one digit more at the end
value_last : (n : ℕ) (bs : List ℕ) (b : ℕ) → value_from n (bs ++ b ∷ []) ≡ value_from n bs * 10 + (b - zero_digit)
unfolding value_from
value_last n [] b = refl
value_last n (x ∷ bs) b = value_last (n * 10 + (x - zero_digit)) bs b

-- the digits of a number read back are the number, for numbers below m
value_below : (m n : ℕ) → n < m → value_of (decimal n) ≡ n
unfolding value_from
value_below zero n h = absurd (omega arith)
value_below (suc m) n h =
    case (ltb n 10)
    (λ t. let e : 0 * 10 + (zero_digit + n - zero_digit) ≡ n = omega arith in ap (λ (l : List ℕ). value_of l) (decimal_one n (ltb-true n 10 t)) ∙ e)
    (λ t. let l = ltb-false n 10 t in
    let r = value_below m (n / 10) (omega arith) in
    let e = value_last 0 (decimal (n / 10)) (zero_digit + n % 10) in
    ap (λ (l : List ℕ). value_of l) (decimal_more n l) ∙ e ∙ omega arith)

-- the digits of a number read back are the number
pub decimal_value : (n : ℕ) → value_of (decimal n) ≡ n
decimal_value n = value_below (suc n) n (omega arith)

-- bytes that are digits pass the test of each
digits_pass : (bs : List ℕ) → Digits bs → all is_digit bs ≡ true
unfolding all Digits
digits_pass [] g = refl
digits_pass (b ∷ bs) g = rw (le-leb zero_digit b g.0, le-leb b 57 g.1) (digits_pass bs g.2)

-- a number has at least one digit
decimal_some : (n : ℕ) → 1 ≤ length (decimal n)
decimal_some n =
    case (ltb n 10) (λ t. let e = ap length (decimal_one n (ltb-true n 10 t)) in omega arith)
    (λ t.
    let e = ap length (decimal_more n (ltb-false n 10 t)) in
    let l = length-append (decimal (n / 10)) ((zero_digit + n % 10) ∷ []) in
    omega arith)

-- a number up to 4,294,967,295 is printed as a field
pub decimal_field : (n : ℕ) → n ≤ 0xFFFFFFFF → is_field (decimal n) ≡ true
decimal_field n h =
    let v = decimal_value n in
    rw (le-leb 1 (length (decimal n)) (decimal_some n), digits_pass (decimal n) (decimal_digits n), le-leb (value_of (decimal n)) 0xFFFFFFFF (omega arith))
