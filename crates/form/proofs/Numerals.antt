-- Digits at the front of a text, and decimal digits without leading zeros: those of a number, and the number of those.
use Prim.Native.Nat.{ℕ, zero, suc, ◌+◌, ◌*◌, ◌-◌, ◌/◌, ◌%◌, ◌≤◌, ◌<◌}
use native.Mathlib.Omega.{arith}
use mathlib.Core.Bool.{false}
use mathlib.Core.Path.{◌≡◌, refl, sym, ◌∙◌, ap}
use mathlib.Core.List.{List, [], ◌∷◌, ◌++◌, append-nil}
use lib.Dec.{ltb, leb}
use lib.ListN.{length, get_or, drop, length-append, get_or-append}
use lib.Seq.{append_snoc}
use borrow.Author.Tests.{ltb-true, ltb-false, leb-true}
use Rattle.values.proofs.Cases.{case, and_left, and_right}
use Rattle.printed.specs.Printed.{zero_digit, decimal}
use Rattle.printed.proofs.Decimal.{decimal_one, decimal_more}
use Rattle.printed.proofs.Told.{Digits}
use Rattle.fields.specs.Lines.{is_digit, value_from, value_of}
use Rattle.fields.specs.Code.{digits_of}
use Rattle.fields.proofs.Digits.{is_digit_lem}

-- ---- the digits at the front of a text

-- each is a digit
pub digits_are : (text : List ℕ) → Digits (digits_of text)
unfolding digits_of Digits
digits_are [] = tt
digits_are (b ∷ bs) =
    case (is_digit b)
    (λ t. rw t (leb-true zero_digit b (and_left (leb zero_digit b) (leb b 57) t), leb-true b 57 (and_right (leb zero_digit b) (leb b 57) t), digits_are bs))
    (λ t. rw t tt)

-- a text is its digits and what is behind them
pub digits_split : (text : List ℕ) → text ≡ digits_of text ++ drop (length (digits_of text)) text
unfolding digits_of
digits_split [] = refl
digits_split (b ∷ bs) = case (is_digit b) (λ t. rw t (ap (λ (l : List ℕ). b ∷ l) (digits_split bs))) (λ t. rw t refl)

-- digits before a byte that is none are the digits of the text
pub digits_front : (ds : List ℕ) (b : ℕ) (rest : List ℕ) → Digits ds → is_digit b ≡ false → digits_of (ds ++ b ∷ rest) ≡ ds
unfolding digits_of Digits
digits_front [] b rest g e = rw e refl
digits_front (d ∷ ds) b rest g e = rw (is_digit_lem d g.0 g.1) (ap (λ (l : List ℕ). d ∷ l) (digits_front ds b rest g.2 e))

-- ---- the digits of a number

-- there is one at least
pub decimal_some : (n : ℕ) → 1 ≤ length (decimal n)
decimal_some n =
    case (ltb n 10) (λ t. let e = ap length (decimal_one n (ltb-true n 10 t)) in omega arith)
    (λ t.
    let e = ap length (decimal_more n (ltb-false n 10 t)) in
    let l = length-append (decimal (n / 10)) ((zero_digit + n % 10) ∷ []) in
    omega arith)

-- the first is not 0, for numbers from 1 on and below m
lead_below : (m n : ℕ) → n < m → 1 ≤ n → zero_digit < get_or (decimal n) 0 0
lead_below zero n h g = absurd (omega arith)
lead_below (suc m) n h g =
    case (ltb n 10) (λ t. rw (decimal_one n (ltb-true n 10 t)) (omega arith))
    (λ t. let l = ltb-false n 10 t in
    let r = lead_below m (n / 10) (omega arith) (omega arith) in
    let e : get_or (decimal n) 0 0 ≡ get_or (decimal (n / 10)) 0 0 =
    ap (λ (x : List ℕ). get_or x 0 0) (decimal_more n l) ∙ get_or-append (decimal (n / 10)) ((zero_digit + n % 10) ∷ []) 0 0 (decimal_some (n / 10))
    in
    omega arith)

-- the first of several is not 0
pub decimal_lead : (n : ℕ) → 2 ≤ length (decimal n) → zero_digit < get_or (decimal n) 0 0
decimal_lead n h =
    case (ltb n 10) (λ t. let e = ap length (decimal_one n (ltb-true n 10 t)) in absurd (omega arith))
    (λ t. let l = ltb-false n 10 t in lead_below (suc n) n (omega arith) (omega arith))

-- ---- the number of digits

-- one digit more
decimal_last : (n d : ℕ) → 1 ≤ n → d < 10 → decimal (n * 10 + d) ≡ decimal n ++ (zero_digit + d) ∷ []
decimal_last n d h g =
    let q : (n * 10 + d) / 10 ≡ n = omega arith in
    let r : (n * 10 + d) % 10 ≡ d = omega arith in
    decimal_more (n * 10 + d) (omega arith) ∙ ap (λ (k : ℕ). decimal k ++ (zero_digit + (n * 10 + d) % 10) ∷ []) q
    ∙ ap (λ (k : ℕ). decimal n ++ (zero_digit + k) ∷ []) r

-- digits behind those of a number from 1 on
decimal_on : (n : ℕ) (ds : List ℕ) → 1 ≤ n → Digits ds → decimal (value_from n ds) ≡ decimal n ++ ds
unfolding value_from Digits
decimal_on n [] h g = sym (append-nil (decimal n))
decimal_on n (d ∷ ds) h g =
    let low = g.0 in
    let high = g.1 in
    let e : zero_digit + (d - zero_digit) ≡ d = omega arith in
    decimal_on (n * 10 + (d - zero_digit)) ds (omega arith) g.2
    ∙ ap (λ (l : List ℕ). l ++ ds) (decimal_last n (d - zero_digit) h (omega arith) ∙ ap (λ (k : ℕ). decimal n ++ k ∷ []) e)
    ∙ append_snoc (decimal n) d ds

-- digits without a leading zero are those of their number
pub decimal_back : (ds : List ℕ) → Digits ds → 1 ≤ length ds → (2 ≤ length ds → get_or ds 0 0 ≡ zero_digit → ⊥) → decimal (value_of ds) ≡ ds
unfolding value_from Digits
decimal_back [] g h z = absurd (omega arith)
decimal_back (d ∷ []) g h z =
    let low = g.0 in
    let high = g.1 in
    let e : zero_digit + (0 * 10 + (d - zero_digit)) ≡ d = omega arith in
    decimal_one (0 * 10 + (d - zero_digit)) (omega arith) ∙ ap (λ (k : ℕ). k ∷ []) e
decimal_back (d ∷ c ∷ ds) g h z =
    let low = g.0 in
    let high = g.1 in
    let e : zero_digit + (0 * 10 + (d - zero_digit)) ≡ d = omega arith in
    let some : d ≡ zero_digit → ⊥ = z (omega arith) in
    decimal_on (0 * 10 + (d - zero_digit)) (c ∷ ds) (omega (arith, some)) g.2
    ∙ ap (λ (l : List ℕ). l ++ c ∷ ds) (decimal_one (0 * 10 + (d - zero_digit)) (omega arith)) ∙ ap (λ (k : ℕ). k ∷ c ∷ ds) e
