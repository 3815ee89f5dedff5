-- Decimal digits: how many a number has, and the same digits taken from the last on.
use Prim.Native.Nat.{ℕ, zero, suc, ◌+◌, ◌*◌, ◌-◌, ◌/◌, ◌%◌, ◌^◌, ◌<◌, ◌≤◌}
use native.Mathlib.Omega.{arith}
use native.Mathlib.Numerals.{add-one}
use mathlib.Core.Path.{◌≡◌, refl, sym, ◌∙◌, ap}
use mathlib.Core.List.{List, [], ◌∷◌, ◌++◌}
use lib.Dec.{ltb}
use lib.ListN.{length, length-append}
use borrow.Author.Tests.{ltb-true, ltb-false, lt-ltb, le-ltb}
use Rattle.values.proofs.Cases.{case}
use Rattle.printed.specs.Printed.{zero_digit, decimal_by, decimal}

-- ---- powers of ten

-- 10^k
unfoldable pub tens : ℕ → ℕ
tens zero = 1
tens (suc k) = tens k * 10

-- a power of ten is not 0
pub tens_pos : (k : ℕ) → 1 ≤ tens k
unfolding tens
tens_pos zero = omega arith
tens_pos (suc k) = let h = tens_pos k in omega arith

-- a greater exponent has no smaller power
pub tens_rise : (i j : ℕ) → i ≤ j → tens i ≤ tens j
unfolding tens
tens_rise zero j h = tens_pos j
tens_rise (suc i) zero h = absurd (omega arith)
tens_rise (suc i) (suc j) h = let g = tens_rise i j (omega arith) in omega arith

-- ---- decimal, digit by digit

-- more digits allowed than the number needs change nothing
pub enough : (m k n : ℕ) → n < m → n < k → decimal_by m n ≡ decimal_by k n
unfolding decimal_by
enough zero k n h g = absurd (omega arith)
enough (suc m) zero n h g = absurd (omega arith)
enough (suc m) (suc k) n h g =
    case (ltb n 10) (λ t. rw t) (λ t. let f = ltb-false n 10 t in rw (t, enough m k (n / 10) (omega arith) (omega arith)))

-- below ten there is one digit
pub decimal_one : (n : ℕ) → n < 10 → decimal n ≡ (zero_digit + n) ∷ []
unfolding decimal_by
decimal_one n h = rw (lt-ltb n 10 h)

-- from ten on the last digit stands alone
last_digit : (n : ℕ) → 10 ≤ n → decimal n ≡ decimal_by n (n / 10) ++ (zero_digit + n % 10) ∷ []
unfolding decimal_by
last_digit n h = rw (le-ltb n 10 h)

-- from ten on the last digit follows the digits of the tenth part
pub decimal_more : (n : ℕ) → 10 ≤ n → decimal n ≡ decimal (n / 10) ++ (zero_digit + n % 10) ∷ []
decimal_more n h =
    last_digit n h ∙ ap (λ (l : List ℕ). l ++ (zero_digit + n % 10) ∷ []) (enough n (suc (n / 10)) (n / 10) (omega arith) (omega arith))

-- a number below a power of ten has no more digits than the exponent
pub decimal_short : (k n : ℕ) → n < tens (suc k) → length (decimal n) ≤ suc k
unfolding tens
decimal_short zero n h = rw (decimal_one n h) (omega arith)
decimal_short (suc k) n h =
    case (ltb n 10) (λ t. rw (decimal_one n (ltb-true n 10 t)) (omega arith))
    (λ t. let f = ltb-false n 10 t in
    let g = decimal_short k (n / 10) (omega arith) in
    rw (decimal_more n f, length-append (decimal (n / 10)) ((zero_digit + n % 10) ∷ [])) (omega arith))

-- up to 2^32 there are at most ten digits
pub decimal_ten : (n : ℕ) → n ≤ 0x100000000 → length (decimal n) ≤ 10
unfolding tens
decimal_ten n h = decimal_short 9 n (omega arith)

-- below 10^19 there are at most nineteen
pub decimal_nineteen : (n : ℕ) → n < 10000000000000000000 → length (decimal n) ≤ 19
unfolding tens
decimal_nineteen n h = decimal_short 18 n h

-- ---- a given number of digits

-- the last k digits of a number
unfoldable pub digits_of : ℕ → ℕ → List ℕ
digits_of zero n = []
digits_of (suc k) n = digits_of k (n / 10) ++ (zero_digit + n % 10) ∷ []

-- they are k
pub digits_long : (k n : ℕ) → length (digits_of k n) ≡ k
unfolding digits_of
digits_long zero n = refl
digits_long (suc k) n =
    let h = digits_long k (n / 10) in length-append (digits_of k (n / 10)) ((zero_digit + n % 10) ∷ []) ∙ omega arith

-- as many as a number between two powers of ten has are decimal
pub digits_decimal : (k n : ℕ) → n < tens (suc k) → (0 < k → tens k ≤ n) → digits_of (suc k) n ≡ decimal n
unfolding digits_of tens
digits_decimal zero n h g = let e : n % 10 ≡ n = omega arith in rw e (sym (decimal_one n h))
digits_decimal (suc k) n h g =
    let f = g (omega arith) in
    let p = tens_pos k in
    ap (λ (l : List ℕ). l ++ (zero_digit + n % 10) ∷ []) (digits_decimal k (n / 10) (omega arith) (λ z. omega arith))
    ∙ sym (decimal_more n (omega arith))

-- as many digits as decimal has are decimal, for numbers below m
digits_below : (m n : ℕ) → n < m → digits_of (length (decimal n)) n ≡ decimal n
unfolding digits_of
digits_below zero n h = absurd (omega arith)
digits_below (suc m) n h =
    case (ltb n 10)
    (λ t. let l = ltb-true n 10 t in
    let e : n % 10 ≡ n = omega arith in
    let f = decimal_one n l in
    ap (λ (k : ℕ). digits_of k n) (ap length f) ∙ ap (λ (k : ℕ). (zero_digit + k) ∷ []) e ∙ sym f)
    (λ t. let l = ltb-false n 10 t in
    let f = decimal_more n l in
    let e : length (decimal n) ≡ suc (length (decimal (n / 10))) =
    ap length f ∙ length-append (decimal (n / 10)) ((zero_digit + n % 10) ∷ []) ∙ add-one (length (decimal (n / 10)))
    in
    ap (λ (k : ℕ). digits_of k n) e ∙ ap (λ (r : List ℕ). r ++ (zero_digit + n % 10) ∷ []) (digits_below m (n / 10) (omega arith)) ∙ sym f)

-- as many digits as decimal has are decimal
pub digits_all : (n : ℕ) → digits_of (length (decimal n)) n ≡ decimal n
digits_all n = digits_below (suc n) n (omega arith)

-- ---- counting the digits of a number

-- the powers of ten are the library's
pub tens_power : (k : ℕ) → tens k ≡ 10 ^ k
unfolding tens
tens_power zero = refl
tens_power (suc k) = let h = tens_power k in rw h (omega arith)

-- a number between two powers of ten has one digit more than the exponent of the lower
pub digits_counted : (n k : ℕ) → 10 ^ k ≤ n → n < 10 * 10 ^ k → k + 1 ≡ length (decimal n)
unfolding tens
digits_counted n k low high =
    let p = tens_power k in
    let least : tens k ≤ n = omega arith in
    let d = digits_decimal k n (omega arith) (λ h. least) in
    add-one k ∙ sym (digits_long (suc k) n) ∙ ap length d

-- k digits are too few or just enough, and 10^k is at hand
pub record Counting (n k p : ℕ) : Type 0 where
  pub some : 1 ≤ k
  pub few : k ≤ 19
  pub power : p ≡ tens k
  pub least : 1 < k → tens (k - 1) ≤ n

-- one digit
pub counting_start : (n : ℕ) → Counting n 1 10
unfolding tens
counting_start n = record { some = omega arith; few = omega arith; power = refl; least = λ h. absurd (omega arith) }

module _ (n k p : ℕ) (c : Counting n k p) where
  -- a number that one digit more may have has fewer than nineteen so far
  pub counting_low : n < 10000000000000000000 → p ≤ n → k < 19
  unfolding tens
  counting_low h g =
      case (ltb k 19) (λ t. ltb-true k 19 t) (λ t. let r = tens_rise 19 k (ltb-false k 19 t) in let e = c.power in absurd (omega arith))

  -- then the next power fits 64 bits
  pub counting_fits : n < 10000000000000000000 → p ≤ n → p ≤ 1000000000000000000
  unfolding tens
  counting_fits h g = let l = counting_low h g in let r = tens_rise k 18 (omega arith) in let e = c.power in omega arith

  -- one digit more
  pub counting_on : n < 10000000000000000000 → p ≤ n → Counting n (k + 1) (p * 10)
  unfolding tens
  counting_on h g =
      let l = counting_low h g in
      let e : k + 1 - 1 ≡ k = omega arith in
      let f = c.power in
      record { some = omega arith; few = omega arith; power = rw (add-one k, f); least = λ z. rw (e, ← f) g }

  -- the digits are counted
  pub counting_end : n < p → (k ≡ length (decimal n)) × (k ≤ 19)
  counting_end h =
      let e : k ≡ suc (k - 1) = let s = c.some in omega arith in
      let f : n < tens (suc (k - 1)) = rw (← e, ← c.power) h in
      let d : digits_of k n ≡ decimal n = ap (λ (j : ℕ). digits_of j n) e ∙ digits_decimal (k - 1) n f (λ z. c.least (omega arith)) in
      (sym (digits_long k n) ∙ ap length d, c.few)
