-- The bytes behind the numbers of the form, laid line by line, and the places of the form.
use Prim.Native.Nat.{ℕ, zero, suc, ◌+◌, ◌*◌, ◌-◌, ◌≤◌}
use native.Mathlib.Omega.{arith}
use native.Mathlib.Nat.{add_comm, zero-mul, suc-mul, sub-zero}
use mathlib.Core.Path.{◌≡◌, refl, sym, ◌∙◌, ap, subst}
use mathlib.Core.List.{List, [], ◌∷◌, ◌++◌, append-nil}
use lib.ListN.{length, take, drop, replicate, length-append, length-replicate}
use lib.Seq.{drop_at, drop-drop, length-take-le}
use Rattle.printed.specs.Printed.{comma}
use Rattle.printed.specs.Code.{over}
use Rattle.printed.proofs.Laying.{over_long}
use Rattle.form.specs.Texts.{Place, place, line_places}
use Rattle.form.specs.Form.{Form, most32, each_places}
use Rattle.form.specs.Code.{places_of, line_separators, lines_separators, NoZero}
use Rattle.form.proofs.Back.{NoDigits, no_digits_append, separators_no_digits}
use Rattle.numbers.specs.Fields.{set_fields, byte_fields}
use Rattle.numbers.specs.Text.{form}
use Rattle.numbers.specs.Code.{head_line, entry_line, cache_line, buffer_line}
use Rattle.numbers.proofs.Heads.{four_laid}
use Rattle.text.specs.Code.{separators}

-- ---- how long they are

lines_long : (k n : ℕ) → length (line_separators n) ≡ n → length (lines_separators k n) ≡ k * n
unfolding lines_separators
lines_long zero n h = sym (zero-mul n)
lines_long (suc k) n h =
    length-append (line_separators n) (lines_separators k n) ∙ ap (λ (j : ℕ). j + length (lines_separators k n)) h ∙ ap (λ (j : ℕ). n + j) (lines_long k n h)
    ∙ add_comm n (k * n) ∙ sym (suc-mul k n)

line_29 : length (line_separators 29) ≡ 29
unfolding line_separators
line_29 = refl

line_11 : length (line_separators 11) ≡ 11
unfolding line_separators
line_11 = refl

line_5 : length (line_separators 5) ≡ 5
unfolding line_separators
line_5 = refl

line_18 : length (line_separators 18) ≡ 18
unfolding line_separators
line_18 = refl

pub long_1 : length (lines_separators 1 29) ≡ 29
long_1 = lines_long 1 29 line_29

pub long_2 : length (lines_separators 32 11) ≡ 352
long_2 = lines_long 32 11 line_11

pub long_3 : length (lines_separators 512 5) ≡ 2560
long_3 = lines_long 512 5 line_5

pub long_4 : length (lines_separators 8 18) ≡ 144
long_4 = lines_long 8 18 line_18

pub separators_long : length separators ≡ 3085
unfolding separators
separators_long =
    let a = long_1 in
    let b = long_2 in
    let c = long_3 in
    let d = long_4 in
    let p = length-append (lines_separators 1 29) (lines_separators 32 11 ++ (lines_separators 512 5 ++ lines_separators 8 18)) in
    let q = length-append (lines_separators 32 11) (lines_separators 512 5 ++ lines_separators 8 18) in
    let r = length-append (lines_separators 512 5) (lines_separators 8 18) in
    p ∙ omega arith

-- ---- laid

drop_replicate : (k n : ℕ) → drop k (replicate n comma) ≡ replicate (n - k) comma
drop_replicate zero n = ap (λ (j : ℕ). replicate j comma) (sym (sub-zero n))
drop_replicate (suc k) zero = let z : 0 - suc k ≡ 0 = omega arith in ap (λ (j : ℕ). replicate j comma) (sym z)
drop_replicate (suc k) (suc n) = let z : n - k ≡ suc n - suc k = omega arith in drop_replicate k n ∙ ap (λ (j : ℕ). replicate j comma) z

-- a list with commas from a place on
pub record Commas (o : List ℕ) (k : ℕ) : Type 0 where
  pub long : length o ≡ 3085
  pub rest : drop k o ≡ replicate (length o - k) comma

pub commas_start : Commas (replicate 3085 comma) 0
commas_start = record { long = length-replicate 3085 comma; rest = ap (λ (j : ℕ). replicate j comma) (sym (sub-zero 3085)) }

-- lines laid leave the commas behind them
pub commas_on : (o p bs : List ℕ) (k m : ℕ) → Commas o k → p ≡ over o k bs → length bs ≡ m → k + m ≤ 3085 → Commas p (k + m)
commas_on o p bs k m g e h room =
    let long = g.long in
    let kept : length p ≡ length o = ap length e ∙ over_long o k bs (omega arith) in
    let front : length (take k o ++ bs) ≡ k + m =
    length-append (take k o) bs ∙ ap (λ (j : ℕ). j + length bs) (length-take-le k o (omega arith)) ∙ ap (λ (j : ℕ). k + j) h
    in
    let behind : drop (k + m) p ≡ drop (k + length bs) o =
    ap (λ (l : List ℕ). drop (k + m) l) e ∙ drop_at (take k o ++ bs) (drop (k + length bs) o) (k + m) front
    in
    let shift : drop (k + length bs) o ≡ drop m (drop k o) = ap (λ (j : ℕ). drop (k + j) o) h ∙ sym (drop-drop m k o) in
    let size : length o - k - m ≡ length p - (k + m) = omega arith in
    record {
      long = kept ∙ long;
      rest = behind ∙ shift ∙ ap (λ (l : List ℕ). drop m l) g.rest ∙ drop_replicate m (length o - k) ∙ ap (λ (j : ℕ). replicate j comma) size;
    }

-- all lines laid
pub separators_laid : (o p q r t : List ℕ) → length o ≡ 3085 → p ≡ over o 0 (lines_separators 1 29) → q ≡ over p 29 (lines_separators 32 11)
    → r ≡ over q 381 (lines_separators 512 5) → t ≡ over r 2941 (lines_separators 8 18) → t ≡ separators
unfolding separators
separators_laid o p q r t long e f g h =
    four_laid o p q r t (lines_separators 1 29) (lines_separators 32 11) (lines_separators 512 5) (lines_separators 8 18) long long_1 long_2 long_3 long_4 e f g h

-- ---- the places of the form

head_places : head_line.places ≡ places_of (line_separators 29)
unfolding line_places line_separators set_fields
head_places = refl

entry_places : entry_line.places ≡ places_of (line_separators 11)
unfolding line_places line_separators
entry_places = refl

line_places_lem : cache_line.places ≡ places_of (line_separators 5)
unfolding line_places line_separators
line_places_lem = refl

slot_places : buffer_line.places ≡ places_of (line_separators 18)
unfolding line_places line_separators byte_fields
slot_places = refl

places_append : (xs ys : List ℕ) → places_of (xs ++ ys) ≡ places_of xs ++ places_of ys
places_append [] ys = refl
places_append (x ∷ xs) ys = ap {B = List Place} (λ l. place most32 x ∷ l) (places_append xs ys)

each_places_lem : {A : Type 0} (f : Form A) (n k : ℕ) → f.places ≡ places_of (line_separators n) → each_places f k ≡ places_of (lines_separators k n)
unfolding each_places lines_separators
each_places_lem f n zero e = refl
each_places_lem f n (suc k) e =
    ap (λ (l : List Place). l ++ each_places f k) e ∙ ap (λ (l : List Place). places_of (line_separators n) ++ l) (each_places_lem f n k e)
    ∙ sym (places_append (line_separators n) (lines_separators k n))

one_line : lines_separators 1 29 ≡ line_separators 29
unfolding lines_separators
one_line = append-nil (line_separators 29)

pub form_places : form.places ≡ places_of separators
unfolding form separators
form_places =
    let A = lines_separators 1 29 in
    let B = lines_separators 32 11 in
    let C = lines_separators 512 5 in
    let D = lines_separators 8 18 in
    rw (
      head_places ∙ ap (λ (l : List ℕ). places_of l) (sym one_line),
      each_places_lem entry_line 11 32 entry_places,
      each_places_lem cache_line 5 512 line_places_lem,
      each_places_lem buffer_line 18 8 slot_places,
    )
    (sym (places_append A (B ++ (C ++ D)) ∙ ap (λ (l : List Place). places_of A ++ l) (places_append B (C ++ D)
    ∙ ap (λ (l : List Place). places_of B ++ l) (places_append C D))))

-- ---- none of them is 0

each_no_digits : {A : Type 0} (f : Form A) (k : ℕ) → NoDigits f.places → NoDigits (each_places f k)
unfolding each_places NoDigits
each_no_digits f zero h = tt
each_no_digits f (suc k) h = no_digits_append f.places (each_places f k) h (each_no_digits f k h)

form_no_digits : NoDigits form.places
unfolding form
form_no_digits =
    no_digits_append _ _ (separators_no_digits _)
    (no_digits_append _ _ (each_no_digits entry_line 32 (separators_no_digits _))
    (no_digits_append _ _ (each_no_digits cache_line 512 (separators_no_digits _)) (each_no_digits buffer_line 8 (separators_no_digits _))))

no_zeros : (bs : List ℕ) → NoDigits (places_of bs) → NoZero bs
unfolding NoDigits
no_zeros [] g k h = absurd (omega arith)
no_zeros (b ∷ bs) g zero h = g.1
no_zeros (b ∷ bs) g (suc k) h = no_zeros bs g.2 k (omega arith)

pub separators_no_zero : NoZero separators
separators_no_zero = no_zeros separators (subst NoDigits form_places form_no_digits)
