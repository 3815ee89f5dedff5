-- A field without leading zeros: each return of the function that reads it, and what a place of a text takes.
use Prim.Native.Nat.{ℕ, ◌+◌, ◌≤◌, ◌<◌}
use native.Mathlib.Omega.{arith}
use native.Mathlib.Nat.{add-zero}
use native.Mathlib.Numerals.{add-one}
use mathlib.Core.Bool.{Bool, true, false, cond, not, ◌&&◌}
use mathlib.Core.Path.{◌≡◌, refl, sym, ◌∙◌, ap}
use mathlib.Core.List.{List, [], ◌∷◌}
use lib.Dec.{eqb, leb, leb-suc-suc}
use lib.ListN.{length, get_or, drop}
use lib.Seq.{get_or-drop}
use borrow.Author.Tests.{leb-true, le-leb, lt-leb, eq-eqb, ne_eqb}
use Rattle.std.specs.Prelude.{Some, None}
use Rattle.values.proofs.Cases.{case, and_left, and-false}
use Rattle.printed.specs.Printed.{zero_digit}
use Rattle.fields.specs.Lines.{is_digit, value_of}
use Rattle.fields.specs.Code.{digits_of, field_from, field_at}
use Rattle.fields.specs.declared.Field.{Field}
use Rattle.form.specs.Texts.{is_number}
use Rattle.form.specs.Form.{most32}
use Rattle.form.specs.Code.{plain_at}

-- ---- the returns

module _ (text : List ℕ) (from by : ℕ) where
  -- no field
  pub plain_none : None ≡ field_at by (drop from text) → None ≡ plain_at by (drop from text)
  unfolding plain_at
  plain_none e = rw (← e)

  module _ (f : Field) (e : Some f ≡ field_at by (drop from text)) where
    -- the first byte of the field
    first_is : get_or (drop from text) 0 0 ≡ get_or text from 0
    first_is = get_or-drop from text 0 0 ∙ ap (λ (j : ℕ). get_or text j 0) (add-zero from)

    -- at least two digits, of which the first is 0
    pub plain_zero : 3 ≤ f.size → get_or text from 0 ≡ zero_digit → None ≡ plain_at by (drop from text)
    unfolding plain_at
    plain_zero h z = rw (← e, le-leb 3 f.size h, eq-eqb (get_or (drop from text) 0 0) zero_digit (first_is ∙ z))

    -- the first digit is not 0
    pub plain_other : (get_or text from 0 ≡ zero_digit → ⊥) → Some f ≡ plain_at by (drop from text)
    unfolding plain_at
    plain_other z =
        let t : eqb (get_or (drop from text) 0 0) zero_digit ≡ false = ne_eqb (get_or (drop from text) 0 0) zero_digit (λ q. z (sym first_is ∙ q)) in
        rw (← e, t, and-false (leb 3 f.size) false refl)

    -- one digit at most
    pub plain_short : f.size < 3 → Some f ≡ plain_at by (drop from text)
    unfolding plain_at
    plain_short h = rw (← e, lt-leb 3 f.size h)

-- ---- what a place takes

-- the first digit is the first byte
digits_first : (text : List ℕ) → 1 ≤ length (digits_of text) → get_or (digits_of text) 0 0 ≡ get_or text 0 0
unfolding digits_of
digits_first [] h = refl
digits_first (b ∷ bs) h = case (is_digit b) (λ t. rw t) (λ t. let z = ap length (none t) in absurd (omega arith))
  where
    none : is_digit b ≡ false → digits_of (b ∷ bs) ≡ []
    none t = rw t

-- the tests of a field with one byte behind it, in another order
tests : (some zeros small ends : Bool) → (some && (not zeros && small) && ends) ≡ (some && (small && ends) && not zeros)
tests true true true true = refl
tests true true true false = refl
tests true true false e = refl
tests true false true true = refl
tests true false true false = refl
tests true false false e = refl
tests false z s e = refl

module _ (by : ℕ) (text : List ℕ) where
  abbrev ds : List ℕ
  ds = digits_of text

  -- the tests of a field: some digits, none of them a leading zero, a number of 32 bits, the byte behind them
  abbrev some : Bool
  some = leb 1 (length ds)

  abbrev zeros : Bool
  zeros = leb 2 (length ds) && eqb (get_or ds 0 0) zero_digit

  abbrev small : Bool
  small = leb (value_of ds) most32

  abbrev ends : Bool
  ends = eqb (get_or text (length ds) 0) by

  abbrev whole : Field
  whole = field_from (value_of ds) (length ds + 1)

  -- where there is no field there is none without leading zeros
  none_plain : (some && (small && ends)) ≡ false → plain_at by text ≡ None
  unfolding plain_at field_at
  none_plain t = rw t

  -- where there is one, it is one without leading zeros unless it has them
  field_plain : (some && (small && ends)) ≡ true → plain_at by text ≡ cond (not zeros) (Some whole) None
  unfolding plain_at field_at
  field_plain t =
      let l : 1 ≤ length ds = leb-true 1 (length ds) (and_left some (small && ends) t) in
      let f : get_or ds 0 0 ≡ get_or text 0 0 = digits_first text l in
      let z : (leb 3 (length ds + 1) && eqb (get_or text 0 0) zero_digit) ≡ zeros = rw (two (length ds), ← f) in
      rw t (rw z (turned zeros))
    where
      two : (n : ℕ) → leb 3 (n + 1) ≡ leb 2 n
      two n = ap (leb 3) (add-one n) ∙ leb-suc-suc 2 n

      turned : (b : Bool) → cond b None (Some whole) ≡ cond (not b) (Some whole) None
      turned true = refl
      turned false = refl

  -- a field without leading zeros is read exactly where a place of a number of 32 bits takes one
  pub plain_is : plain_at by text ≡ cond (is_number most32 ds && ends) (Some whole) None
  plain_is =
      let order : (is_number most32 ds && ends) ≡ (some && (small && ends) && not zeros) = tests some zeros small ends in
      case (some && (small && ends)) (λ t. field_plain t ∙ sym (rw (order, t))) (λ t. none_plain t ∙ sym (rw (order, t)))
