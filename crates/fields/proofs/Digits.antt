-- The digits at the front of a text, and the loop that reads their number.
use Prim.Native.Nat.{ℕ, suc, ◌+◌, ◌*◌, ◌-◌, ◌≤◌, ◌<◌}
use native.Mathlib.Omega.{arith}
use mathlib.Core.Bool.{true, false}
use mathlib.Core.Path.{◌≡◌, sym, ◌∙◌, ap}
use mathlib.Core.List.{List, [], ◌∷◌}
use lib.Dec.{leb}
use lib.ListN.{length, get_or, drop, drop_of_length-le}
use lib.Seq.{drop-cons}
use borrow.Author.Tests.{le-leb}
use Rattle.values.proofs.Cases.{and_both}
use Rattle.fields.specs.Lines.{is_digit, value_from, value_of}
use Rattle.std.specs.Prelude.{Some, None}
use Rattle.fields.specs.Code.{digits_of, Reads}

-- a list from a place on, by its first element
pub drop_more : (l : List ℕ) (i : ℕ) → i < length l → drop i l ≡ get_or l i 0 ∷ drop (i + 1) l
drop_more l i h = let e : suc i ≡ i + 1 = omega arith in drop-cons l i 0 h ∙ ap (λ (k : ℕ). get_or l i 0 ∷ drop k l) e

pub is_digit_lem : (b : ℕ) → 48 ≤ b → b ≤ 57 → is_digit b ≡ true
is_digit_lem b h k = and_both (leb 48 b) (leb b 57) (le-leb 48 b h) (le-leb b 57 k)

-- the digits from a place on, by the byte there
pub digits_more : (l : List ℕ) (i : ℕ) → i < length l → is_digit (get_or l i 0) ≡ true → digits_of (drop i l) ≡ get_or l i 0 ∷ digits_of (drop (i + 1) l)
unfolding digits_of
digits_more l i h t = ap digits_of (drop_more l i h) ∙ rw t

pub digits_stop : (l : List ℕ) (i : ℕ) → i < length l → is_digit (get_or l i 0) ≡ false → digits_of (drop i l) ≡ []
unfolding digits_of
digits_stop l i h t = ap digits_of (drop_more l i h) ∙ rw t

pub digits_end : (l : List ℕ) (i : ℕ) → length l ≤ i → digits_of (drop i l) ≡ []
unfolding digits_of
digits_end l i h = ap digits_of (drop_of_length-le l h)

-- further digits make no number smaller
pub value_grows : (n : ℕ) (ds : List ℕ) → n ≤ value_from n ds
unfolding value_from
value_grows n [] = omega arith
value_grows n (d ∷ ds) = let h = value_grows (n * 10 + (d - 48)) ds in omega arith

-- what holds before each turn of the loop that reads a number
pub record Numbering (text : List ℕ) (from value i : ℕ) : Type 0 where
  pub low : from ≤ i
  pub high : i ≤ length text
  pub small : value ≤ 0xFFFFFFFF
  pub number : value_from value (digits_of (drop i text)) ≡ value_of (digits_of (drop from text))
  pub long : i + length (digits_of (drop i text)) ≡ from + length (digits_of (drop from text))

module _ (text : List ℕ) (from value i : ℕ) (g : Numbering text from value i) where
  -- no digit stands here
  pub numbering_stop : digits_of (drop i text) ≡ [] → Reads (digits_of (drop from text)) from (Some (record { value = value; end = i }))
  unfolding value_from
  numbering_stop e =
      let n : value ≡ value_of (digits_of (drop from text)) = ap (value_from value) (sym e) ∙ g.number in
      let l : i + length (digits_of (drop i text)) ≡ from + length (digits_of (drop from text)) = g.long in
      let z : length (digits_of (drop i text)) ≡ 0 = ap length e in
      let small = g.small in
      (omega arith, n, omega arith)

  -- no byte stands here
  pub numbering_end : length text ≤ i → Reads (digits_of (drop from text)) from (Some (record { value = value; end = length text }))
  numbering_end h =
      let high = g.high in
      let e : i ≡ length text = omega arith in
      let r = numbering_stop (digits_end text i h) in
      (r.0, r.1, sym e ∙ r.2)

  module _ (h : i < length text) (t : is_digit (get_or text i 0) ≡ true) (d : ℕ) (e : d ≡ get_or text i 0 - 48) where
    -- the number with the digit here
    numbered : value_from (value * 10 + d) (digits_of (drop (i + 1) text)) ≡ value_of (digits_of (drop from text))
    unfolding value_from
    numbered = rw e (ap (value_from value) (sym (digits_more text i h t)) ∙ g.number)

    pub numbering_on : value * 10 + d ≤ 0xFFFFFFFF → Numbering text from (value * 10 + d) (i + 1)
    numbering_on s =
        let l = g.long in
        let e : length (digits_of (drop i text)) ≡ suc (length (digits_of (drop (i + 1) text))) = ap length (digits_more text i h t) in
        let low = g.low in
        record { low = omega arith; high = omega arith; small = s; number = numbered; long = omega arith }

    -- the number is above that of any field
    pub numbering_above : 0xFFFFFFFF < value * 10 + d → Reads (digits_of (drop from text)) from None
    numbering_above s =
        let k = value_grows (value * 10 + d) (digits_of (drop (i + 1) text)) in
        let q = numbered in
        omega arith
