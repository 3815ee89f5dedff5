-- The first line of a text, and of one text behind another; what a line that departs or not is, and when a first line is decided.
use Prim.Native.Nat.{ℕ, zero, suc, ◌+◌, ◌≤◌}
use native.Mathlib.Omega.{arith}
use mathlib.Core.Bool.{Bool, true, false, ◌&&◌, ◌||◌}
use mathlib.Core.Path.{◌≡◌, refl, ◌∙◌, ap}
use mathlib.Core.List.{List, [], ◌∷◌, ◌++◌}
use lib.Dec.{eqb, leb}
use lib.ListN.{length, get_or, drop, length-drop, length-map}
use borrow.Author.Tests.{eqb-true, le-leb, lt-leb}
use Rattle.values.specs.Lists.{any, all}
use Rattle.values.proofs.Cases.{case, clash, and_left, and_right, and-false, or_left, or_right, or_none}
use Rattle.trace.specs.Calls.{is_call_at}
use Rattle.printed.specs.Printed.{line_feed}
use Rattle.fields.specs.Lines.{Line, line_from, fields_of, value_of, is_field, numbers_in, is_text_call_at, is_line}
use Rattle.fields.specs.Parse.{first_line, size_of, decided, parse}

-- what follows a line that has ended does not change it
pub first_ended : (t z : List ℕ) → (first_line t).ended ≡ true → first_line (t ++ z) ≡ first_line t
unfolding first_line
first_ended [] z h = clash {b = false} h refl
first_ended (b ∷ bs) z h =
    case (eqb b line_feed) (λ u. rw u)
    (λ u. let k : (first_line bs).ended ≡ true = rw u at h in rw (u, first_ended bs z k))

-- a first line that has not ended is all of the text
pub first_open : (t : List ℕ) → (first_line t).ended ≡ false → (first_line t).bytes ≡ t
unfolding first_line
first_open [] h = refl
first_open (b ∷ bs) h =
    case (eqb b line_feed) (λ u. let k : true ≡ false = rw u at h in clash {b = true} refl k)
    (λ u. let k : (first_line bs).ended ≡ false = rw u at h in rw u (ap (λ (r : List ℕ). b ∷ r) (first_open bs k)))

-- a line that has not ended goes on
pub first_goes_on : (t z : List ℕ) → (first_line t).ended ≡ false → first_line (t ++ z) ≡ line_from (t ++ (first_line z).bytes) (first_line z).ended
unfolding first_line
first_goes_on [] z h = refl
first_goes_on (b ∷ bs) z h =
    case (eqb b line_feed) (λ u. let k : true ≡ false = rw u at h in clash {b = true} refl k)
    (λ u. let k : (first_line bs).ended ≡ false = rw u at h in rw (u, first_goes_on bs z k))

-- bytes without a line feed have not ended
pub no_feed_open : (t : List ℕ) → any (λ (b : ℕ). eqb b line_feed) t ≡ false → (first_line t).ended ≡ false
unfolding first_line any
no_feed_open [] h = refl
no_feed_open (b ∷ bs) h =
    let k = or_none (eqb b line_feed) (any (λ (b : ℕ). eqb b line_feed) bs) h in
    rw k.0 (no_feed_open bs k.1)

-- a line that has ended is within the text, with its line feed
pub first_within : (t : List ℕ) → (first_line t).ended ≡ true → size_of (first_line t) ≤ length t
unfolding first_line
first_within [] h = clash {b = false} h refl
first_within (b ∷ bs) h =
    case (eqb b line_feed) (λ u. rw u (omega arith))
    (λ u. let k : (first_line bs).ended ≡ true = rw u at h in let r = first_within bs k in rw u (omega arith))

-- what a line that does not depart is: a line feed ends it, it has five fields, and they are a call
pub record Stands (l : Line) : Type 0 where
  pub has_ended : l.ended ≡ true
  pub are_five : length (fields_of l.bytes) ≡ 5
  pub are_fields : all is_field (fields_of l.bytes) ≡ true
  pub is_call_lem : is_call_at (numbers_in l) 0 ≡ true

pub line_stands : (l : Line) → is_line l ≡ true → Stands l
unfolding is_line
line_stands l t =
    let fs = fields_of l.bytes in
    let call = is_text_call_at (numbers_in l) 0 in
    let short = leb (length l.bytes + 1) 64 in
    let a = and_right l.ended (short && (eqb (length fs) 5 && (all is_field fs && call))) t in
    let b = and_right short (eqb (length fs) 5 && (all is_field fs && call)) a in
    let c = and_right (eqb (length fs) 5) (all is_field fs && call) b in
    record {
      has_ended = and_left l.ended (short && (eqb (length fs) 5 && (all is_field fs && call))) t;
      are_five = eqb-true (length fs) 5 (and_left (eqb (length fs) 5) (all is_field fs && call) b);
      are_fields = and_left (all is_field fs) call c;
      is_call_lem = and_left (is_call_at (numbers_in l) 0) (leb (get_or (numbers_in l) 0 0) 4) (and_right (all is_field fs) call c);
    }

-- it has five numbers
pub line_five : (l : Line) → is_line l ≡ true → length (numbers_in l) ≡ 5
line_five l t = length-map (fields_of l.bytes) value_of ∙ (line_stands l t).are_five

-- a line of 64 bytes before its line feed departs
pub long_departs : (l : Line) → 64 ≤ length l.bytes → is_line l ≡ false
unfolding is_line
long_departs l h = and-false l.ended _ (rw (lt-leb (length l.bytes + 1) 64 (omega arith)))

-- a line that has not ended departs
pub open_departs : (l : Line) → l.ended ≡ false → is_line l ≡ false
unfolding is_line
open_departs l h = rw h

-- a first line of 64 bytes is decided
pub long_decided : (ends : Bool) (t : List ℕ) → 64 ≤ length (first_line t).bytes → decided ends t ≡ true
unfolding decided
long_decided ends t h =
    or_left ((first_line t).ended || leb 64 (length (first_line t).bytes)) (ends && leb 1 (length t))
    (or_right (first_line t).ended (leb 64 (length (first_line t).bytes)) (le-leb 64 (length (first_line t).bytes) h))

-- a first line that has ended is decided
pub ended_decided : (ends : Bool) (t : List ℕ) → (first_line t).ended ≡ true → decided ends t ≡ true
unfolding decided
ended_decided ends t h = rw h

-- what a first line that is not decided is
pub undecided : (ends : Bool) (t : List ℕ) → decided ends t ≡ false
    → ((first_line t).ended ≡ false) × (leb 64 (length (first_line t).bytes) ≡ false) × ((ends && leb 1 (length t)) ≡ false)
unfolding decided
undecided ends t d =
    let a = or_none ((first_line t).ended || leb 64 (length (first_line t).bytes)) (ends && leb 1 (length t)) d in
    let b = or_none (first_line t).ended (leb 64 (length (first_line t).bytes)) a.0 in
    (b.0, b.1, a.1)

-- the lines parsed are within the text
pub parse_within : (ends : Bool) (n : ℕ) (t : List ℕ) → (parse ends n t).end ≤ length t
unfolding parse
parse_within ends zero t = omega arith
parse_within ends (suc n) t =
    case (is_line (first_line t))
    (λ h.
    let r = parse_within ends n (drop (size_of (first_line t)) t) in
    let w = first_within t (line_stands (first_line t) h).has_ended in
    let d = length-drop (size_of (first_line t)) t in
    rw h (omega arith))
    (λ h. rw h (omega arith))

-- and as many as asked at most
pub parse_few : (ends : Bool) (n : ℕ) (t : List ℕ) → (parse ends n t).made ≤ n
unfolding parse
parse_few ends zero t = omega arith
parse_few ends (suc n) t =
    case (is_line (first_line t))
    (λ h. let r = parse_few ends n (drop (size_of (first_line t)) t) in rw h (omega arith))
    (λ h. rw h (omega arith))
