-- The lines parsed: how many numbers and calls they are, and what their verdict says of the bytes behind them.
use Prim.Native.Nat.{ℕ, zero, suc, ◌+◌, ◌*◌, ◌≤◌, ◌<◌}
use native.Mathlib.Omega.{arith}
use native.Mathlib.Nat.{add-zero}
use mathlib.Core.Bool.{Bool, true, false, ◌&&◌}
use mathlib.Core.Path.{◌≡◌, refl, sym, ◌∙◌, ap}
use mathlib.Core.List.{List, [], ◌∷◌, ◌++◌, map}
use lib.Dec.{leb}
use lib.ListN.{length, get_or, drop, length-append, length-drop, get_or-append}
use lib.Seq.{get_or-append-add}
use borrow.Author.Tests.{leb-true, leb-false}
use Rattle.values.specs.Lists.{all}
use Rattle.values.proofs.Cases.{case, and_left, and_right}
use Rattle.trace.specs.Calls.{call_at, is_call, is_call_at}
use Rattle.trace.specs.Fold.{calls_in}
use Rattle.fields.specs.Lines.{Line, fields_of, is_digit, value_of, is_field, numbers_in, is_line}
use Rattle.fields.specs.Parse.{first_line, size_of, decided, Parsed, parse}
use Rattle.fields.proofs.First.{first_open, line_stands, line_five, undecided}

-- ---- five numbers before others

module _ (five rest : List ℕ) (e : length five ≡ 5) where
  number_first : (j : ℕ) → j < 5 → get_or (five ++ rest) j 0 ≡ get_or five j 0
  number_first j h = get_or-append five rest 0 j (omega arith)

  number_later : (i j : ℕ) → get_or (five ++ rest) ((i + 1) * 5 + j) 0 ≡ get_or rest (i * 5 + j) 0
  number_later i j =
      let k : (i + 1) * 5 + j ≡ length five + (i * 5 + j) = omega arith in
      ap (λ (n : ℕ). get_or (five ++ rest) n 0) k ∙ get_or-append-add five rest (i * 5 + j) 0

  number_next : (i : ℕ) → get_or (five ++ rest) ((i + 1) * 5) 0 ≡ get_or rest (i * 5) 0
  number_next i =
      ap (λ (n : ℕ). get_or (five ++ rest) n 0) (sym (add-zero ((i + 1) * 5))) ∙ number_later i 0 ∙ ap (λ (n : ℕ). get_or rest n 0) (add-zero (i * 5))

  -- the calls behind the first
  pub calls_behind : (n i : ℕ) → calls_in n (five ++ rest) (i + 1) ≡ calls_in n rest i
  unfolding calls_in
  calls_behind zero i = refl
  calls_behind (suc n) i =
      let a = number_next i in
      let t : is_call_at (five ++ rest) (i + 1) ≡ is_call_at rest i = rw (a, number_later i 1) in
      let c : call_at (five ++ rest) (i + 1) ≡ call_at rest i = rw (a, number_later i 1, number_later i 2, number_later i 3, number_later i 4) in
      rw (t, c, calls_behind n (i + 1))

  -- the first of them
  pub calls_first : (n : ℕ) → is_call_at five 0 ≡ true → calls_in (suc n) (five ++ rest) 0 ≡ call_at five 0 ∷ calls_in n rest 0
  unfolding calls_in
  calls_first n t =
      let a = number_first 0 (omega arith) in
      let b = number_first 1 (omega arith) in
      let u : is_call_at (five ++ rest) 0 ≡ true = ap (λ (x : ℕ). is_call x (get_or (five ++ rest) 1 0)) a ∙ ap (is_call (get_or five 0 0)) b ∙ t in
      let c : call_at (five ++ rest) 0 ≡ call_at five 0 =
      rw (a, b, number_first 2 (omega arith), number_first 3 (omega arith), number_first 4 (omega arith))
      in
      rw u (rw (c, calls_behind n 0))

-- the numbers of fields have 32 bits
fields_32 : (fs : List (List ℕ)) → all is_field fs ≡ true → (i : ℕ) → i < length (map value_of fs) → get_or (map value_of fs) i 0 < 0x100000000
unfolding all
fields_32 [] h i k = absurd (omega arith)
fields_32 (f ∷ fs) h zero k =
    let a = and_left (is_field f) (all is_field fs) h in
    let b = and_right (leb 1 (length f)) (all is_digit f && leb (value_of f) 0xFFFFFFFF) a in
    let c = leb-true (value_of f) 0xFFFFFFFF (and_right (all is_digit f) (leb (value_of f) 0xFFFFFFFF) b) in
    omega arith
fields_32 (f ∷ fs) h (suc i) k = fields_32 fs (and_right (is_field f) (all is_field fs) h) i (omega arith)

-- and so have those of a line
pub line_32 : (l : Line) → is_line l ≡ true → (i : ℕ) → i < length (numbers_in l) → get_or (numbers_in l) i 0 < 0x100000000
line_32 l t = fields_32 (fields_of l.bytes) (line_stands l t).are_fields

-- and those of lists one behind the other
both_32 : (xs ys : List ℕ) → ((i : ℕ) → i < length xs → get_or xs i 0 < 0x100000000) → ((i : ℕ) → i < length ys → get_or ys i 0 < 0x100000000)
    → (i : ℕ) → i < length (xs ++ ys) → get_or (xs ++ ys) i 0 < 0x100000000
both_32 [] ys f g i h = g i h
both_32 (x ∷ xs) ys f g zero h = f zero (omega arith)
both_32 (x ∷ xs) ys f g (suc i) h = both_32 xs ys (λ j k. f (suc j) (omega arith)) g i (omega arith)

-- ---- lines parsed

module _ (ends : Bool) where
  -- numbers of 32 bits
  pub parse_32 : (n : ℕ) (t : List ℕ) (i : ℕ) → i < length (parse ends n t).numbers → get_or (parse ends n t).numbers i 0 < 0x100000000
  unfolding parse
  parse_32 zero t = λ i k. absurd (omega arith)
  parse_32 (suc n) t =
      let l = first_line t in
      case (is_line l)
      (λ h. rw h (both_32 (numbers_in l) (parse ends n (drop (size_of l) t)).numbers (line_32 l h) (parse_32 n (drop (size_of l) t))))
      (λ h. rw h (λ i k. absurd (omega arith)))

  -- the calls of the lines, by the first
  pub parse_first : (n : ℕ) (t : List ℕ) → is_line (first_line t) ≡ true
      → calls_in (parse ends (suc n) t).made (parse ends (suc n) t).numbers 0 ≡ call_at (numbers_in (first_line t)) 0
      ∷ calls_in (parse ends n (drop (size_of (first_line t)) t)).made (parse ends n (drop (size_of (first_line t)) t)).numbers 0
  unfolding parse
  parse_first n t h =
      let p : Parsed = parse ends n (drop (size_of (first_line t)) t) in
      let e : p.made + 1 ≡ suc p.made = omega arith in
      rw (h, e) (calls_first (numbers_in (first_line t)) p.numbers (line_five (first_line t) h) p.made (line_stands (first_line t) h).is_call_lem)

  -- five numbers a line
  pub parse_long : (n : ℕ) (t : List ℕ) → length (parse ends n t).numbers ≡ (parse ends n t).made * 5
  unfolding parse
  parse_long zero t = refl
  parse_long (suc n) t =
      let l = first_line t in
      case (is_line l)
      (λ h.
      let r = parse_long n (drop (size_of l) t) in
      let five = line_five l h in
      let a = length-append (numbers_in l) (parse ends n (drop (size_of l) t)).numbers in
      rw h (omega arith))
      (λ h. rw h)

  -- a call a line
  pub parse_calls : (n : ℕ) (t : List ℕ) → length (calls_in (parse ends n t).made (parse ends n t).numbers 0) ≡ (parse ends n t).made
  unfolding parse calls_in
  parse_calls zero t = refl
  parse_calls (suc n) t =
      case (is_line (first_line t))
      (λ h.
      let r = parse_calls n (drop (size_of (first_line t)) t) in
      let m : (parse ends (suc n) t).made ≡ (parse ends n (drop (size_of (first_line t)) t)).made + 1 = rw h in
      ap length (parse_first n t h) ∙ omega arith)
      (λ h. rw h)

  -- a line that departs is one of the n
  pub parse_room : (n : ℕ) (t : List ℕ) → (parse ends n t).verdict ≡ 2 → (parse ends n t).made < n
  unfolding parse
  parse_room zero t e = absurd (omega arith)
  parse_room (suc n) t e =
      case (is_line (first_line t))
      (λ h.
      let v : (parse ends n (drop (size_of (first_line t)) t)).verdict ≡ 2 = rw h at e in
      let r = parse_room n (drop (size_of (first_line t)) t) v in
      rw h (omega arith))
      (λ h. rw h (omega arith))

-- behind the lines stands a line that is not decided: it has fewer than 64 bytes
pub open_short : (ends : Bool) (t : List ℕ) → decided ends t ≡ false → length t ≤ 63
open_short ends t h =
    let u = undecided ends t h in
    let e = ap length (first_open t u.0) in
    let k = leb-false 64 (length (first_line t).bytes) u.1 in
    omega arith

pub parse_open : (ends : Bool) (n : ℕ) (t : List ℕ) → (parse ends n t).verdict ≡ 1 → length t ≤ (parse ends n t).end + 63
unfolding parse
parse_open ends zero t e = absurd (omega arith)
parse_open ends (suc n) t e =
    case (is_line (first_line t))
    (λ h.
    let v : (parse ends n (drop (size_of (first_line t)) t)).verdict ≡ 1 = rw h at e in
    let r = parse_open ends n (drop (size_of (first_line t)) t) v in
    let d = length-drop (size_of (first_line t)) t in
    rw h (omega arith))
    (λ h.
    case (decided ends t) (λ u. let v : 2 ≡ 1 = rw (h, u) at e in absurd (omega arith))
    (λ u. let k = open_short ends t u in rw h (omega arith)))
