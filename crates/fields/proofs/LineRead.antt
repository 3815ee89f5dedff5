-- A line read as a call: each return of the function that reads it.
use Prim.Native.Nat.{ℕ, ◌+◌, ◌*◌, ◌-◌, ◌≤◌, ◌<◌}
use native.Mathlib.Omega.{arith}
use native.Mathlib.Nat.{add-zero}
use mathlib.Core.Bool.{Bool, true, false, ◌&&◌, and_assoc}
use mathlib.Core.Path.{◌≡◌, refl, sym, ◌∙◌, ap}
use mathlib.Core.List.{List, ◌++◌, append_assoc}
use lib.Dec.{eqb, leb}
use lib.ListN.{length, get_or, take, drop, length-map, get_or-append}
use lib.Seq.{sets, sets-eq, length-take-le, get_or-append-add}
use borrow.Author.Tests.{eqb-true, lt-leb, le-leb}
use Rattle.std.specs.Prelude.{Some, None}
use Rattle.values.specs.Lists.{all}
use Rattle.values.proofs.Cases.{and_left, and_right, and_both, and-false, clash}
use Rattle.trace.specs.Calls.{is_call}
use Rattle.fields.specs.Lines.{Line, fields_of, value_of, is_field, numbers_in, is_text_call_at, is_line}
use Rattle.fields.specs.Parse.{first_line, size_of}
use Rattle.fields.specs.Code.{LineRead}
use Rattle.fields.proofs.Scan.{scan, Scanning, scanned_good, scanned_numbers, scanned_size}
use Rattle.fields.proofs.Means.{fields_test, means}

-- a line that ends, has five fields, is short and is a call
line_is_lem : (l : Line) → is_line l ≡ (fields_test 5 l && (leb (length l.bytes + 1) 64 && is_text_call_at (numbers_in l) 0))
unfolding is_line
line_is_lem l =
    by l.ended (leb (length l.bytes + 1) 64) (eqb (length (fields_of l.bytes)) 5) (all is_field (fields_of l.bytes))
    (is_text_call_at (numbers_in l) 0)
  where
    by : (a b c d e : Bool) → (a && (b && (c && (d && e)))) ≡ (a && (c && d) && (b && e))
    by true true c d e = sym (and_assoc c d e)
    by true false c d e = sym (and-false (c && d) false refl)
    by false b c d e = refl

-- numbers laid into a list stand there
laid_at : (l vs : List ℕ) (i j : ℕ) → i + length vs ≤ length l → j < length vs → get_or (sets l i vs) (i + j) 0 ≡ get_or vs j 0
laid_at l vs i j h k =
    let e : length (take i l) ≡ i = length-take-le i l (omega arith) in
    ap (λ (x : List ℕ). get_or x (i + j) 0) (sets-eq vs l i h ∙ append_assoc (take i l) vs (drop (i + length vs) l))
    ∙ ap (λ (n : ℕ). get_or (take i l ++ (vs ++ drop (i + length vs) l)) (n + j) 0) (sym e)
    ∙ get_or-append-add (take i l) (vs ++ drop (i + length vs) l) j 0 ∙ get_or-append vs (drop (i + length vs) l) 0 j k

call_laid : (l vs : List ℕ) (k : ℕ) → k * 5 + 5 ≤ length l → length vs ≡ 5 → is_text_call_at (sets l (k * 5) vs) k ≡ is_text_call_at vs 0
call_laid l vs k h e =
    let a : get_or (sets l (k * 5) vs) (k * 5) 0 ≡ get_or vs 0 0 =
    ap (λ (n : ℕ). get_or (sets l (k * 5) vs) n 0) (sym (add-zero (k * 5))) ∙ laid_at l vs (k * 5) 0 (omega arith) (omega arith)
    in
    let b : get_or (sets l (k * 5) vs) (k * 5 + 1) 0 ≡ get_or vs 1 0 = laid_at l vs (k * 5) 1 (omega arith) (omega arith) in
    ap (λ (n : ℕ). is_call n (get_or (sets l (k * 5) vs) (k * 5 + 1) 0) && leb n 4) a
    ∙ ap (λ (n : ℕ). is_call (get_or vs 0 0) n && leb (get_or vs 0 0) 4) b

module _ (text calls₀ : List ℕ) (from k : ℕ) (calls : List ℕ) (front : take (k * 5) calls ≡ take (k * 5) calls₀) where
  abbrev l : Line
  l = first_line (drop from text)

  departs_so : is_line l ≡ false → LineRead (drop from text) calls₀ calls k None
  departs_so e = record { sized = sym (rw e); read = λ y. clash y e; front = front }

  pub read_bad : (scan 5 (drop from text)).good ≡ false → LineRead (drop from text) calls₀ calls k None
  read_bad e = departs_so (line_is_lem l ∙ rw (sym (means 4 (drop from text)).good ∙ e))

module _ (text calls₀ : List ℕ) (from k : ℕ) (calls : List ℕ) (at i : ℕ) (g : Scanning text calls₀ from k calls at i) (h : 5 ≤ i) where
  abbrev first : Line
  first = first_line (drop from text)

  fields_read : (scan 5 (drop from text)).good ≡ true
  fields_read = scanned_good text calls₀ from k calls at i g h

  numbers_read : (scan 5 (drop from text)).numbers ≡ numbers_in first
  numbers_read = ((means 4 (drop from text)).read fields_read).0

  size_read : at ≡ from + size_of first
  size_read = scanned_size text calls₀ from k calls at i g h ∙ ap (λ (n : ℕ). from + n) ((means 4 (drop from text)).read fields_read).1

  calls_read_lem : calls ≡ sets calls₀ (k * 5) (numbers_in first)
  calls_read_lem = scanned_numbers text calls₀ from k calls at i g h ∙ ap (sets calls₀ (k * 5)) numbers_read

  test_read : fields_test 5 first ≡ true
  test_read = sym (means 4 (drop from text)).good ∙ fields_read

  five : length (numbers_in first) ≡ 5
  five =
      length-map (fields_of first.bytes) value_of
      ∙ eqb-true (length (fields_of first.bytes)) 5
      (and_left (eqb (length (fields_of first.bytes)) 5) (all is_field (fields_of first.bytes))
      (and_right first.ended (eqb (length (fields_of first.bytes)) 5 && all is_field (fields_of first.bytes)) test_read))

  line_then : is_line first ≡ (leb (length first.bytes + 1) 64 && is_text_call_at (numbers_in first) 0)
  line_then = line_is_lem first ∙ rw test_read

  pub read_long : 64 < at - from → LineRead (drop from text) calls₀ calls k None
  read_long w =
      let e = size_read in
      departs_so text calls₀ from k calls g.front (line_then ∙ rw (lt-leb (length first.bytes + 1) 64 (omega arith)))

  module _ (room : k * 5 + 5 ≤ length calls₀) where
    call_read : is_text_call_at calls k ≡ is_text_call_at (numbers_in first) 0
    call_read = ap (λ (x : List ℕ). is_text_call_at x k) calls_read_lem ∙ call_laid calls₀ (numbers_in first) k room five

    pub read_no_call : is_text_call_at calls k ≡ false → LineRead (drop from text) calls₀ calls k None
    read_no_call z =
        departs_so text calls₀ from k calls g.front
        (line_then ∙ and-false (leb (length first.bytes + 1) 64) (is_text_call_at (numbers_in first) 0) (sym call_read ∙ z))

    pub read_whole : at - from ≤ 64 → is_text_call_at calls k ≡ true → LineRead (drop from text) calls₀ calls k (Some (at - from))
    read_whole w y =
        let e = size_read in
        let t : is_line first ≡ true =
        line_then ∙ and_both (leb (length first.bytes + 1) 64) (is_text_call_at (numbers_in first) 0) (le-leb (length first.bytes + 1) 64 (omega arith))
        (sym call_read ∙ y)
        in
        let s : at - from ≡ size_of first = omega arith in
        record { sized = ap Some s ∙ sym (rw t); read = λ x. calls_read_lem; front = g.front }
