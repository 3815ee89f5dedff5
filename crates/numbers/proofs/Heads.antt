-- The first line: its numbers, and what numbers are of.
use Prim.Native.Nat.{ℕ, ◌+◌, ◌<◌, ◌≤◌}
use native.Mathlib.Omega.{arith}
use mathlib.Core.Bool.{true}
use mathlib.Core.Path.{◌≡◌, refl, sym, ◌∙◌, ap}
use mathlib.Core.List.{List, [], ◌∷◌, ◌++◌, append_assoc, append-nil}
use lib.Dec.{ltb}
use lib.ListN.{length, get_or, drop, length-append}
use lib.Seq.{take_all, drop-length}
use borrow.Author.Tests.{lt-ltb}
use Rattle.values.specs.Registers.{registers_from, cp15_from}
use Rattle.values.specs.Counts.{counts_from}
use Rattle.values.specs.declared.Registers.{Registers}
use Rattle.values.specs.declared.Cp15.{Cp15}
use Rattle.values.specs.declared.Counts.{Counts}
use Rattle.printed.specs.Code.{over}
use Rattle.printed.proofs.Laying.{over_then}
use Rattle.form.specs.Form.{fit_in, put_in}
use Rattle.form.specs.Texts.{line_places}
use Rattle.numbers.specs.Fields.{Head, head_from, set_fields}
use Rattle.numbers.specs.Code.{head_line, part}
use Rattle.numbers.proofs.Cells.{cells, part_cells}

pub head_wide : length head_line.places ≡ 29
unfolding line_places set_fields
head_wide = refl

-- what stands before and behind the pointers of the sets
abbrev pub head_front : Head → List ℕ
head_front h =
    h.registers.control ∷ h.registers.base ∷ h.registers.domains ∷ h.registers.fsr ∷ h.registers.far ∷ h.size ∷ h.pointer ∷ []

abbrev pub head_back : Head → List ℕ
head_back h = h.used ∷ h.counts.calls ∷ h.counts.misses ∷ h.counts.hits ∷ h.counts.fills ∷ h.counts.halves ∷ []

pub cells_all : (l : List ℕ) → length l ≡ 16 → cells 16 l 0 ≡ l
cells_all l h = sym (part_cells 16 l 0 (omega arith)) ∙ take_all 16 l (omega arith)

in_cells : (h : Head) → head_line.numbers h ≡ head_front h ++ (cells 16 h.pointers 0 ++ head_back h)
unfolding set_fields cells
in_cells h = refl

-- the numbers of the first line
pub head_numbers : (h : Head) → length h.pointers ≡ 16 → head_line.numbers h ≡ head_front h ++ (h.pointers ++ head_back h)
head_numbers h long = in_cells h ∙ ap (λ (l : List ℕ). head_front h ++ (l ++ head_back h)) (cells_all h.pointers long)

pub head_long : (h : Head) → length (head_line.numbers h) ≡ 29
unfolding set_fields
head_long h = refl

-- ---- laid

-- numbers laid behind numbers at the front
pub over_after : (o p q xs ys : List ℕ) (k : ℕ) → length xs ≡ k → k ≤ length o → p ≡ over o 0 xs → q ≡ over p k ys → q ≡ over o 0 (xs ++ ys)
over_after o p q xs ys k h room e f =
    let z : 0 + length xs ≡ k = omega arith in
    f ∙ ap (λ (l : List ℕ). over l k ys) e ∙ ap (λ (j : ℕ). over (over o 0 xs) j ys) (sym z) ∙ over_then o 0 xs ys (omega arith)

-- a list of all the length is the list itself
pub over_all : (o xs : List ℕ) → length xs ≡ length o → over o 0 xs ≡ xs
over_all o xs h =
    let z : 0 + length xs ≡ length o = omega arith in
    ap (λ (j : ℕ). xs ++ drop j o) z ∙ ap (λ (l : List ℕ). xs ++ l) (drop-length o) ∙ append-nil xs

-- four parts of the lengths that the kinds of lines have, laid one behind another over all of a list
pub four_laid : (o p q r t a b c d : List ℕ) → length o ≡ 3085 → length a ≡ 29 → length b ≡ 352 → length c ≡ 2560 → length d ≡ 144
    → p ≡ over o 0 a → q ≡ over p 29 b → r ≡ over q 381 c → t ≡ over r 2941 d → t ≡ a ++ (b ++ (c ++ d))
four_laid o p q r t a b c d long al bl cl dl e f g h =
    let x1 = over_after o p q a b 29 al (omega arith) e f in
    let l1 = length-append a b in
    let x2 = over_after o q r (a ++ b) c 381 (omega arith) (omega arith) x1 g in
    let l2 = length-append (a ++ b) c in
    let x3 = over_after o r t (a ++ b ++ c) d 2941 (omega arith) (omega arith) x2 h in
    let l3 = length-append (a ++ b ++ c) d in
    x3 ∙ over_all o (a ++ b ++ c ++ d) (omega arith) ∙ append_assoc (a ++ b) c d ∙ append_assoc a b (c ++ d)

-- the three parts of the first line
pub head_laid : (o p q r : List ℕ) (h : Head) → length o ≡ 3085 → length h.pointers ≡ 16 → p ≡ over o 0 (head_front h) → q ≡ over p 7 h.pointers
    → r ≡ over q 23 (head_back h) → r ≡ over o 0 (head_line.numbers h)
head_laid o p q r h long sets e f g =
    let a = over_after o p q (head_front h) h.pointers 7 refl (omega arith) e f in
    let l = length-append (head_front h) h.pointers in
    let b = over_after o q r (head_front h ++ h.pointers) (head_back h) 23 (omega arith) (omega arith) a g in
    b ∙ ap (λ (l : List ℕ). over o 0 l) (append_assoc (head_front h) h.pointers (head_back h) ∙ sym (head_numbers h sets))

-- ---- read

head_is : (ns : List ℕ) → head_line.thing (cells 29 ns 0)
    ≡ head_from (registers_from (get_or ns 0 0) (get_or ns 1 0) (get_or ns 2 0) (get_or ns 3 0) (get_or ns 4 0)) (get_or ns 5 0) (get_or ns 6 0) (cells 16 ns 7)
    (get_or ns 23 0) (counts_from (get_or ns 24 0) (get_or ns 25 0) (get_or ns 26 0) (get_or ns 27 0) (get_or ns 28 0))
unfolding set_fields cells put_in
head_is ns = refl

-- the head of numbers, by what the code makes of them
pub head_read : (ns pointers : List ℕ) (registers : Registers) (cp15 : Cp15) (counts : Counts) → 29 ≤ length ns
    → registers ≡ registers_from (get_or ns 0 0) (get_or ns 1 0) (get_or ns 2 0) (get_or ns 3 0) (get_or ns 4 0) → cp15 ≡ cp15_from registers (get_or ns 6 0)
    → counts ≡ counts_from (get_or ns 24 0) (get_or ns 25 0) (get_or ns 26 0) (get_or ns 27 0) (get_or ns 28 0) → pointers ≡ part ns 7 16
    → head_from cp15.registers (get_or ns 5 0) cp15.pointer pointers (get_or ns 23 0) counts ≡ head_line.thing (part ns 0 29)
head_read ns pointers registers cp15 counts h e f g p =
    let q : pointers ≡ cells 16 ns 7 = p ∙ part_cells 16 ns 7 (omega arith) in
    rw (f, e, g, q) (sym (head_is ns)) ∙ ap (λ (l : List ℕ). head_line.thing l) (sym (part_cells 29 ns 0 (omega arith)))

-- numbers of 32 bits fit the first line
cells_fit : (ns : List ℕ) → ((k : ℕ) → get_or ns k 0 < 0x100000000) → head_line.fits (cells 29 ns 0) ≡ true
unfolding set_fields cells fit_in
cells_fit ns h =
    rw (
      low 0,
      low 1,
      low 2,
      low 3,
      low 4,
      low 5,
      low 6,
      low 7,
      low 8,
      low 9,
      low 10,
      low 11,
      low 12,
      low 13,
      low 14,
      low 15,
      low 16,
      low 17,
      low 18,
      low 19,
      low 20,
      low 21,
      low 22,
      low 23,
      low 24,
      low 25,
      low 26,
      low 27,
      low 28,
    )
  where
    low : (k : ℕ) → ltb (get_or ns k 0) 0x100000000 ≡ true
    low k = lt-ltb (get_or ns k 0) 0x100000000 (h k)

pub head_fits : (ns : List ℕ) → 29 ≤ length ns → ((k : ℕ) → get_or ns k 0 < 0x100000000) → head_line.fits (part ns 0 29) ≡ true
head_fits ns room h = ap (λ (l : List ℕ). head_line.fits l) (part_cells 29 ns 0 (omega arith)) ∙ cells_fit ns h
