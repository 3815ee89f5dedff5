-- The text of a sound state has no more bytes than `longest_text`.
use Prim.Native.Nat.{ℕ, suc, ◌+◌, ◌*◌, ◌/◌, ◌%◌, ◌<◌, ◌≤◌}
use native.Mathlib.Omega.{arith}
use native.Mathlib.Nat.{suc-mul}
use mathlib.Core.Bool.{Bool}
use mathlib.Core.Path.{◌≡◌, sym, ◌∙◌, ap, subst}
use mathlib.Core.List.{List, [], ◌∷◌, ◌++◌}
use lib.Dec.{ltb}
use lib.ListN.{length, get_or, length-append}
use borrow.Author.Tests.{ltb-true, ltb-false}
use Rattle.values.specs.Bits.{number}
use Rattle.values.specs.Control.{kept}
use Rattle.values.specs.Empty.{empty_entry, empty_line, empty_slot}
use Rattle.values.specs.declared.Entry.{Entry}
use Rattle.values.specs.declared.Line.{Line}
use Rattle.values.specs.declared.Slot.{Slot}
use Rattle.values.proofs.Cases.{case, number_low}
use Rattle.machine.specs.Machine.{Machine, memory_of}
use Rattle.soundness_test.specs.Formed.{Formed}
use Rattle.soundness_test.specs.Meaning.{IsSound, lines_of, slots_of, used_of, entry_at, line_at, slot_at}
use Rattle.soundness_laws.proofs.Reader.{sound_means}
use Rattle.printed.specs.Printed.{decimal}
use Rattle.printed.proofs.Decimal.{tens, decimal_short}
use Rattle.form.specs.Texts.{Place, text_by}
use Rattle.form.specs.Form.{Form, each_numbers}
use Rattle.form.specs.Code.{text_size}
use Rattle.numbers.specs.Fields.{Head}
use Rattle.numbers.specs.Text.{form, saved_of, text_of}
use Rattle.numbers.specs.Code.{head_line, entry_line, cache_line, buffer_line}
use Rattle.numbers.proofs.Heads.{head_front, head_back, head_numbers}
use Rattle.numbers.proofs.Slots.{slot_numbers_are, bytes_are}
use Rattle.numbers.proofs.Whole.{form_numbers}
use Rattle.text_terms.specs.Longest.{LongestText}

-- ---- the size of numbers

-- a text has no more bytes than its numbers take
text_most : (ps : List Place) (ns : List ℕ) → length (text_by ps ns) ≤ text_size ns
unfolding text_by text_size
text_most [] ns = omega arith
text_most (p ∷ ps) [] = omega arith
text_most (p ∷ ps) (n ∷ ns) =
    let r = text_most ps ns in let e = length-append (decimal n) (p.behind ∷ text_by ps ns) in omega arith

-- numbers behind numbers
size_append : (xs ys : List ℕ) → text_size (xs ++ ys) ≡ text_size xs + text_size ys
unfolding text_size
size_append [] ys = omega arith
size_append (x ∷ xs) ys = let r = size_append xs ys in omega arith

-- numbers of at most d digits each
same_size : (d : ℕ) (ns : List ℕ) → ((i : ℕ) → i < length ns → length (decimal (get_or ns i 0)) ≤ d) → text_size ns ≤ length ns * (d + 1)
unfolding text_size
same_size d [] h = omega arith
same_size d (n ∷ ns) h =
    let a : length (decimal n) ≤ d = h 0 (omega arith) in
    let r = same_size d ns (λ i k. h (suc i) (omega arith)) in
    let e = suc-mul (length ns) (d + 1) in
    omega arith

-- lines of at most w bytes each
lines_size : {A : Type 0} (f : Form A) (w : ℕ) (d : A) (xs : List A) → ((i : ℕ) → i < length xs → text_size (f.numbers (get_or xs i d)) ≤ w)
    → text_size (each_numbers f xs) ≤ length xs * w
unfolding text_size each_numbers
lines_size f w d [] h = omega arith
lines_size f w d (x ∷ xs) h =
    let a : text_size (f.numbers x) ≤ w = h 0 (omega arith) in
    let r = lines_size f w d xs (λ i k. h (suc i) (omega arith)) in
    let s = size_append (f.numbers x) (each_numbers f xs) in
    let e = suc-mul (length xs) w in
    omega arith

-- ---- digits

-- the digits of a number below 10, below 100, and of 32 bits
one : (n : ℕ) → n < 10 → length (decimal n) ≤ 1
unfolding tens
one n h = decimal_short 0 n h

two : (n : ℕ) → n < 100 → length (decimal n) ≤ 2
unfolding tens
two n h = decimal_short 1 n h

ten : (n : ℕ) → n < 0x100000000 → length (decimal n) ≤ 10
unfolding tens
ten n h = decimal_short 9 n (omega arith)

-- a bit has one
flag : (b : Bool) → length (decimal (number b)) ≤ 1
flag b = let l = number_low b in one (number b) (omega arith)

-- ---- the first line

-- the ranges that bound its digits
record HeadShort (h : Head) : Type 0 where
  control : h.registers.control < 10000
  base : h.registers.base < 0x100000000
  domains : h.registers.domains < 0x100000000
  fsr : h.registers.fsr < 1000
  far : h.registers.far < 0x100000000
  size : h.size < 100000000
  pointer : h.pointer < 100
  long : length h.pointers ≡ 16
  pointers : (i : ℕ) → get_or h.pointers i 0 < 100
  used : h.used < 10
  calls : h.counts.calls < 0x100000000
  misses : h.counts.misses < 0x100000000
  hits : h.counts.hits < 0x100000000
  fills : h.counts.fills < 0x100000000
  halves : h.counts.halves < 0x100000000

module _ (h : Head) (g : HeadShort h) where
  -- the fields before the set pointers
  front_size : text_size (head_front h) ≤ 54
  unfolding text_size tens
  front_size =
      omega (
        arith,
        decimal_short 3 h.registers.control g.control,
        ten h.registers.base g.base,
        ten h.registers.domains g.domains,
        decimal_short 2 h.registers.fsr g.fsr,
        ten h.registers.far g.far,
        decimal_short 7 h.size g.size,
        two h.pointer g.pointer,
      )

  -- the fields behind them
  back_size : text_size (head_back h) ≤ 57
  unfolding text_size
  back_size =
      omega (
        arith,
        one h.used g.used,
        ten h.counts.calls g.calls,
        ten h.counts.misses g.misses,
        ten h.counts.hits g.hits,
        ten h.counts.fills g.fills,
        ten h.counts.halves g.halves,
      )

  -- all of its fields
  head_size : text_size (head_line.numbers h) ≤ 159
  head_size =
      let a = front_size in
      let b = same_size 2 h.pointers (λ i k. two (get_or h.pointers i 0) (g.pointers i)) in
      let c = back_size in
      let l = g.long in
      let e = ap text_size (head_numbers h g.long) in
      let s = size_append (head_front h) (h.pointers ++ head_back h) in
      let t = size_append h.pointers (head_back h) in
      omega arith

-- ---- a TLB line

-- the ranges that bound its digits
record EntryShort (e : Entry) : Type 0 where
  size : e.size < 10
  vbase : e.vbase < 0x100000000
  pbase : e.pbase < 0x100000000
  domain : e.domain < 100

-- its size
entry_size : (e : Entry) → EntryShort e → text_size (entry_line.numbers e) ≤ 41
unfolding text_size
entry_size e g =
    omega (
      arith,
      flag e.valid,
      one e.size g.size,
      ten e.vbase g.vbase,
      ten e.pbase g.pbase,
      two e.domain g.domain,
      one (e.aps / 1 % 4) (omega arith),
      one (e.aps / 4 % 4) (omega arith),
      one (e.aps / 16 % 4) (omega arith),
      one (e.aps / 64 % 4) (omega arith),
      flag e.cacheable,
      flag e.bufferable,
    )

-- ---- a cache line

-- the ranges that bound its digits
record LineShort (l : Line) : Type 0 where
  tag : l.tag < 10000000
  frame : l.frame < 1000000

-- its size
line_size : (l : Line) → LineShort l → text_size (cache_line.numbers l) ≤ 21
unfolding text_size tens
line_size l g =
    omega (arith, decimal_short 6 l.tag g.tag, decimal_short 5 l.frame g.frame, flag l.valid, flag l.low, flag l.high)

-- ---- a buffer line

-- the ranges that bound its digits
record SlotShort (s : Slot) : Type 0 where
  long : length s.bytes ≡ 16
  bytes : (i : ℕ) → i < length s.bytes → get_or s.bytes i 0 < 1000
  mask : s.mask < 100000
  block : s.block < 10000000

-- the fields behind the bytes
behind_size : (s : Slot) → SlotShort s → text_size (s.mask ∷ s.block ∷ []) ≤ 14
unfolding text_size tens
behind_size s g = omega (arith, decimal_short 4 s.mask g.mask, decimal_short 6 s.block g.block)

-- its size
slot_size : (s : Slot) → SlotShort s → text_size (buffer_line.numbers s) ≤ 78
unfolding tens
slot_size s g =
    let a = same_size 3 s.bytes (λ i k. decimal_short 2 (get_or s.bytes i 0) (g.bytes i k)) in
    let b = behind_size s g in
    let l = g.long in
    let e =
    ap text_size (slot_numbers_are s ∙ ap (λ (x : List ℕ). x ++ s.mask ∷ s.block ∷ []) (bytes_are s.bytes g.long))
    in
    let t = size_append s.bytes (s.mask ∷ s.block ∷ []) in
    omega arith

-- ---- a sound state

module _ (m : Machine) (f : Formed m) (s : IsSound m) where
  -- control has bits 0 to 3, 8, 9 and 12 alone
  control_short : m.cp15.registers.control < 10000
  unfolding kept
  control_short = let e = s.control in omega arith

  -- the first line, with the memory that the state was started with
  head_short : m.size ≡ length (memory_of m) → m.counts.calls < 0x100000000 → HeadShort (saved_of m).first
  head_short e c =
      let memory = f.memory_short in
      let pointer = s.pointer in
      let used = s.used in
      let fsr = s.fsr in
      let misses = s.misses in
      let hits = s.hits in
      let fills = s.fills in
      let halves = s.halves in
      record {
        control = control_short;
        base = s.base_low;
        domains = s.domains;
        fsr = omega arith;
        far = s.far;
        size = omega arith;
        pointer = omega arith;
        long = f.pointers_long;
        pointers = λ i. let p = s.pointers i in omega arith;
        used = omega arith;
        calls = c;
        misses = omega arith;
        hits = omega arith;
        fills = omega arith;
        halves = omega arith;
      }

  -- an entry is in range, or all zeros
  entry_short : (i : ℕ) → EntryShort (entry_at m i)
  entry_short i =
      case (entry_at m i).valid
      (λ v. let size = s.entry_size i v in
      let domain = s.entry_domain i v in
      record { size = omega arith; vbase = s.entry_vbase_low i v; pbase = s.entry_pbase_low i v; domain = omega arith })
      (λ v. subst EntryShort (sym (s.entry_empty_lem i v)) (record { size = omega arith; vbase = omega arith; pbase = omega arith; domain = omega arith }))

  -- a line lies inside memory, or is all zeros
  line_short : (i : ℕ) → LineShort (line_at m i)
  line_short i =
      let memory = f.memory_short in
      case (line_at m i).valid
      (λ v. let tag = s.line_tag i v in let inside = s.line_inside i v in record { tag = omega arith; frame = omega arith })
      (λ v. subst LineShort (sym (s.line_empty_lem i v)) (record { tag = omega arith; frame = omega arith }))

  -- a buffer entry lies inside memory, and the numbers of an empty place are 0
  slot_short : (i : ℕ) → i < length (slots_of m) → SlotShort (slot_at m i)
  slot_short i k =
      let memory = f.memory_short in
      let ranges : ((slot_at m i).mask < 100000) × ((slot_at m i).block < 10000000) =
      case (ltb i (used_of m))
      (λ t. let l = ltb-true i (used_of m) t in
      let mask = s.mask_low i l k in
      let inside = s.slot_inside i l k in
      (omega arith, omega arith))
      (λ t. let l = ltb-false i (used_of m) t in let mask = s.slot_mask i l in let block = s.slot_block i l in (omega arith, omega arith))
      in
      record {
        long = f.slot_long i;
        bytes = λ j h. let b = f.slot_bytes i j h in omega arith;
        mask = ranges.0;
        block = ranges.1;
      }

-- no text of a sound state is longer than `longest_text`
pub longest_text_lem : LongestText
unfolding text_of
longest_text_lem m f t e c =
    let s = sound_means m f.lines_long t in
    let H = head_line.numbers (saved_of m).first in
    let E = each_numbers entry_line m.entries in
    let L = each_numbers cache_line (lines_of m) in
    let S = each_numbers buffer_line (slots_of m) in
    let head = head_size (saved_of m).first (head_short m f s e (omega arith)) in
    let entries = lines_size entry_line 41 empty_entry m.entries (λ i k. entry_size (entry_at m i) (entry_short m f s i)) in
    let lines = lines_size cache_line 21 empty_line (lines_of m) (λ i k. line_size (line_at m i) (line_short m f s i)) in
    let slots = lines_size buffer_line 78 empty_slot (slots_of m) (λ i k. slot_size (slot_at m i) (slot_short m f s i k)) in
    let el = f.entries_long in
    let ll = f.lines_long in
    let sl = f.slots_long in
    let most = text_most form.places (form.numbers (saved_of m)) in
    let all = ap text_size (form_numbers (saved_of m)) in
    let a = size_append H (E ++ (L ++ S)) in
    let b = size_append E (L ++ S) in
    let d = size_append L S in
    omega arith
