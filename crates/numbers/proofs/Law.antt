-- The form of a state's text is lawful for what the text has of a state.
use Prim.Native.Nat.{ℕ, suc, ◌+◌, ◌<◌, ◌≤◌}
use native.Mathlib.Omega.{arith}
use mathlib.Core.Bool.{true}
use mathlib.Core.Path.{◌≡◌, refl, sym, ◌∙◌, ap, subst}
use mathlib.Core.List.{List, [], ◌∷◌, map}
use lib.Dec.{ltb, leb}
use lib.ListN.{length, get_or, length-map}
use lib.Seq.{take_all}
use borrow.Author.Tests.{lt-ltb, leb-true}
use Rattle.values.specs.Lists.{all}
use Rattle.values.proofs.Cases.{and_left, and_right}
use Rattle.form.specs.Form.{Field, Form, line, fit_in, put_in}
use Rattle.form.proofs.Back.{separators_no_digits, places_long}
use Rattle.form.proofs.Lawful.{Lawful, Each, lawful_both, lawful_many, line_within}
use Rattle.tlb.specs.Packing.{entries_of}
use Rattle.cache.specs.Packing.{lines_of}
use Rattle.buffer.specs.Packing.{slots_of}
use Rattle.values.specs.Empty.{empty_entry, empty_line, empty_slot}
use Rattle.numbers.specs.Text.{Saved, form}
use Rattle.numbers.specs.Fields.{Head, head_from, empty_head, set_fields, byte_fields, head_fields, entry_fields, line_fields, slot_fields}
use Rattle.numbers.specs.Code.{head_line, entry_line, cache_line, buffer_line}
use Rattle.numbers.proofs.Cells.{cells, part_cells}
use Rattle.numbers.proofs.Heads.{head_wide, cells_all}
use Rattle.numbers.proofs.Entries.{EntryGood, entry_good, entry_wide, entry_fits, entry_back, entries_again}
use Rattle.numbers.proofs.Lines.{LineGood, line_good, line_wide, line_fits, line_back, lines_again}
use Rattle.numbers.proofs.Slots.{SlotGood, slot_wide, slot_fits, slot_back, slots_again}

-- ---- a line

module _ {A : Type 0} where
  -- each field's bound is tested not to be above what its place takes
  bounded : (fields : List (Field A)) → all (λ (f : Field A). leb f.below (f.most + 1)) fields ≡ true
      → Each (λ (f : Field A). f.below ≤ f.most + 1) fields
  unfolding Each all
  bounded [] t = tt
  bounded (f ∷ fs) t =
      let a = leb f.below (f.most + 1) in
      let b = all (λ (g : Field A). leb g.below (g.most + 1)) fs in
      (leb-true f.below (f.most + 1) (and_left a b t), bounded fs (and_right a b t))

  -- a line has as many places as fields
  line_places_lem : (empty : A) (fields : List (Field A)) → length (line empty fields).places ≡ length fields
  line_places_lem empty fields =
      places_long (map (λ (f : Field A). f.most) fields) ∙ length-map fields (λ (f : Field A). f.most)

  -- a line is lawful if its numbers fit, are of their thing, and numbers that fit are those of theirs
  lawful_line : (empty : A) (fields : List (Field A)) (Good : A → Type 0)
      → all (λ (f : Field A). leb f.below (f.most + 1)) fields ≡ true
      → ((a : A) → Good a → (line empty fields).fits ((line empty fields).numbers a) ≡ true)
      → ((a : A) → Good a → (line empty fields).thing ((line empty fields).numbers a) ≡ a)
      → ((ns : List ℕ) → length ns ≡ length (line empty fields).places → (line empty fields).fits ns ≡ true
      → (line empty fields).numbers ((line empty fields).thing ns) ≡ ns)
      → Lawful (line empty fields) Good
  lawful_line empty fields Good b fit back again =
      record {
        fit = fit;
        long = λ a g. length-map fields (λ (f : Field A). f.get a) ∙ sym (line_places_lem empty fields);
        back = back;
        again = again;
        within = λ ns e t. line_within fields ns (bounded fields b) t (e ∙ line_places_lem empty fields);
        no_digits = separators_no_digits (map (λ (f : Field A). f.most) fields);
      }

  -- a lawful form is lawful for fewer things
  pub lawful_as : {f : Form A} {P Q : A → Type 0} → Lawful f P → ((a : A) → Q a → P a) → Lawful f Q
  lawful_as F g =
      record {
        fit = λ a q. F.fit a (g a q);
        long = λ a q. F.long a (g a q);
        back = λ a q. F.back a (g a q);
        again = F.again;
        within = F.within;
        no_digits = F.no_digits;
      }

-- ---- the first line

-- the ranges of a first line whose numbers fit
pub record HeadGood (h : Head) : Type 0 where
  pub control : h.registers.control < 0x100000000
  pub base : h.registers.base < 0x100000000
  pub domains : h.registers.domains < 0x100000000
  pub fsr : h.registers.fsr < 0x100000000
  pub far : h.registers.far < 0x100000000
  pub size : h.size < 0x100000000
  pub pointer : h.pointer < 0x100000000
  pub long : length h.pointers ≡ 16
  pub pointers : (i : ℕ) → get_or h.pointers i 0 < 0x100000000
  pub used : h.used < 0x100000000
  pub calls : h.counts.calls < 0x100000000
  pub misses : h.counts.misses < 0x100000000
  pub hits : h.counts.hits < 0x100000000
  pub fills : h.counts.fills < 0x100000000
  pub halves : h.counts.halves < 0x100000000

-- its numbers fit, and are of that line
head_good_fits : (h : Head) → HeadGood h → head_line.fits (head_line.numbers h) ≡ true
unfolding fit_in set_fields
head_good_fits h g =
    rw (
      low h.registers.control g.control,
      low h.registers.base g.base,
      low h.registers.domains g.domains,
      low h.registers.fsr g.fsr,
      low h.registers.far g.far,
      low h.size g.size,
      low h.pointer g.pointer,
      set 0,
      set 1,
      set 2,
      set 3,
      set 4,
      set 5,
      set 6,
      set 7,
      set 8,
      set 9,
      set 10,
      set 11,
      set 12,
      set 13,
      set 14,
      set 15,
      low h.used g.used,
      low h.counts.calls g.calls,
      low h.counts.misses g.misses,
      low h.counts.hits g.hits,
      low h.counts.fills g.fills,
      low h.counts.halves g.halves,
    )
  where
    low : (n : ℕ) → n < 0x100000000 → ltb n 0x100000000 ≡ true
    low n l = lt-ltb n 0x100000000 l

    set : (i : ℕ) → ltb (get_or h.pointers i 0) 0x100000000 ≡ true
    set i = low (get_or h.pointers i 0) (g.pointers i)

put_back : (h : Head) → head_line.thing (head_line.numbers h)
    ≡ head_from h.registers h.size h.pointer (cells 16 h.pointers 0) h.used h.counts
unfolding set_fields cells put_in
put_back h = refl

head_back_lem : (h : Head) → HeadGood h → head_line.thing (head_line.numbers h) ≡ h
head_back_lem h g =
    put_back h ∙ ap (λ (l : List ℕ). head_from h.registers h.size h.pointer l h.used h.counts) (cells_all h.pointers g.long)

-- numbers are those of the first line that they are of
again_cells : (ns : List ℕ) → head_line.numbers (head_line.thing (cells 29 ns 0)) ≡ cells 29 ns 0
unfolding set_fields cells put_in
again_cells ns = refl

head_again : (ns : List ℕ) → length ns ≡ 29 → head_line.numbers (head_line.thing ns) ≡ ns
head_again ns h =
    let q : ns ≡ cells 29 ns 0 = sym (take_all 29 ns (omega arith)) ∙ part_cells 29 ns 0 (omega arith) in
    subst (λ (l : List ℕ). head_line.numbers (head_line.thing l) ≡ l) (sym q) (again_cells ns)

-- ---- each kind of line

pub head_lawful : Lawful head_line HeadGood
unfolding set_fields all
head_lawful = lawful_line empty_head head_fields HeadGood refl head_good_fits head_back_lem (λ ns e t. head_again ns (e ∙ head_wide))

pub entry_lawful : Lawful entry_line EntryGood
unfolding all
entry_lawful = lawful_line empty_entry entry_fields EntryGood refl entry_fits entry_back (λ ns e t. entries_again ns (e ∙ entry_wide) t)

pub line_lawful : Lawful cache_line LineGood
unfolding all
line_lawful = lawful_line empty_line line_fields LineGood refl line_fits (λ l g. line_back l) (λ ns e t. lines_again ns (e ∙ line_wide) t)

pub slot_lawful : Lawful buffer_line SlotGood
unfolding byte_fields all
slot_lawful = lawful_line empty_slot slot_fields SlotGood refl slot_fits slot_back (λ ns e t. slots_again ns (e ∙ slot_wide))

-- ---- the whole form

-- what a text has of a state whose numbers fit
pub record SavedGood (s : Saved) : Type 0 where
  pub head : HeadGood s.first
  pub entries_long : length s.rest.first ≡ 32
  pub entries : Each EntryGood s.rest.first
  pub lines_long : length s.rest.rest.first ≡ 512
  pub lines : Each LineGood s.rest.rest.first
  pub slots_long : length s.rest.rest.rest ≡ 8
  pub slots : Each SlotGood s.rest.rest.rest

pub form_lawful : Lawful form SavedGood
unfolding form
form_lawful =
    lawful_as
    (lawful_both head_lawful (lawful_both (lawful_many 32 entry_lawful) (lawful_both (lawful_many 512 line_lawful) (lawful_many 8 slot_lawful))))
    (λ s g. (g.head, ((g.entries_long, g.entries), ((g.lines_long, g.lines), (g.slots_long, g.slots)))))

-- ---- the words of a state

-- words of 64 bits stand for entries and lines whose numbers fit
pub entries_good : (ws : List ℕ) → ((i : ℕ) → get_or ws i 0 < 0x10000000000000000) → Each EntryGood (entries_of ws)
unfolding Each
entries_good [] h = tt
entries_good (w ∷ ws) h = (entry_good w (h 0), entries_good ws (λ i. h (suc i)))

pub lines_good : (ws : List ℕ) → ((i : ℕ) → get_or ws i 0 < 0x10000000000000000) → Each LineGood (lines_of ws)
unfolding Each
lines_good [] h = tt
lines_good (w ∷ ws) h = (line_good w (h 0), lines_good ws (λ i. h (suc i)))

-- the same of buffer entries, with sixteen bytes each
pub slots_good : (ws : List ℕ) (bs : List (List ℕ)) → ((i : ℕ) → get_or ws i 0 < 0x10000000000000000)
    → ((i : ℕ) → i < length bs → length (get_or bs i []) ≡ 16) → ((i j : ℕ) → i < length bs → get_or (get_or bs i []) j 0 < 0x100)
    → Each SlotGood (slots_of ws bs)
unfolding Each slots_of
slots_good [] bs h l b = tt
slots_good (w ∷ ws) [] h l b = tt
slots_good (w ∷ ws) (x ∷ bs) h l b =
    let low = h 0 in (
      record { long = l 0 (omega arith); bytes = λ j. b 0 j (omega arith); mask = omega arith; block = omega arith },
      slots_good ws bs (λ i. h (suc i)) (λ i k. l (suc i) (omega arith)) (λ i j k. b (suc i) j (omega arith)),
    )
