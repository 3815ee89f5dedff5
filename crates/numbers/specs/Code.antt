-- What the code has of places: the words that stand for them, and the numbers that it is lent.
use Rattle.std.specs.Prelude.{ℕ, zero, suc, ◌+◌, ◌*◌, ◌%◌, ◌<◌, Bool, true, false, ◌≡◌, List, [], ◌++◌, map, length, get_or, take, drop}
use Rattle.values.specs.Empty.{empty_entry, empty_line}
use Rattle.values.specs.declared.Line.{Line}
use Rattle.values.specs.declared.Slot.{Slot}
use Rattle.form.specs.Form.{Form, pair, each_fits, each_thing}
use Rattle.tlb.specs.Packing.{entries_of}
use Rattle.cache.specs.Packing.{lines_of}
use Rattle.buffer.specs.Packing.{slots_of}
use Rattle.walk.specs.Ranges.{InRange}
use Rattle.values.specs.declared.Cp15.{Cp15}
use Rattle.values.specs.declared.Counts.{Counts}
use Rattle.numbers.specs.Text.{Saved, form}
pub use Rattle.numbers.specs.Text.{head_line, entry_line, cache_line, buffer_line}
use Rattle.numbers.specs.declared.Head as code
use Rattle.numbers.specs.Fields.{Head, head_from}

-- the numbers of a line, n of those lent, from a place on
abbrev pub part : List ℕ → ℕ → ℕ → List ℕ
part ns from n = take n (drop from ns)

-- n rows, one behind another, from row i on
unfoldable pub rows_from : (ℕ → List ℕ) → ℕ → ℕ → List ℕ
rows_from rows i zero = []
rows_from rows i (suc n) = rows i ++ rows_from rows (i + 1) n

-- Whether n rows stand in a list from a place on, each of `width` numbers: where they do, the numbers of each row are so, and where not, a row's are not.
pub record RowsSame (ns : List ℕ) (from width n : ℕ) (IsRow : ℕ → List ℕ → Type 0) (all : Bool) : Type 0 where
  pub same : all ≡ true → (i : ℕ) → i < n → IsRow i (part ns (from + i * width) width)
  pub differs : all ≡ false → (i : ℕ) × (row : List ℕ) × (i < n) × IsRow i row × (part ns (from + i * width) width ≡ row → ⊥)

-- the low bytes of sixteen numbers
abbrev pub low_bytes : List ℕ → ℕ → List ℕ
low_bytes ns from = map (λ (n : ℕ). n % 0x100) (part ns from 16)

-- Numbers read as things: those that they are of, where all fit and each thing holds what its word can stand for.
pub record ThingsRead {A : Type 0} (f : Form A) (Holds : A → Type 0) (d : A) (n : ℕ) (ns : List ℕ) (things : List A) (fit : Bool) : Type 0 where
  pub same : fit ≡ true → things ≡ each_thing f n ns
  pub fits : fit ≡ true → each_fits f n ns ≡ true
  pub unfit : fit ≡ false → each_fits f n ns ≡ true → ((i : ℕ) → i < n → Holds (get_or (each_thing f n ns) i d)) → ⊥

-- the word of the thing that numbers are of, where they fit and the thing holds what a word can stand for
pub record Packs {A : Type 0} (f : Form A) (Holds : A → Type 0) (pack : A → ℕ) (ns : List ℕ) (word : ℕ) : Type 0 where
  pub same : f.fits ns ≡ true → Holds (f.thing ns) → word ≡ pack (f.thing ns)

-- what the word of a line can stand for: a physical line number of 29 bits
abbrev pub LineHolds : Line → Type 0
LineHolds l = l.frame < 0x20000000

-- the word and the bytes of a buffer entry can stand for any numbers that fit
abbrev pub SlotHolds : Slot → Type 0
SlotHolds s = Unit {0}

-- the lists of a state have their lengths, as their types in code say
pub record Lengths (entries lines pointers words : List ℕ) (bytes : List (List ℕ)) : Type 0 where
  pub entries_long : length entries ≡ 32
  pub lines_long : length lines ≡ 512
  pub pointers_long : length pointers ≡ 16
  pub words_long : length words ≡ 8
  pub bytes_long : length bytes ≡ 8

-- what a text has of a state and a record, by the code's lists
abbrev pub saved_in : Cp15 → ℕ → Counts → ℕ → List ℕ → List ℕ → List ℕ → List ℕ → List (List ℕ) → Saved
saved_in r size counts used entries lines pointers words bytes =
    pair (head_from r.registers size r.pointer pointers used counts)
    (pair (entries_of entries) (pair (lines_of lines) (slots_of words bytes)))

abbrev pub head_of : code.Head → List ℕ → Head
head_of h pointers = head_from h.cp15.registers h.size h.cp15.pointer pointers h.used h.counts

abbrev pub saved_by : code.Head → List ℕ → List ℕ → List ℕ → List ℕ → List (List ℕ) → Saved
saved_by h entries lines pointers words bytes = saved_in h.cp15 h.size h.counts h.used entries lines pointers words bytes

-- entries are in range and physical line numbers have 29 bits, as in a sound state: words stand for them
pub record AllHold (s : Saved) : Type 0 where
  pub entries_hold : (i : ℕ) → i < 32 → InRange (get_or s.rest.first i empty_entry)
  pub lines_hold : (i : ℕ) → i < 512 → LineHolds (get_or s.rest.rest.first i empty_line)

-- numbers read as what a text has
pub record AllRead (ns : List ℕ) (s : Saved) : Type 0 where
  pub same : s ≡ form.thing ns
  pub fits : form.fits ns ≡ true

-- a number does not fit, or an entry or a line is not as in a sound state
abbrev pub Unfit : List ℕ → Type 0
Unfit ns = form.fits ns ≡ true → AllHold (form.thing ns) → ⊥
