-- "Physical memory begins at address 0": what answers on the bus, and which words abort. Document 02, Five: bad words, and how far a fill reads.
use Rattle.std.specs.Prelude.{ℕ, zero, suc, ◌+◌, ◌*◌, ◌/◌, Bool, false, ◌||◌, List, eqb, ltb, length, get_or, replicate}
use Rattle.values.specs.Addresses.{word_of, word_in_line, word_of_line}
use Rattle.values.specs.declared.PhysicalAddress.{PhysicalAddress}

-- physical memory: the byte at address a is element a of `bytes`; `bad` is the map
pub record Physical : Type 0 where
  pub bytes : List ℕ
  pub bad : List ℕ

abbrev pub physical : List ℕ → List ℕ → Physical
physical bytes bad = record { bytes = bytes; bad = bad }

-- "outside memory": the word of an address does not lie inside
abbrev pub outside : Physical → PhysicalAddress → Bool
outside m pa = ltb (length m.bytes) (word_of pa * 4 + 4)

-- "A map is lent with one byte a word, 1 for a word that aborts": word w of a map is bad
unfoldable pub is_bad : List ℕ → ℕ → Bool
is_bad bad w = eqb (get_or bad w 0) 1

-- the map of a memory of which no word is bad
abbrev pub no_bad_words : List ℕ → List ℕ
no_bad_words memory = replicate (length memory / 4) 0

-- The word of an address aborts: it lies outside memory, or it is bad. Walks, loads, fills, unbuffered stores and swaps that miss ask it, and every access
-- of the plain machine; a buffered store asks `outside`. No access crosses a word.
unfoldable pub aborts : Physical → PhysicalAddress → Bool
aborts m pa = outside m pa || is_bad m.bad (word_of pa)

-- one of the first n words of an address's line aborts
unfoldable pub aborts_within : Physical → PhysicalAddress → ℕ → Bool
aborts_within m pa zero = false
aborts_within m pa (suc n) = aborts_within m pa n || aborts m (word_of_line pa n)

-- "A fill reads from the line's first word upward." "An abort at or before the wanted word", the one of the address
abbrev pub wanted_aborts : Physical → PhysicalAddress → Bool
wanted_aborts m pa = aborts_within m pa (word_in_line pa + 1)

-- an abort at any of its eight words
abbrev pub line_aborts : Physical → PhysicalAddress → Bool
line_aborts m pa = aborts_within m pa 8
