-- A write buffer entry in code: a number of 64 bits, whose low 32 bits are the mask and whose high 32 bits the block number, and sixteen bytes beside
-- it. 0 and sixteen zeros are the empty place.
use Rattle.std.specs.Prelude.{ℕ, ◌+◌, ◌*◌, ◌/◌, ◌%◌, List, [], ◌∷◌}
use Rattle.values.specs.declared.Slot.{Slot}
use Rattle.buffer.specs.Buffer.{Backing}
use Rattle.buffer.specs.Buffer.{backing_from}
use Rattle.buffer.specs.Buffer.{buffer_from}

abbrev pub slot_of : ℕ → List ℕ → Slot
slot_of w bytes = record { block = w / 0x100000000; mask = w % 0x100000000; bytes = bytes }

abbrev pub word_of : ℕ → ℕ → ℕ
word_of block mask = block * 0x100000000 + mask

-- the entries that words and their bytes stand for
unfoldable pub slots_of : List ℕ → List (List ℕ) → List Slot
slots_of [] bs = []
slots_of (w ∷ ws) [] = []
slots_of (w ∷ ws) (b ∷ bs) = slot_of w b ∷ slots_of ws bs

-- memory, map and the buffer that words, bytes and the number of entries stand for
abbrev pub backing_of : List ℕ → List ℕ → List ℕ → List (List ℕ) → ℕ → Backing
backing_of memory bad words bytes used = (backing_from memory bad (buffer_from (slots_of words bytes) used))
