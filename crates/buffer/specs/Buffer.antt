-- "Buffer: eight entries of sixteen bytes each, with a 16-bit mask and a block number (physical address divided by 16), oldest leaving
-- first when full or drained; the others close up, and bytes outside the mask are zero." Document 02, Five: bytes of bad words are dropped.
use Rattle.std.specs.Prelude.{ℕ, zero, suc, ◌+◌, ◌*◌, ◌-◌, ◌/◌, ◌%◌, ◌^◌, Bool, false, cond, ◌&&◌, ◌||◌, List, [], ◌∷◌, ◌++◌, eqb, ltb, get_or, set, take, drop, replicate, Option, Some, None}
use Rattle.std.specs.Int.Bits.{bit_or}
use Rattle.values.specs.Bits.{bit}
use Rattle.values.specs.Lists.{any}
use Rattle.values.specs.Empty.{empty_slot}
use Rattle.values.specs.Addresses.{block_of}
use Rattle.values.specs.declared.PhysicalAddress.{PhysicalAddress}
use Rattle.values.specs.declared.Slot.{Slot}
use Rattle.words.specs.Words.{stored}
use Rattle.bus.specs.Physical.{Physical, physical, is_bad}

-- the eight places, oldest first, and the number of entries: places from `used` on are empty
pub record Buffer : Type 0 where
  pub slots : List Slot
  pub used : ℕ

-- memory with its map of bad words, and the buffer before it
pub record Backing : Type 0 where
  pub memory : List ℕ
  pub bad : List ℕ
  pub buffer : Buffer

abbrev pub buffer_from : List Slot → ℕ → Buffer
buffer_from slots used = record { slots = slots; used = used }

abbrev pub backing_from : List ℕ → List ℕ → Buffer → Backing
backing_from memory bad buffer = record { memory = memory; bad = bad; buffer = buffer }

abbrev pub with_memory : Backing → List ℕ → Backing
with_memory b memory = backing_from memory b.bad b.buffer

abbrev pub with_buffer : Backing → Buffer → Backing
with_buffer b buffer = backing_from b.memory b.bad buffer

-- memory as the bus sees it
abbrev pub physical_behind : Backing → Physical
physical_behind b = physical b.memory b.bad

abbrev pub empty_buffer : Buffer
empty_buffer = buffer_from (replicate 8 empty_slot) 0

abbrev pub slot_at : Buffer → ℕ → Slot
slot_at b i = get_or b.slots i empty_slot

-- ---- leaving

-- memory with a byte at the address, if the mask's bit 0 is set
abbrev pub laid_one : List ℕ → ℕ → ℕ → ℕ → List ℕ
laid_one memory a mask x = cond (bit mask 0) (set memory a x) memory

-- memory with those bytes, from the address on, that the mask has; its bit 0 is for the first byte
unfoldable pub laid : List ℕ → ℕ → ℕ → List ℕ → List ℕ
laid memory a mask [] = memory
laid memory a mask (x ∷ xs) = laid (laid_one memory a mask x) (a + 1) (mask / 2) xs

-- "Buffered bytes for a bad word are dropped on leaving": the lowest four bits of a mask, for the bytes of word w, or none where it is bad
abbrev pub word_mask : List ℕ → ℕ → ℕ → ℕ
word_mask bad w mask = cond (is_bad bad w) 0 (mask % 16)

-- the mask of n words from w on, without the bytes of bad ones; that of a block has four words
unfoldable pub good_words : List ℕ → ℕ → ℕ → ℕ → ℕ
good_words bad w zero mask = 0
good_words bad w (suc n) mask = word_mask bad w mask + 16 * good_words bad (w + 1) n (mask / 16)

abbrev pub good_mask : List ℕ → ℕ → ℕ → ℕ
good_mask bad block mask = good_words bad (block * 4) 4 mask

-- the oldest entry leaves for memory, and the others close up
unfoldable pub oldest_left : Backing → Backing
oldest_left b =
    let s = slot_at b.buffer 0 in
    backing_from (laid b.memory (s.block * 16) (good_mask b.bad s.block s.mask) s.bytes) b.bad
    (buffer_from (drop 1 b.buffer.slots ++ (empty_slot ∷ [])) (b.buffer.used - 1))

unfoldable pub leaving : ℕ → Backing → Backing
leaving zero b = b
leaving (suc n) b = leaving n (oldest_left b)

-- "drains the buffer": all entries leave, oldest first
unfoldable pub drained : Backing → Backing
drained b = leaving b.buffer.used b

-- ---- entering

-- a new entry, behind the others; "oldest leaving first when full"
unfoldable pub behind : Backing → Slot → Backing
behind b s = with_buffer b (buffer_from (set b.buffer.slots b.buffer.used s) (b.buffer.used + 1))

unfoldable pub pushed : Backing → Slot → Backing
pushed b s = cond (ltb b.buffer.used 8) (behind b s) (behind (oldest_left b) s)

-- "a half sent out always takes a new one"
unfoldable pub half_pushed : Backing → ℕ → List ℕ → Backing
half_pushed b block bytes = pushed b (record { block = block; mask = 0xFFFF; bytes = bytes })

-- the newest of the first n entries that has the block
unfoldable pub newest_of : List Slot → ℕ → ℕ → Option ℕ
newest_of slots block zero = None
newest_of slots block (suc n) = cond (eqb (get_or slots n empty_slot).block block) (Some n) (newest_of slots block n)

-- the mask of the bytes of an access
abbrev pub mask_of : ℕ → ℕ → ℕ
mask_of width offset = (2 ^ width - 1) * 2 ^ offset

-- an entry with the bytes of a store
unfoldable pub joined : Slot → ℕ → ℕ → ℕ → Slot
joined s width offset v =
    record { block = s.block; mask = bit_or s.mask (mask_of width offset); bytes = stored width s.bytes offset v }

-- a new entry of a store
abbrev pub new_slot : ℕ → ℕ → ℕ → ℕ → Slot
new_slot block width offset v =
    record { block = block; mask = mask_of width offset; bytes = stored width (replicate 16 0) offset v }

abbrev pub stored_at : Backing → ℕ → ℕ → ℕ → ℕ → Option ℕ → Backing
stored_at b block width offset v (Some i) =
    with_buffer b (buffer_from (set b.buffer.slots i (joined (slot_at b.buffer i) width offset v)) b.buffer.used)
stored_at b block width offset v None = pushed b (new_slot block width offset v)

-- "A store joins the newest entry of the same block, else takes a new one"
unfoldable pub buffered : Backing → PhysicalAddress → ℕ → ℕ → Backing
buffered b pa width v =
    stored_at b (block_of pa) width (pa.0 % 16) v (newest_of b.buffer.slots (block_of pa) b.buffer.used)

-- ---- "if a masked byte lies in what is read (the whole line, or the access)"

-- an entry masks the byte of a physical address
abbrev pub masks : Slot → ℕ → Bool
masks s p = eqb (p / 16) s.block && bit s.mask (p % 16)

-- it masks one of the n bytes from a on
unfoldable pub meets : ℕ → ℕ → Slot → Bool
meets zero a s = false
meets (suc n) a s = masks s a || meets n (a + 1) s

-- one of the entries does
unfoldable pub holds : Buffer → ℕ → ℕ → Bool
holds b a n = any (meets n a) (take b.used b.slots)

-- "first drains it if a masked byte lies in what is read": the n bytes from a
unfoldable pub ready : Backing → ℕ → ℕ → Backing
ready b a n = cond (holds b.buffer a n) (drained b) b
