-- What a sound state is, said of every place: the clauses of refusal 3, "The state is unsound", in document 01's order. A state passes the test `sound`
-- exactly if it is so: `sound_means` and `sound_of`, crates/soundness_laws/proofs/Reader.antt. A place behind the end of a list reads as an empty place or 0.
use Rattle.std.specs.Prelude.{ℕ, ◌+◌, ◌*◌, ◌/◌, ◌<◌, ◌≤◌, true, false, ◌≢◌, ◌≡◌, List, length, get_or}
use Rattle.values.specs.Bits.{bit}
use Rattle.values.specs.Lists.{sum}
use Rattle.values.specs.Control.{kept, listed}
use Rattle.values.specs.Empty.{empty_entry, empty_line, empty_slot}
use Rattle.values.specs.declared.Entry.{Entry}
use Rattle.values.specs.declared.Line.{Line}
use Rattle.values.specs.declared.Slot.{Slot}
use Rattle.tlb.specs.Tlb.{base_of}
use Rattle.cache.specs.Dcache.{dirty_halves}
use Rattle.machine.specs.Machine.{Machine, memory_of}

module _ (m : Machine) where
  -- the lines of the Dcache, and the places of the write buffer
  abbrev pub lines_of : List Line
  lines_of = m.side.cache.lines

  abbrev pub slots_of : List Slot
  slots_of = m.side.backing.buffer.slots

  -- how many of those places are entries
  abbrev pub used_of : ℕ
  used_of = m.side.backing.buffer.used

  -- the pointer of a set, a line, a TLB entry, a place of the write buffer
  abbrev pub pointer_at : ℕ → ℕ
  pointer_at s = get_or m.side.cache.pointers s 0

  abbrev pub line_at : ℕ → Line
  line_at i = get_or lines_of i empty_line

  abbrev pub entry_at : ℕ → Entry
  entry_at i = get_or m.entries i empty_entry

  abbrev pub slot_at : ℕ → Slot
  slot_at i = get_or slots_of i empty_slot

pub record IsSound (m : Machine) : Type 0 where
  -- "a pointer above 31": the TLB's, and each set's
  pub pointer : m.cp15.pointer ≤ 31
  pub pointers : (s : ℕ) → pointer_at m s ≤ 31
  -- "more than 8 buffer entries"
  pub used : used_of m ≤ 8
  -- "two valid lines of one set with equal tags": ways i and j of set s
  pub tags : (s i j : ℕ) → s < 16 → i < j → j < 32 → (line_at m (s * 32 + i)).valid ≡ true → (line_at m (s * 32 + j)).valid ≡ true
      → (line_at m (s * 32 + i)).tag ≢ (line_at m (s * 32 + j)).tag
  -- "a valid line or buffer entry outside the lent memory"
  pub line_inside : (i : ℕ) → (line_at m i).valid ≡ true → (line_at m i).frame * 32 + 32 ≤ length (memory_of m)
  pub slot_inside : (i : ℕ) → i < used_of m → i < length (slots_of m) → (slot_at m i).block * 16 + 16 ≤ length (memory_of m)
  -- "an empty place in the state not all zeros"
  pub line_empty_lem : (i : ℕ) → (line_at m i).valid ≡ false → line_at m i ≡ empty_line
  pub entry_empty_lem : (i : ℕ) → (entry_at m i).valid ≡ false → entry_at m i ≡ empty_entry
  pub slot_block : (i : ℕ) → used_of m ≤ i → (slot_at m i).block ≡ 0
  pub slot_mask : (i : ℕ) → used_of m ≤ i → (slot_at m i).mask ≡ 0
  pub slot_bytes : (i j : ℕ) → used_of m ≤ i → get_or (slot_at m i).bytes j 0 ≡ 0
  -- "a TLB base not a multiple of its size": the virtual base, and the physical
  pub entry_vbase : (i : ℕ) → (entry_at m i).valid ≡ true → base_of (entry_at m i).size (entry_at m i).vbase ≡ (entry_at m i).vbase
  pub entry_pbase : (i : ℕ) → (entry_at m i).valid ≡ true → base_of (entry_at m i).size (entry_at m i).pbase ≡ (entry_at m i).pbase
  -- "a buffer entry with mask 0 or a nonzero byte outside its mask"
  pub masked : (i : ℕ) → i < used_of m → i < length (slots_of m) → (slot_at m i).mask ≢ 0
  pub outside : (i j : ℕ) → i < used_of m → i < length (slots_of m) → bit (slot_at m i).mask j ≡ false → get_or (slot_at m i).bytes j 0 ≡ 0
  -- "a register bit or field outside its range": control has only the bits that are kept, the table base only bits 31 to 14, FSR 8 bits, the others 32
  pub control : kept m.cp15.registers.control ≡ m.cp15.registers.control
  pub base : m.cp15.registers.base / 0x4000 * 0x4000 ≡ m.cp15.registers.base
  pub base_low : m.cp15.registers.base < 0x100000000
  pub domains : m.cp15.registers.domains < 0x100000000
  pub fsr : m.cp15.registers.fsr < 256
  pub far : m.cp15.registers.far < 0x100000000
  -- the same of the fields of a valid line, a valid TLB entry and a buffer entry: tag VA[31:9], three sizes, sixteen domains, four APs of two bits
  pub line_tag : (i : ℕ) → (line_at m i).valid ≡ true → (line_at m i).tag < 0x800000
  pub entry_size : (i : ℕ) → (entry_at m i).valid ≡ true → (entry_at m i).size < 3
  pub entry_vbase_low : (i : ℕ) → (entry_at m i).valid ≡ true → (entry_at m i).vbase < 0x100000000
  pub entry_pbase_low : (i : ℕ) → (entry_at m i).valid ≡ true → (entry_at m i).pbase < 0x100000000
  pub entry_domain : (i : ℕ) → (entry_at m i).valid ≡ true → (entry_at m i).domain < 16
  pub entry_aps : (i : ℕ) → (entry_at m i).valid ≡ true → (entry_at m i).aps < 256
  pub mask_low : (i : ℕ) → i < used_of m → i < length (slots_of m) → (slot_at m i).mask < 0x10000
  -- "a control combination outside the list below"
  pub combination : listed m.cp15.registers.control ≡ true
  -- "TLB misses, hits or fills above the calls"
  pub misses : m.counts.misses ≤ m.counts.calls
  pub hits : m.counts.hits ≤ m.counts.calls
  pub fills : m.counts.fills ≤ m.counts.calls
  -- "or halves sent out plus dirty halves above the calls"
  pub halves : m.counts.halves + sum dirty_halves (lines_of m) ≤ m.counts.calls
