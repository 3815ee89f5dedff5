-- The shape of a machine, which the lent lists have by their types: how long they are, and that bytes are below 256.
use Rattle.std.specs.Prelude.{ℕ, ◌%◌, ◌≤◌, ◌≡◌, length}
use Rattle.words.specs.Words.{Bytes}
use Rattle.soundness_test.specs.Meaning.{lines_of, slots_of, slot_at}
use Rattle.machine.specs.Machine.{Machine, memory_of, store_of}

pub record Formed (m : Machine) : Type 0 where
  -- 32 TLB entries
  pub entries_long : length m.entries ≡ 32
  -- "16 sets of 32 lines of 32 bytes", a pointer for each set
  pub lines_long : length (lines_of m) ≡ 512
  pub pointers_long : length m.side.cache.pointers ≡ 16
  pub store_long : length (store_of m) ≡ 16384
  pub store_bytes : Bytes (store_of m)
  -- "eight entries of sixteen bytes each"
  pub slots_long : length (slots_of m) ≡ 8
  pub slot_long : (i : ℕ) → length (slot_at m i).bytes ≡ 16
  pub slot_bytes : (i : ℕ) → Bytes (slot_at m i).bytes
  -- "its length is a multiple of 32 up to 16,777,216"
  pub memory_lines : length (memory_of m) % 32 ≡ 0
  pub memory_short : length (memory_of m) ≤ 0x1000000
  pub memory_bytes : Bytes (memory_of m)
