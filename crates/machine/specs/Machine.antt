-- "The lent things": what a call of the library gets and leaves.
use Rattle.std.specs.Prelude.{ℕ, List, replicate}
use Rattle.values.specs.Empty.{no_entries, no_lines}
use Rattle.values.specs.Registers.{zero_cp15, with_registers_of}
use Rattle.values.specs.Counts.{zero_counts}
use Rattle.values.specs.declared.Registers.{Registers}
use Rattle.values.specs.declared.Cp15.{Cp15}
use Rattle.values.specs.declared.Counts.{Counts}
use Rattle.values.specs.declared.Entry.{Entry}
use Rattle.values.specs.declared.Answer.{Answer}
use Rattle.values.specs.declared.Answer.TheVariants as answer
use Rattle.bus.specs.Physical.{Physical}
use Rattle.buffer.specs.Buffer.{Backing, backing_from, physical_behind, empty_buffer, drained}
use Rattle.cache.specs.Dcache.{Dcache, Side, dcache_from, side_from}

-- State, record, memory, map and cache store together. The state is the memory's length at the start, the TLB's entries, the Dcache's lines and
-- pointers, the buffer and the counts; the record is `cp15`; memory and cache store are lent as lists of bytes, and so is the map of bad words, which
-- no call changes.
pub record Machine : Type 0 where
  pub cp15 : Cp15
  pub entries : List Entry
  pub side : Side
  pub counts : Counts
  -- the memory's length at the start
  pub size : ℕ

abbrev pub machine_from : Cp15 → List Entry → Side → Counts → ℕ → Machine
machine_from cp15 entries side counts size = record { cp15 = cp15; entries = entries; side = side; counts = counts; size = size }

abbrev pub memory_of : Machine → List ℕ
memory_of m = m.side.backing.memory

abbrev pub bad_of : Machine → List ℕ
bad_of m = m.side.backing.bad

abbrev pub store_of : Machine → List ℕ
store_of m = m.side.cache.store

-- physical memory as the bus sees it
abbrev pub physical_of : Machine → Physical
physical_of m = physical_behind m.side.backing

-- ---- the machine with one part replaced

module _ (m : Machine) where
  abbrev pub with_cp15 : Cp15 → Machine
  with_cp15 r = machine_from r m.entries m.side m.counts m.size

  abbrev pub with_registers : Registers → Machine
  with_registers r = with_cp15 (with_registers_of m.cp15 r)

  abbrev pub with_entries : List Entry → Machine
  with_entries es = machine_from m.cp15 es m.side m.counts m.size

  abbrev pub with_side : Side → Machine
  with_side s = machine_from m.cp15 m.entries s m.counts m.size

  abbrev pub with_cache : Dcache → Machine
  with_cache c = with_side (side_from c m.side.backing)

  abbrev pub with_backing : Backing → Machine
  with_backing b = with_side (side_from m.side.cache b)

  abbrev pub with_counts : Counts → Machine
  with_counts c = machine_from m.cp15 m.entries m.side c m.size

-- ---- the buffer drained

-- "drains the buffer"
abbrev pub drained_all : Machine → Machine
drained_all m = with_backing m (drained m.side.backing)

-- ---- the start

-- "A start call makes a fresh state: registers zero, TLB, cache and buffer empty, pointers and counts zero. It writes to no lent bytes."
-- `size` is the memory's length for a served start, and 0 in "a state all zeros". `bad` is the map that later calls are lent.
unfoldable pub fresh : ℕ → List ℕ → List ℕ → List ℕ → Machine
fresh size memory bad store =
    machine_from zero_cp15 no_entries (side_from (dcache_from no_lines (replicate 16 0) store) (backing_from memory bad empty_buffer)) zero_counts size

-- ---- a machine and what it answers

pub record Stepped : Type 0 where
  pub machine : Machine
  pub answer : Answer

abbrev pub stepped_from : Machine → Answer → Stepped
stepped_from m a = record { machine = m; answer = a }

-- a served store and a served CP15 write answer 0
abbrev pub answers_zero : Machine → Stepped
answers_zero m = stepped_from m (answer.Value 0)
