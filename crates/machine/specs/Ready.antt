-- What the code of an access asks of the lent lists and of the scalars. The test of soundness gives it.
use Rattle.std.specs.Prelude.{ℕ, ◌+◌, ◌*◌, ◌%◌, ◌<◌, ◌≤◌, true, ◌||◌, ◌≡◌, List, length, get_or}
use Rattle.values.specs.Counts.{count_limit}
use Rattle.walk.specs.Ranges.{InRange}
use Rattle.tlb.specs.Packing.{entry_of}
use Rattle.buffer.specs.Ranges.{Fits}
use Rattle.cache.specs.Dcache.{dirty_halves}
use Rattle.cache.specs.Packing.{line_of}
use Rattle.machine.specs.declared.Scalars.{Scalars}
use Rattle.machine.specs.Lists.{Lists}

-- of the TLB and of the record: the lists' lengths, and entries, pointer, table base and misses in range
pub record TlbReady (entries : List ℕ) (s : Scalars) : Type 0 where
  pub entries_long : length entries ≡ 32
  pub entries_ranged : (i : ℕ) → i < 32 → InRange (entry_of (get_or entries i 0))
  pub pointer : s.cp15.pointer < 32
  pub base : s.cp15.registers.base % 0x4000 ≡ 0
  pub misses : s.counts.misses < count_limit

-- of the data side: lengths, buffer entries and valid lines inside memory, dirty lines valid, pointers in range, and room in the counts
pub record SideReady (l : Lists) (s : Scalars) : Type 0 where
  pub fits : Fits l.memory l.words l.bytes s.used
  pub lines_long : length l.lines ≡ 512
  pub pointers_long : length l.pointers ≡ 16
  pub store_long : length l.store ≡ 16384
  pub whole : length l.memory % 32 ≡ 0
  pub short : length l.memory ≤ 0x1000000
  pub pointers_low : (n : ℕ) → n < 16 → get_or l.pointers n 0 < 32
  pub lines_inside : (i : ℕ) → i < 512 → (line_of (get_or l.lines i 0)).valid ≡ true → (line_of (get_or l.lines i 0)).frame * 32 + 32 ≤ length l.memory
  pub lines_dirty : (i : ℕ) → i < 512 → ((line_of (get_or l.lines i 0)).low || (line_of (get_or l.lines i 0)).high) ≡ true
      → (line_of (get_or l.lines i 0)).valid ≡ true
  pub hits : s.counts.hits < count_limit
  pub fills : s.counts.fills < count_limit
  pub halves : (i : ℕ) → i < 512 → s.counts.halves + dirty_halves (line_of (get_or l.lines i 0)) ≤ count_limit

-- of a clean: all of this but the pointers, the hits and the fills
pub record CleanReady (memory words : List ℕ) (bytes : List (List ℕ)) (lines store : List ℕ) (s : Scalars) : Type 0 where
  pub fits : Fits memory words bytes s.used
  pub lines_long : length lines ≡ 512
  pub store_long : length store ≡ 16384
  pub short : length memory ≤ 0x1000000
  pub lines_inside : (i : ℕ) → i < 512 → (line_of (get_or lines i 0)).valid ≡ true → (line_of (get_or lines i 0)).frame * 32 + 32 ≤ length memory
  pub halves : (i : ℕ) → i < 512 → s.counts.halves + dirty_halves (line_of (get_or lines i 0)) ≤ count_limit
