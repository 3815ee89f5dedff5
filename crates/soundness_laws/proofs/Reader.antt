-- A state passes the test `sound` exactly if it is sound as a reader reads refusal 3.
use Prim.Native.Nat.{ℕ, ◌≤◌}
use native.Mathlib.Omega.{arith}
use mathlib.Core.Bool.{true, ◌&&◌}
use mathlib.Core.Path.{◌≡◌}
use lib.ListN.{length, get_or}
use borrow.Author.Tests.{leb-true, le-leb}
use Rattle.values.specs.Empty.{empty_entry, empty_line}
use Rattle.values.specs.Lists.{all}
use Rattle.values.proofs.Cases.{and_left, and_right}
use Rattle.machine.specs.Machine.{Machine, memory_of}
use Rattle.soundness.specs.Soundness.{pointer_sound, tags_sound, entry_sound, line_sound, buffer_sound, registers_sound, counts_sound, sound}
use Rattle.soundness_test.specs.Meaning.{lines_of, IsSound}
use Rattle.soundness_laws.proofs.Elements.{seven}
use Rattle.soundness_laws.proofs.CacheParts.{LineIs, Apart, pointers_mean, pointers_of, lines_mean, lines_of_lem, tags_mean, tags_of}
use Rattle.soundness_laws.proofs.BufferParts.{BufferIs, buffer_means, buffer_of}
use Rattle.soundness_laws.proofs.TlbParts.{EntryIs, entries_mean, entries_of_lem}
use Rattle.soundness_laws.proofs.ScalarParts.{RegistersAre, registers_mean, registers_of, CountsAre, counts_mean, counts_of}

-- every test of `sound` passes
record Passes (m : Machine) : Type 0 where
  pointer : pointer_sound m.cp15.pointer ≡ true
  pointers : all pointer_sound m.side.cache.pointers ≡ true
  tags : tags_sound 16 (lines_of m) ≡ true
  lines : all (line_sound (length (memory_of m))) (lines_of m) ≡ true
  buffer : buffer_sound (length (memory_of m)) m.side.backing.buffer ≡ true
  entries : all entry_sound m.entries ≡ true
  registers : registers_sound m.cp15.registers ≡ true
  counts : counts_sound m.counts (lines_of m) ≡ true

module _ (m : Machine) where
  passes : sound m ≡ true → Passes m
  unfolding sound
  passes h =
      let a = pointer_sound m.cp15.pointer in
      let b = all pointer_sound m.side.cache.pointers in
      let c = tags_sound 16 (lines_of m) in
      let d = all (line_sound (length (memory_of m))) (lines_of m) in
      let e = buffer_sound (length (memory_of m)) m.side.backing.buffer in
      let f = all entry_sound m.entries in
      let g = registers_sound m.cp15.registers in
      let i = counts_sound m.counts (lines_of m) in
      let t = b && (c && (d && (e && (f && (g && i))))) in
      let s = seven b c d e f g i (and_right a t h) in
      record {
        pointer = and_left a t h;
        pointers = s.first;
        tags = s.second;
        lines = s.third;
        buffer = s.fourth;
        entries = s.fifth;
        registers = s.sixth;
        counts = s.seventh;
      }

  passed : Passes m → sound m ≡ true
  unfolding sound
  passed p = rw (p.pointer, p.pointers, p.tags, p.lines, p.buffer, p.entries, p.registers, p.counts)

-- every part is sound
pub record PartsAre (m : Machine) : Type 0 where
  pub pointer : m.cp15.pointer ≤ 31
  pub pointers : (s : ℕ) → get_or m.side.cache.pointers s 0 ≤ 31
  pub tags : Apart 16 (lines_of m)
  pub lines : (i : ℕ) → LineIs (length (memory_of m)) (get_or (lines_of m) i empty_line)
  pub buffer : BufferIs (length (memory_of m)) m.side.backing.buffer
  pub entries : (i : ℕ) → EntryIs (get_or m.entries i empty_entry)
  pub registers : RegistersAre m.cp15.registers
  pub counts : CountsAre m.counts (lines_of m)

-- ---- the tests and the parts

module _ (m : Machine) (long : length (lines_of m) ≡ 512) where
  pub parts_mean : sound m ≡ true → PartsAre m
  parts_mean h =
      let p = passes m h in
      record {
        pointer = leb-true m.cp15.pointer 31 p.pointer;
        pointers = pointers_mean m.side.cache.pointers p.pointers;
        tags = tags_mean 16 (lines_of m) (omega arith) p.tags;
        lines = lines_mean (length (memory_of m)) (lines_of m) p.lines;
        buffer = buffer_means (length (memory_of m)) m.side.backing.buffer p.buffer;
        entries = entries_mean m.entries p.entries;
        registers = registers_mean m.cp15.registers p.registers;
        counts = counts_mean m.counts (lines_of m) p.counts;
      }

  pub parts_of : PartsAre m → sound m ≡ true
  parts_of p =
      passed m
      (record {
        pointer = le-leb m.cp15.pointer 31 p.pointer;
        pointers = pointers_of m.side.cache.pointers p.pointers;
        tags = tags_of 16 (lines_of m) (omega arith) p.tags;
        lines = lines_of_lem (length (memory_of m)) (lines_of m) p.lines;
        buffer = buffer_of (length (memory_of m)) m.side.backing.buffer p.buffer;
        entries = entries_of_lem m.entries p.entries;
        registers = registers_of m.cp15.registers p.registers;
        counts = counts_of m.counts (lines_of m) p.counts;
      })

-- ---- the parts and the clauses

module _ (m : Machine) where
  parts_clauses : PartsAre m → IsSound m
  parts_clauses p =
      record {
        pointer = p.pointer;
        pointers = p.pointers;
        used = p.buffer.used;
        tags = p.tags;
        line_inside = λ i. (p.lines i).inside;
        slot_inside = λ i l k. (p.buffer.entries i l k).inside;
        line_empty_lem = λ i. (p.lines i).empty;
        entry_empty_lem = λ i. (p.entries i).empty;
        slot_block = λ i l. (p.buffer.empties i l).block;
        slot_mask = λ i l. (p.buffer.empties i l).mask;
        slot_bytes = λ i j l. (p.buffer.empties i l).bytes j;
        entry_vbase = λ i v. ((p.entries i).ranges v).vbase;
        entry_pbase = λ i v. ((p.entries i).ranges v).pbase;
        masked = λ i l k. (p.buffer.entries i l k).masked;
        outside = λ i j l k. (p.buffer.entries i l k).outside j;
        control = p.registers.control;
        base = p.registers.base;
        base_low = p.registers.base_low;
        domains = p.registers.domains;
        fsr = p.registers.fsr;
        far = p.registers.far;
        line_tag = λ i. (p.lines i).tag;
        entry_size = λ i v. ((p.entries i).ranges v).size;
        entry_vbase_low = λ i v. ((p.entries i).ranges v).vbase_low;
        entry_pbase_low = λ i v. ((p.entries i).ranges v).pbase_low;
        entry_domain = λ i v. ((p.entries i).ranges v).domain;
        entry_aps = λ i v. ((p.entries i).ranges v).aps;
        mask_low = λ i l k. (p.buffer.entries i l k).low;
        combination = p.registers.combination;
        misses = p.counts.misses;
        hits = p.counts.hits;
        fills = p.counts.fills;
        halves = p.counts.halves;
      }

  module _ (s : IsSound m) where
    buffer_clauses : BufferIs (length (memory_of m)) m.side.backing.buffer
    buffer_clauses =
        record {
          used = s.used;
          entries = λ i l k.
              record { inside = s.slot_inside i l k; masked = s.masked i l k; low = s.mask_low i l k; outside = λ j. s.outside i j l k };
          empties = λ i l. record { block = s.slot_block i l; mask = s.slot_mask i l; bytes = λ j. s.slot_bytes i j l };
        }

    entry_clauses : (i : ℕ) → EntryIs (get_or m.entries i empty_entry)
    entry_clauses i =
        record {
          ranges = λ v.
              record {
                size = s.entry_size i v;
                vbase = s.entry_vbase i v;
                pbase = s.entry_pbase i v;
                vbase_low = s.entry_vbase_low i v;
                pbase_low = s.entry_pbase_low i v;
                domain = s.entry_domain i v;
                aps = s.entry_aps i v;
              };
          empty = s.entry_empty_lem i;
        }

    register_clauses : RegistersAre m.cp15.registers
    register_clauses =
        record {
          control = s.control;
          combination = s.combination;
          base = s.base;
          base_low = s.base_low;
          domains = s.domains;
          fsr = s.fsr;
          far = s.far;
        }

    pub clauses_parts : PartsAre m
    clauses_parts =
        record {
          pointer = s.pointer;
          pointers = s.pointers;
          tags = s.tags;
          lines = λ i. record { inside = s.line_inside i; tag = s.line_tag i; empty = s.line_empty_lem i };
          buffer = buffer_clauses;
          entries = entry_clauses;
          registers = register_clauses;
          counts = record { misses = s.misses; hits = s.hits; fills = s.fills; halves = s.halves };
        }

  module _ (long : length (lines_of m) ≡ 512) where
    pub sound_means : sound m ≡ true → IsSound m
    sound_means h = parts_clauses (parts_mean m long h)

    pub sound_of : IsSound m → sound m ≡ true
    sound_of s = parts_of m long (clauses_parts s)
