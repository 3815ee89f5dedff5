-- A fresh state is sound.
use Prim.Native.Nat.{ℕ, ◌+◌, ◌*◌, ◌%◌, ◌≤◌}
use native.Mathlib.Omega.{arith}
use mathlib.Core.Path.{◌≡◌, refl, ap}
use mathlib.Core.List.{List}
use lib.ListN.{length, length-replicate}
use Rattle.values.specs.Control.{kept, listed}
use Rattle.values.specs.Empty.{empty_entry, empty_line, empty_slot, no_entries}
use Rattle.values.specs.declared.Line.{Line}
use Rattle.values.specs.Registers.{zero_registers}
use Rattle.values.proofs.Cases.{clash}
use Rattle.values.proofs.Sums.{sum_replicate}
use Rattle.words.specs.Words.{Bytes}
use Rattle.tlb.specs.Tlb.{flushed}
use Rattle.cache.specs.Dcache.{dirty_halves}
use Rattle.machine.specs.Machine.{fresh}
use Rattle.soundness_test.specs.Meaning.{lines_of}
use Rattle.soundness_laws.proofs.Elements.{same_at}
use Rattle.soundness_laws.proofs.ScalarParts.{RegistersAre, CountsAre}
use Rattle.soundness_laws.proofs.CacheKept.{empty_is}
use Rattle.soundness_laws.proofs.TlbKept.{EntriesAre, flushed_kept}
use Rattle.soundness_laws.proofs.Holding.{Holding}

registers_zero : RegistersAre zero_registers
unfolding kept listed
registers_zero =
    record { control = refl; combination = refl; base = refl; base_low = omega arith; domains = omega arith; fsr = omega arith; far = omega arith }

entries_none : EntriesAre no_entries
unfolding flushed
entries_none = flushed_kept

module _ (size : ℕ) (memory bad store : List ℕ) where
  pub fresh_counts : CountsAre (fresh size memory bad store).counts (lines_of (fresh size memory bad store))
  unfolding fresh
  fresh_counts =
      let d = sum_replicate dirty_halves 512 empty_line refl in
      record { misses = omega arith; hits = omega arith; fills = omega arith; halves = omega arith }

  pub fresh_holding : length memory % 32 ≡ 0 → length memory ≤ 0x1000000 → Bytes memory → length store ≡ 16384 → Bytes store
      → Holding (length memory) size (fresh size memory bad store)
  unfolding fresh
  fresh_holding ml ms mb sl sb =
      record {
        size = refl;
        pointer = omega arith;
        registers = registers_zero;
        entries_long = length-replicate 32 empty_entry;
        entries = entries_none;
        side = record {
          cache = record {
            shape = record { lines_long = length-replicate 512 empty_line; pointers_long = refl; store_long = sl };
            store_bytes = sb;
            lines = λ i. rw (same_at 512 empty_line i) (empty_is (length memory));
            apart = λ s i j p q r u. clash u (ap (λ (x : Line). x.valid) (same_at 512 empty_line (s * 32 + i)));
            pointers = λ s. rw (same_at {A = ℕ} 16 0 s) (omega arith);
          };
          backing = record {
            memory_long = refl;
            memory_bytes = mb;
            shape = record { places = refl; low = omega arith; sixteen = λ i. rw (same_at 8 empty_slot i) };
            entries = λ i h. absurd (omega arith);
            empties = λ i h. same_at 8 empty_slot i;
          };
        };
        memory_lines = ml;
        memory_short = ms;
      }
