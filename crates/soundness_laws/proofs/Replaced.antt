-- A holding machine with one part replaced by one that holds.
use Prim.Native.Nat.{ℕ, ◌≤◌}
use mathlib.Core.Path.{◌≡◌}
use mathlib.Core.List.{List}
use lib.ListN.{length}
use Rattle.values.specs.Registers.{cp15_from}
use Rattle.values.specs.declared.Registers.{Registers}
use Rattle.values.specs.declared.Counts.{Counts}
use Rattle.values.specs.declared.Entry.{Entry}
use Rattle.buffer.specs.Buffer.{Backing}
use Rattle.cache.specs.Dcache.{Dcache, Side, side_from}
use Rattle.machine.specs.Machine.{Machine, with_cp15, with_registers, with_entries, with_side, with_cache, with_backing, with_counts}
use Rattle.soundness_laws.proofs.ScalarParts.{RegistersAre}
use Rattle.soundness_laws.proofs.BackingKept.{BackingIs}
use Rattle.soundness_laws.proofs.CacheKept.{CacheIs, SideIs}
use Rattle.soundness_laws.proofs.TlbKept.{EntriesAre}
use Rattle.soundness_laws.proofs.Holding.{Holding}

module _ (n start : ℕ) (m : Machine) (h : Holding n start m) where
  -- all parts but the size; the counts may be any
  pub holding_with : (r : Registers) (p : ℕ) (es : List Entry) (s : Side) (c : Counts) → RegistersAre r → p ≤ 31 → length es ≡ 32 → EntriesAre es
      → SideIs n s → Holding n start (with_counts (with_side (with_entries (with_cp15 m (cp15_from r p)) es) s) c)
  holding_with r p es s c rk pk el ek sk =
      record {
        size = h.size;
        pointer = pk;
        registers = rk;
        entries_long = el;
        entries = ek;
        side = sk;
        memory_lines = h.memory_lines;
        memory_short = h.memory_short;
      }

  pub with_counts_lem : (c : Counts) → Holding n start (with_counts m c)
  with_counts_lem c =
      holding_with m.cp15.registers m.cp15.pointer m.entries m.side c h.registers h.pointer h.entries_long h.entries h.side

  pub with_registers_lem : (r : Registers) → RegistersAre r → Holding n start (with_registers m r)
  with_registers_lem r k = holding_with r m.cp15.pointer m.entries m.side m.counts k h.pointer h.entries_long h.entries h.side

  pub with_entries_lem : (es : List Entry) → length es ≡ 32 → EntriesAre es → Holding n start (with_entries m es)
  with_entries_lem es l k = holding_with m.cp15.registers m.cp15.pointer es m.side m.counts h.registers h.pointer l k h.side

  pub with_side_lem : (s : Side) → SideIs n s → Holding n start (with_side m s)
  with_side_lem s k =
      holding_with m.cp15.registers m.cp15.pointer m.entries s m.counts h.registers h.pointer h.entries_long h.entries k

  pub with_cache_lem : (c : Dcache) → CacheIs n c → Holding n start (with_cache m c)
  with_cache_lem c k = with_side_lem (side_from c m.side.backing) (record { cache = k; backing = h.side.backing })

  pub with_backing_lem : (b : Backing) → BackingIs n b → Holding n start (with_backing m b)
  with_backing_lem b k = with_side_lem (side_from m.side.cache b) (record { cache = h.side.cache; backing = k })
