-- A served CP15 call keeps a machine sound.
use Prim.Native.Nat.{ℕ, ◌<◌}
use native.Mathlib.Omega.{arith}
use mathlib.Core.Path.{◌≡◌, ◌∙◌}
use lib.ListN.{length}
use Rattle.values.specs.declared.VirtualAddress.{VirtualAddress}
use Rattle.values.specs.declared.Transfer.{Transfer}
use Rattle.values.specs.declared.Call.TheVariants.{Write}
use Rattle.values.specs.Counts.{sent}
use Rattle.values.proofs.Cases.{case}
use Rattle.tlb.specs.Tlb.{flushed, dropped}
use Rattle.tlb.proofs.Places.{length_flushed, length_dropped}
use Rattle.registers.specs.Registers.{written_of}
use Rattle.refusals.specs.Refusals.{call_refusal}
use Rattle.refusals.proofs.Rows.{write_listed}
use Rattle.buffer.specs.Buffer.{drained}
use Rattle.cache.specs.Dcache.{cleaned, line_flushed, all_flushed}
use Rattle.cache.proofs.Counting.{clean_dirties, flush_dirties, flush_all_dirties}
use Rattle.machine.specs.Machine.{Machine, memory_of, with_side, with_cache, with_entries, drained_all}
use Rattle.soundness_test.specs.Meaning.{lines_of}
use Rattle.cp15.specs.Operations.{flushes_dcache, flushes_line, cleans_line, drains, flushes_tlb, drops_entries, cleaned_line, operated, read, write}
use Rattle.soundness_laws.proofs.RegistersKept.{written_kept}
use Rattle.soundness_laws.proofs.TlbKept as tlb
use Rattle.soundness_laws.proofs.BackingKept.{drained_kept}
use Rattle.soundness_laws.proofs.CacheKept.{cleaned_kept, flushed_kept, all_flushed_kept}
use Rattle.soundness_laws.proofs.Holding.{Kept, Roomy, roomy_holding, holding_kept}
use Rattle.soundness_laws.proofs.CountsKept.{room_are, sent_are, flushed_are}
use Rattle.soundness_laws.proofs.Replaced.{with_counts_lem, with_registers_lem, with_entries_lem, with_side_lem, with_cache_lem, with_backing_lem}
use Rattle.soundness_laws.proofs.AccessKept.{Done}

-- ---- registers 7 and 8

module _ (n start : ℕ) (m : Machine) (va : VirtualAddress) (k : Done n start m) where
  all_done : Done n start (with_cache m (all_flushed m.side.cache))
  all_done =
      let c = all_flushed m.side.cache in
      let d = flush_all_dirties m.side.cache in
      record {
        holding = with_cache_lem n start m k.holding c (all_flushed_kept n m.side.cache k.holding.side.cache);
        counts = flushed_are m.counts (lines_of m) c.lines (omega arith) k.counts;
      }

  line_done : Done n start (with_cache m (line_flushed m.side.cache va))
  line_done =
      let c = line_flushed m.side.cache va in
      record {
        holding = with_cache_lem n start m k.holding c (flushed_kept n m.side.cache va k.holding.side.cache);
        counts = flushed_are m.counts (lines_of m) c.lines (flush_dirties m.side.cache va) k.counts;
      }

  clean_done : Done n start (cleaned_line m va)
  clean_done =
      let s = cleaned m.side va in
      let h = with_side_lem n start m k.holding s.side (cleaned_kept n m.side va k.holding.side) in
      record {
        holding = with_counts_lem n start (with_side m s.side) h (sent m.counts s.halves);
        counts = sent_are m.counts (lines_of m) s.side.cache.lines s.halves (clean_dirties m.side va) k.counts;
      }

  drain_done : Done n start (drained_all m)
  drain_done =
      record {
        holding = with_backing_lem n start m k.holding (drained m.side.backing) (drained_kept n m.side.backing k.holding.side.backing);
        counts = k.counts;
      }

  tlb_done : Done n start (with_entries m flushed)
  tlb_done = record { holding = with_entries_lem n start m k.holding flushed length_flushed tlb.flushed_kept; counts = k.counts }

  drop_done : Done n start (with_entries m (dropped m.entries va))
  drop_done =
      record {
        holding =
            with_entries_lem n start m k.holding (dropped m.entries va) (length_dropped m.entries va ∙ k.holding.entries_long)
            (tlb.dropped_kept m.entries va k.holding.entries);
        counts = k.counts;
      }

  pub operated_done : (t : Transfer) → Done n start (operated m t va)
  unfolding operated
  operated_done t =
      case (flushes_dcache t)
      (λ p. rw p all_done)
      (λ p.
      case (flushes_line t)
      (λ q. rw (p, q) line_done)
      (λ q.
      case (cleans_line t)
      (λ r. rw (p, q, r) clean_done)
      (λ r.
      case (drains t)
      (λ s. rw (p, q, r, s) drain_done)
      (λ s.
      case (flushes_tlb t)
      (λ u. rw (p, q, r, s, u) tlb_done)
      (λ u.
      case (drops_entries t)
      (λ v. rw (p, q, r, s, u, v) drop_done)
      (λ v. rw (p, q, r, s, u, v) k))))))

-- ---- a call that has been counted

done : (m : Machine) → Roomy m → Done (length (memory_of m)) m.size m
done m r = record { holding = roomy_holding m r; counts = room_are m.counts (lines_of m) 1 r.room }

pub read_kept : (m : Machine) (t : Transfer) → Roomy m → Kept m (read m t).machine
unfolding read
read_kept m t r = holding_kept m m (done m r).holding (done m r).counts

pub write_kept : (m : Machine) (t : Transfer) (v : ℕ) → Roomy m → call_refusal (Write t v) ≡ 0 → v < 0x100000000 → Kept m (write m t v).machine
unfolding write
write_kept m t v r h l =
    let n = length (memory_of m) in
    let o = operated m t (record { 0 = v }) in
    let d = operated_done n m.size m (record { 0 = v }) (done m r) t in
    let k = written_kept m.cp15.registers t.register v (roomy_holding m r).registers l (write_listed t v h) in
    holding_kept m (write m t v).machine (with_registers_lem n m.size o d.holding (written_of m.cp15.registers t.register v) k) d.counts
