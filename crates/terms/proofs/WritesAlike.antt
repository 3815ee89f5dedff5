-- CP15 reads and writes: the registers, and the operations of registers 7 and 8.
use Prim.Native.Nat.{ℕ, ◌/◌}
use native.Mathlib.Omega.{arith}
use mathlib.Core.Bool.{Bool, true, false, ◌&&◌}
use mathlib.Core.Path.{◌≡◌, refl, sym, ◌∙◌, ap, subst}
use lib.Dec.{eqb}
use borrow.Author.Tests.{eqb-true, eq-eqb, ne_eqb}
use Rattle.values.specs.Addresses.{virtual_line}
use Rattle.values.specs.declared.VirtualAddress.{VirtualAddress}
use Rattle.values.specs.declared.Registers.{Registers}
use Rattle.values.specs.declared.Transfer.{Transfer}
use Rattle.values.specs.declared.Answer.{Answer}
use Rattle.values.specs.declared.Answer.TheVariants as answer
use Rattle.values.proofs.Cases.{case, and_left, and_right}
use Rattle.registers.specs.Pairs.{is_pair}
use Rattle.registers.specs.Registers.{read_of, written_of}
use Rattle.tlb.specs.Tlb as tlbs
use Rattle.cache.specs.Dcache.{line_flushed, all_flushed}
use Rattle.machine.specs.Machine.{Machine, with_cache, with_entries, drained_all}
use Rattle.cp15.specs.Operations.{flushes_dcache, flushes_line, cleans_line, drains, flushes_tlb, drops_entries}
use Rattle.cp15.specs.Operations.{cleaned_line, operated, read, write}
use Rattle.plain.specs.Plain.{Plain, plain_read, plain_write}
use Rattle.terms.specs.History.{Stage, never, stored, cleaned, drained, flushed, History, after_clean, after_drain}
use Rattle.terms.specs.History.{after_write, after_line_clean, after_buffer_drain, after_whole_tlb_flush, after_whole_flush, after_base_write}
use Rattle.terms.specs.Rules.{is_stored, is_flushed, R3}
use Rattle.soundness_laws.proofs.MapKept.{bad_write}
use Rattle.terms.proofs.Invariant.{SideAgrees, TlbAgrees}
use Rattle.terms.proofs.TlbAgreement.{tlb_flushed, tlb_stale, tlb_dropped, tlb_history}
use Rattle.terms.proofs.Cleans.{drained_side, cleaned_side}
use Rattle.terms.proofs.Flushes.{all_flushed_side, line_flushed_side, tlb_flushed_side}
use Rattle.terms.proofs.Alike.{Shared, Alike, still_alike}

-- ---- a read

pub read_step : (n : ℕ) (m : Machine) (p : Plain) (h : History) → Shared n m p h → (t : Transfer) → Alike n (read m t) (plain_read p t) h
unfolding read plain_read
read_step n m p h k t =
    let value : Registers → Answer = λ r. answer.Value (read_of r t.register) in
    still_alike n m p h k (value m.cp15.registers) (value p.registers) (ap value k.registers)

-- ---- which operation

module _ (t : Transfer) where
  -- another register
  not_seven : t.register ≡ 2 → eqb t.register 7 ≡ false
  not_seven e = ne_eqb t.register 7 (λ q. omega arith)

  not_eight : t.register ≡ 2 → eqb t.register 8 ≡ false
  not_eight e = ne_eqb t.register 8 (λ q. omega arith)

  -- a line is flushed: nothing is cleaned or drained, and the TLB stays
  pair_other : (a b c d : ℕ) → (b ≡ d → ⊥) → is_pair t a b ≡ true → is_pair t c d ≡ false
  pair_other a b c d f e =
      let q = eqb-true t.crm b (and_right (eqb t.opcode a) (eqb t.crm b) e) in
      let g : eqb t.crm d ≡ false = ne_eqb t.crm d (λ r. f (sym q ∙ r)) in
      rw g (never_both (eqb t.opcode c))
    where
      never_both : (x : Bool) → (x && false) ≡ false
      never_both true = refl
      never_both false = refl

  line_not_cleans : flushes_line t ≡ true → cleans_line t ≡ false
  line_not_cleans e =
      let f = pair_other 1 6 1 10 (λ q. omega arith) (and_right (eqb t.register 7) (is_pair t 1 6) e) in
      rw (and_left (eqb t.register 7) (is_pair t 1 6) e, f)

  line_not_drains : flushes_line t ≡ true → drains t ≡ false
  line_not_drains e =
      let f = pair_other 1 6 4 10 (λ q. omega arith) (and_right (eqb t.register 7) (is_pair t 1 6) e) in
      rw (and_left (eqb t.register 7) (is_pair t 1 6) e, f)

  line_not_tlb : flushes_line t ≡ true → flushes_tlb t ≡ false
  line_not_tlb e =
      let q = eqb-true t.register 7 (and_left (eqb t.register 7) (is_pair t 1 6) e) in
      let f : eqb t.register 8 ≡ false = ne_eqb t.register 8 (λ r. omega arith) in
      rw f

-- the table base changes by a write of register 2 alone
written_base : (r : Registers) (n v : ℕ) → eqb n 2 ≡ false → (written_of r n v).base ≡ r.base
unfolding written_of
written_base r n v e =
    case (eqb n 1) (λ a. rw a)
    (λ a.
    case (eqb n 3) (λ b. rw (a, e, b))
    (λ b. case (eqb n 5) (λ c. rw (a, e, b, c)) (λ c. case (eqb n 6) (λ d. rw (a, e, b, c, d)) (λ d. rw (a, e, b, c, d)))))

-- ---- what no operation but a whole TLB flush adds to the words that may be walked

clean_flushed : (b : Bool) (s : Stage) → is_flushed (after_clean b s) ≡ true → is_flushed s ≡ true
clean_flushed b never e = e
clean_flushed true stored e = e
clean_flushed false stored e = e
clean_flushed b cleaned e = e
clean_flushed b drained e = e
clean_flushed b flushed e = e

drain_flushed : (s : Stage) → is_flushed (after_drain s) ≡ true → is_flushed s ≡ true
drain_flushed never e = e
drain_flushed stored e = e
drain_flushed cleaned e = e
drain_flushed drained e = e
drain_flushed flushed e = e

module _ (n : ℕ) (m : Machine) (p : Plain) (h : History) (k : Shared n m p h) where
  -- what an operation leaves
  record Leaves (m' : Machine) (g : History) : Type 0 where
    calls : m'.counts.calls ≡ m.counts.calls
    side : SideAgrees m'.side p.memory g
    tlb : TlbAgrees m'.entries p.registers.base p.memory p.bad g

  -- entries as they are, in a history in which no more words may be walked
  kept_tlb : (g : History) → g.base_stale ≡ h.base_stale → ((w : ℕ) → is_flushed (g.word_stage w) ≡ true → is_flushed (h.word_stage w) ≡ true)
      → TlbAgrees m.entries p.registers.base p.memory p.bad g
  kept_tlb g e f = tlb_history p.registers.base p.memory p.bad h m.entries k.tlb g e f

  -- ---- one law for each operation

  nothing_leaves : Leaves m h
  nothing_leaves = record { calls = refl; side = k.side; tlb = k.tlb }

  dcache_flush_leaves : ((l : ℕ) → is_stored (h.line_stage l) ≡ false) → Leaves (with_cache m (all_flushed m.side.cache)) (after_whole_flush h)
  dcache_flush_leaves r =
      record {
        calls = refl;
        side = all_flushed_side n m.side k.side_is p.memory h k.side r;
        tlb = kept_tlb (after_whole_flush h) refl (λ w q. q);
      }

  drain_leaves : Leaves (drained_all m) (after_buffer_drain h)
  drain_leaves =
      record {
        calls = refl;
        side = drained_side n m.side k.side_is p.memory h k.side;
        tlb = kept_tlb (after_buffer_drain h) refl (λ w q. drain_flushed (h.word_stage w) q);
      }

  tlb_flush_leaves : Leaves (with_entries m tlbs.flushed) (after_whole_tlb_flush h)
  tlb_flush_leaves =
      record {
        calls = refl;
        side = tlb_flushed_side m.side p.memory h k.side;
        tlb = tlb_flushed p.registers.base p.memory p.bad (after_whole_tlb_flush h);
      }

  -- those at a virtual address
  module _ (va : VirtualAddress) where
    line_flush_leaves : ((l : ℕ) → h.through l ≡ virtual_line va → is_stored (h.line_stage l) ≡ false)
        → Leaves (with_cache m (line_flushed m.side.cache va)) h
    line_flush_leaves r =
        record { calls = refl; side = line_flushed_side n m.side k.side_is p.memory h k.side va r; tlb = k.tlb }

    clean_leaves : Leaves (cleaned_line m va) (after_line_clean h (virtual_line va))
    clean_leaves =
        record {
          calls = refl;
          side = cleaned_side n m.side k.side_is p.memory h k.side va;
          tlb = kept_tlb (after_line_clean h (virtual_line va)) refl (λ w q. clean_flushed (eqb (h.through (w / 8)) (virtual_line va)) (h.word_stage w) q);
        }

    drop_leaves : Leaves (with_entries m (tlbs.dropped m.entries va)) h
    drop_leaves = record { calls = refl; side = k.side; tlb = tlb_dropped p.registers.base p.memory p.bad h m.entries k.tlb va }

  module _ (t : Transfer) (v : ℕ) where
    abbrev va : VirtualAddress
    va = record { 0 = v }

    -- ---- the operation that a write asks for

    operated_leaves : R3 h t v → eqb t.register 2 ≡ false → Leaves (operated m t va) (after_write h t v)
    unfolding operated after_write
    operated_leaves r e =
        case (flushes_dcache t) (λ a. rw (e, a) (dcache_flush_leaves (λ l. (r l).0 a)))
        (λ a.
        case (flushes_line t) (λ b. rw (e, a, b, line_not_cleans t b, line_not_drains t b, line_not_tlb t b) (line_flush_leaves va (λ l. (r l).1 b)))
        (λ b.
        case (cleans_line t) (λ c. rw (e, a, b, c) (clean_leaves va))
        (λ c.
        case (drains t) (λ d. rw (e, a, b, c, d) drain_leaves)
        (λ d.
        case (flushes_tlb t) (λ f. rw (e, a, b, c, d, f) tlb_flush_leaves)
        (λ f. case (drops_entries t) (λ g. rw (e, a, b, c, d, f, g) (drop_leaves va)) (λ g. rw (e, a, b, c, d, f, g) nothing_leaves))))))

    base_leaves : t.register ≡ 2 → (operated m t va ≡ m) × (after_write h t v ≡ after_base_write h)
    unfolding operated after_write
    base_leaves e = (rw (not_seven t e, not_eight t e), rw (eq-eqb t.register 2 e))

    pub write_step : R3 h t v → Alike n (write m t v) (plain_write p t v) (after_write h t v)
    unfolding write plain_write
    write_step r =
        case (eqb t.register 2)
        (λ e.
        let q = eqb-true t.register 2 e in
        let b = base_leaves q in
        let g = after_write h t v in
        record {
          same_answer = refl;
          registers = ap (λ (x : Registers). written_of x t.register v) k.registers;
          calls = ap (λ (x : Machine). x.counts.calls) b.0 ∙ k.calls;
          long = k.long;
          same_map = bad_write m t v ∙ k.same_map;
          side =
              subst (λ (x : Machine). SideAgrees x.side p.memory g) (sym b.0)
              (subst (λ (x : History). SideAgrees m.side p.memory x) (sym b.1)
              (record { cache = k.side.cache; good = k.side.good; under = k.side.under; words = k.side.words; lines = k.side.lines }));
          tlb =
              tlb_stale (written_of p.registers t.register v).base p.memory p.bad g (operated m t va).entries
              (ap (λ (x : History). x.base_stale) b.1);
        })
        (λ e.
        let o = operated_leaves r e in
        record {
          same_answer = refl;
          registers = ap (λ (x : Registers). written_of x t.register v) k.registers;
          calls = o.calls ∙ k.calls;
          long = k.long;
          same_map = bad_write m t v ∙ k.same_map;
          side = o.side;
          tlb =
              subst (λ (x : ℕ). TlbAgrees (operated m t va).entries x p.memory p.bad (after_write h t v))
              (sym (written_base p.registers t.register v e)) o.tlb;
        })
