-- An access: alignment, translation and rights, then the load, the store or the swap. R4, R5 and R6 are used in translation alone.
use Rattle.std.specs.Prelude.{Result, Ok, Err}
use Prim.Native.Nat.{ℕ, ◌<◌}
use mathlib.Core.Bool.{true, false, not}
use mathlib.Core.Path.{◌≡◌, refl, sym, ◌∙◌, subst}
use lib.ListN.{length}
use Rattle.values.specs.Control.{mmu}
use Rattle.values.specs.declared.VirtualAddress.{VirtualAddress}
use Rattle.values.specs.declared.Registers.{Registers}
use Rattle.values.specs.declared.Counts.{Counts}
use Rattle.values.specs.declared.Kind.{Kind}
use Rattle.values.specs.declared.Kind.TheVariants.{Load, SignedLoad, Store, Swap}
use Rattle.values.specs.declared.Access.{Access}
use Rattle.values.specs.declared.Status.{Status}
use Rattle.values.proofs.Cases.{case, and_both}
use Rattle.words.specs.Words.{is_width}
use Rattle.translation.specs.Alignment.{alignment_faults, cleared}
use Rattle.translation.specs.Translation.{translation, counts_after, decided}
use Rattle.translation.specs.Ranges.{CheckedRanged}
use Rattle.translation.specs.declared.Translation.{Translation}
use Rattle.translation.specs.declared.Translation.TheVariants.{Flat, Held, Walked}
use Rattle.translation.specs.declared.Place.{Place}
use Rattle.translation.specs.declared.Decision.{Decision}
use Rattle.machine.specs.Machine.{Machine, physical_of}
use Rattle.reach.specs.Reach.{decision, committed, faulted}
use Rattle.reach.proofs.Laws.{decided_unaligned, decided_by_lem}
use Rattle.access.specs.Access.{access, passed}
use Rattle.access.proofs.Laws.{access_passed, access_denied}
use Rattle.plain.specs.Plain.{Plain, plain_physical, plain_reach, plain_passed, plain_access, plain_faulted}
use Rattle.plain.proofs.Laws.{reach_misaligned, reach_aligned, access_by, at_passed, at_denied}
use Rattle.soundness_laws.proofs.TlbKept.{EntriesAre, translation_serves, decided_ranged}
use Rattle.soundness_laws.proofs.AccessKept.{cleared_low}
use Rattle.terms.specs.History.{History, after_reach, after_store, after_kind}
use Rattle.terms.specs.Rules.{R2, R4, R5, walks, AccessAllowed}
use Rattle.terms.proofs.TlbAgreement.{checked_agrees, tlb_committed, tlb_history}
use Rattle.terms.proofs.Reaching.{reach_here, reach_side}
use Rattle.terms.proofs.Alike.{Shared, Alike, alike_by, faulted_alike}
use Rattle.terms.proofs.Passing.{Passes}
use Rattle.terms.proofs.LoadsAlike.{load_alike}
use Rattle.terms.proofs.StoresAlike.{store_alike}
use Rattle.terms.proofs.SwapsAlike.{swap_alike}
use Rattle.values.specs.declared.Cause.{Cause}
use Rattle.values.specs.Causes.{cause_from}

-- a miss is no call
calls_after : (c : Counts) (t : Result Translation Cause) → (counts_after c t).calls ≡ c.calls
calls_after c (Ok Flat) = refl
calls_after c (Ok (Held e)) = refl
calls_after c (Ok (Walked e)) = refl
calls_after c (Err why) = refl

module _ (n : ℕ) (m : Machine) (p : Plain) (h : History) (k : Shared n m p h) (es : EntriesAre m.entries) (a : Access)
    (low : a.address.0 < 0x100000000) (width : is_width a.width ≡ true) (allowed : AccessAllowed p h a) where
  abbrev va : VirtualAddress
  va = cleared a

  -- ---- alignment, translation and rights

  record DecisionAlike (d : Decision) : Type 0 where
    same : d.checked ≡ plain_reach p a
    shared : Shared n (committed m d.mapping) p h

  -- which mapping serves, on the registers of both
  abbrev mapping : Result Translation Cause
  mapping = translation m.entries p.registers (physical_of m) va

  walked : alignment_faults p.registers a ≡ false → mmu p.registers ≡ true → walks p a ≡ true
  walked f t = and_both (mmu p.registers) (not (alignment_faults p.registers a)) t (rw f)

  translated_alike : alignment_faults p.registers a ≡ false → DecisionAlike (decided p.registers a mapping)
  unfolding committed
  translated_alike f =
      let long : length m.side.backing.memory ≡ length p.memory = k.side_is.backing.memory_long ∙ sym k.long in
      let r4 : mmu p.registers ≡ true → R4 p h va = λ t. allowed.r4 (walked f t) in
      let r5 : mmu p.registers ≡ true → R5 h = λ t. allowed.r5 (walked f t) in
      subst DecisionAlike (sym (decided_by_lem p.registers a mapping f))
      (record {
        same = checked_agrees m.side.backing p h long k.same_map k.side.words m.entries k.tlb a r4 r5 ∙ sym (reach_aligned p a f);
        shared = record {
          registers = k.registers;
          calls = calls_after m.counts mapping ∙ k.calls;
          long = k.long;
          whole = k.whole;
          aligned = k.aligned;
          side_is = k.side_is;
          same_map = k.same_map;
          side = k.side;
          tlb =
              tlb_committed m.side.backing p h long k.same_map k.side.words m.entries k.tlb a r4 r5 k.aligned m.cp15.pointer
              (λ t. allowed.r6 (walked f t));
        };
      })

  misaligned_alike : alignment_faults p.registers a ≡ true → DecisionAlike (decided p.registers a mapping)
  unfolding committed
  misaligned_alike f =
      subst DecisionAlike (sym (decided_unaligned p.registers a mapping f)) (record { same = sym (reach_misaligned p a f); shared = k })

  decision_alike : DecisionAlike (decision m a)
  unfolding decision
  decision_alike =
      subst (λ (r : Registers). DecisionAlike (decided r a (translation m.entries r (physical_of m) va))) (sym k.registers)
      (case (alignment_faults p.registers a) misaligned_alike translated_alike)

  decision_ranged : CheckedRanged va (decision m a).checked
  unfolding decision
  decision_ranged =
      let r = m.cp15.registers in
      (decided_ranged r a (translation m.entries r (physical_of m) va)
      (translation_serves m.entries r (physical_of m) va es k.side_is.backing.memory_bytes (cleared_low a low))).ranged

  -- ---- the access

  -- the machine once TLB and misses have changed
  abbrev m₁ : Machine
  m₁ = committed m (decision m a).mapping

  -- the history after the access, by what is decided of it
  abbrev after : Result Place Cause → History
  after c = after_kind a.kind (after_reach h va c) (plain_physical p) va c

  module _ (l : Place) (e : (decision m a).checked ≡ Ok l) where
    reached : plain_reach p a ≡ Ok l
    reached = sym decision_alike.same ∙ e

    passes : Passes n m₁ p (after_reach h va (Ok l)) a l
    unfolding after_reach
    passes =
        let s = decision_alike.shared in
        let r : CheckedRanged va (Ok l) = subst (λ (c : Result Place Cause). CheckedRanged va c) e decision_ranged in
        record {
          shared = record {
            registers = s.registers;
            calls = s.calls;
            long = s.long;
            whole = s.whole;
            aligned = s.aligned;
            side_is = s.side_is;
            same_map = s.same_map;
            side = reach_side h va l m₁.side p.memory s.side (subst (λ (c : Result Place Cause). R2 h va c) reached allowed.r2);
            tlb = tlb_history p.registers.base p.memory p.bad h m₁.entries s.tlb (after_reach h va (Ok l)) refl (λ w t. t);
          };
          here = reach_here h va l;
          width = width;
          within = r.within;
        }

    passed_alike : (x : Kind) → Alike n (passed m₁ a l x) (plain_passed p a l x) (after_kind x (after_reach h va (Ok l)) (plain_physical p) va (Ok l))
    passed_alike Load = load_alike n m₁ p (after_reach h va (Ok l)) a l passes
    passed_alike SignedLoad = load_alike n m₁ p (after_reach h va (Ok l)) a l passes
    passed_alike (Store v) = store_alike n m₁ p (after_reach h va (Ok l)) a v l passes
    passed_alike (Swap v) = swap_alike n m₁ p (after_reach h va (Ok l)) a v l passes

  -- an access that is denied leaves the history as it was
  denied_after : (x : Kind) (s : Status) (d : ℕ) → after_kind x (after_reach h va (Err (cause_from s d))) (plain_physical p) va (Err (cause_from s d)) ≡ h
  unfolding after_reach after_store
  denied_after Load s d = refl
  denied_after SignedLoad s d = refl
  denied_after (Store v) s d = refl
  denied_after (Swap v) s d = refl

  by_check : (c : Result Place Cause) → (decision m a).checked ≡ c → Alike n (access m a) (plain_access p a) (after c)
  by_check (Err why) e =
      subst (λ (g : History). Alike n (access m a) (plain_access p a) g) (sym (denied_after a.kind why.status why.domain))
      (alike_by n (access m a) (faulted m₁ why.status why.domain a.address) (plain_access p a) (plain_faulted p why.status why.domain a.address) h
      (access_denied m m₁ a (decision m a) refl refl why.status why.domain e)
      (access_by p a (Err why) (sym decision_alike.same ∙ e) ∙ at_denied p a why.status why.domain)
      (faulted_alike n m₁ p h decision_alike.shared why.status why.domain a.address))
  by_check (Ok l) e =
      alike_by n (access m a) (passed m₁ a l a.kind) (plain_access p a) (plain_passed p a l a.kind) (after (Ok l))
      (access_passed m m₁ a (decision m a) refl refl l e) (access_by p a (Ok l) (reached l e) ∙ at_passed p a l) (passed_alike l e a.kind)

  pub access_step : Alike n (access m a) (plain_access p a)
      (after_kind a.kind (after_reach h (cleared a) (plain_reach p a)) (plain_physical p) (cleared a) (plain_reach p a))
  access_step = by_check (plain_reach p a) decision_alike.same
