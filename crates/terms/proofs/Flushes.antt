-- Flushes of the Dcache, which R3 allows, and of the TLB. The one place where R3 is used.
use Rattle.std.specs.Prelude.{Option, Some, None}
use Prim.Native.Nat.{ℕ, ◌+◌, ◌*◌, ◌/◌, ◌%◌}
use mathlib.Core.Bool.{true, false, ◌||◌}
use mathlib.Core.Path.{◌≡◌, refl, sym, ◌∙◌, ap, subst}
use mathlib.Core.List.{List}
use lib.Dec.{eqb, ltb}
use lib.ListN.{get_or}
use borrow.Author.Tests.{eqb-true, eqb-false}
use Rattle.values.specs.Addresses.{virtual_line}
use Rattle.values.specs.Empty.{empty_line}
use Rattle.values.specs.declared.VirtualAddress.{VirtualAddress}
use Rattle.values.specs.declared.Line.{Line}
use Rattle.values.proofs.Cases.{case, clash, or_left, or_right}
use Rattle.bus.specs.Physical.{is_bad}
use Rattle.cache.specs.Dcache.{Dcache, Side, side_from, find, flushed_at, line_flushed, all_flushed}
use Rattle.cache.proofs.PutGet.{line_flushed_lem, other_flushed, flush_none, flushed_as, all_flushed_lem}
use Rattle.cache.proofs.Unchanged.{store_flushed_at}
use Rattle.cache.proofs.Finds.{found}
use Rattle.soundness_laws.proofs.CacheKept.{SideIs}
use Rattle.terms.specs.History.{Stage, never, stored, cleaned, drained, flushed, History, after_tlb_flush, after_whole_flush, after_whole_tlb_flush}
use Rattle.terms.specs.Rules.{is_stored, is_drained}
use Rattle.terms.proofs.Invariant.{at, dirty_at, Undirty, by_word, SideAgrees}
use Rattle.terms.proofs.HeldLines.{found_virtual}

-- ---- lines that are not dirty

-- a line with no dirty half holds no byte in one
clean_at : (l : Line) (x : ℕ) → (l.low || l.high) ≡ false → dirty_at l x ≡ false
clean_at l x e = case (dirty_at l x) (λ d. clash (dirty_half d) e) (λ d. d)
  where
    dirty_half : dirty_at l x ≡ true → (l.low || l.high) ≡ true
    dirty_half d = case (ltb (x % 32) 16) (λ u. or_left l.low l.high (rw u at d)) (λ u. or_right l.low l.high (rw u at d))

module _ (n : ℕ) (s : Side) (k : SideIs n s) (pm : List ℕ) (h : History) (g : SideAgrees s pm h) where
  -- a line whose physical line is not at stage `stored`
  not_stored : (i : ℕ) → (at s.cache.lines i).valid ≡ true → is_stored (h.line_stage (at s.cache.lines i).frame) ≡ false
      → ((at s.cache.lines i).low || (at s.cache.lines i).high) ≡ false
  not_stored i u e =
      case ((at s.cache.lines i).low || (at s.cache.lines i).high) (λ d. clash (g.cache.dirty_stored i u d) e) (λ d. d)

  -- ---- the whole Dcache

  pub all_flushed_side : ((l : ℕ) → is_stored (h.line_stage l) ≡ false)
      → SideAgrees (side_from (all_flushed s.cache) s.backing) pm (after_whole_flush h)
  all_flushed_side r =
      record {
        cache = record {
          held = λ i x u b. none i u;
          line_reached = λ i u. none i u;
          dirty_stored = λ i u d. none i u;
          dirty_through = λ i u d. none i u;
          one = record { physical = λ v p q a b. clash {b = false} a refl; virtual = λ v w p a b. clash {b = false} a refl };
        };
        good = λ i x u e. none i u;
        under = λ x u. g.under x (λ i v f. clean_at (at s.cache.lines i) x (not_stored i v (r (at s.cache.lines i).frame)));
        words = g.words;
        lines = g.lines;
      }
    where
      none : {A : Type 0} (i : ℕ) → (at (all_flushed s.cache).lines i).valid ≡ true → A
      none i u = clash {b = false} (subst (λ (l : Line). l.valid ≡ true) (all_flushed_lem s.cache i) u) refl

  -- ---- the line of an address

  module _ (va : VirtualAddress) (r : (l : ℕ) → h.through l ≡ virtual_line va → is_stored (h.line_stage l) ≡ false) where
    module _ (i : ℕ) (hit : find s.cache.lines va ≡ Some i) where
      abbrev c' : Dcache
      c' = flushed_at s.cache (Some i)

      -- the line had no dirty half: it would have been stored to through the address's line, and not cleaned since
      was_clean : ((at s.cache.lines i).low || (at s.cache.lines i).high) ≡ false
      was_clean =
          let u = (found s.cache.lines va i hit).valid in
          case ((at s.cache.lines i).low || (at s.cache.lines i).high)
          (λ d.
          clash (g.cache.dirty_stored i u d)
          (r (at s.cache.lines i).frame (g.cache.dirty_through i u d ∙ found_virtual n s.cache k.cache va i hit)))
          (λ d. d)

      -- a valid line is another than the one flushed, and as it was
      kept : (P : ℕ → Line → Type 0) → ((j : ℕ) → (at s.cache.lines j).valid ≡ true → P j (at s.cache.lines j))
          → (j : ℕ) → (at c'.lines j).valid ≡ true → P j (at c'.lines j)
      kept P old j u =
          case (eqb j i)
          (λ t.
          let f : at c'.lines j ≡ empty_line = ap (at c'.lines) (eqb-true j i t) ∙ line_flushed_lem s.cache i in
          clash {b = false} (subst (λ (y : Line). y.valid ≡ true) f u) refl)
          (λ t.
          let e = other_flushed s.cache i j (eqb-false j i t) in
          subst (P j) (sym e) (old j (sym (ap (λ (y : Line). y.valid) e) ∙ u)))

      undirty : (x : ℕ) → Undirty c'.lines x → Undirty s.cache.lines x
      undirty x u j v f =
          case (eqb j i)
          (λ t. subst (λ (q : ℕ). dirty_at (at s.cache.lines q) x ≡ false) (sym (eqb-true j i t)) (clean_at (at s.cache.lines i) x was_clean))
          (λ t.
          let e = other_flushed s.cache i j (eqb-false j i t) in
          subst (λ (y : Line). dirty_at y x ≡ false) e (u j (ap (λ (y : Line). y.valid) e ∙ v) (ap (λ (y : Line). y.frame) e ∙ f)))

      flushed_found : SideAgrees (side_from (flushed_at s.cache (Some i)) s.backing) pm h
      flushed_found =
          record {
            cache = record {
              held = λ j x u b.
                  ap (λ (y : List ℕ). get_or y (j * 32 + x) 0) (store_flushed_at s.cache (Some i))
                  ∙ kept (λ (q : ℕ) (y : Line). get_or s.cache.store (q * 32 + x) 0 ≡ get_or pm (y.frame * 32 + x) 0) (λ q v. g.cache.held q x v b) j u;
              line_reached = kept (λ (j : ℕ) (y : Line). h.reached (y.tag * 16 + j / 32) y.frame ≡ true) g.cache.line_reached;
              dirty_stored =
                  kept (λ (j : ℕ) (y : Line). (y.low || y.high) ≡ true → is_stored (h.line_stage y.frame) ≡ true) g.cache.dirty_stored;
              dirty_through =
                  kept (λ (j : ℕ) (y : Line). (y.low || y.high) ≡ true → h.through y.frame ≡ y.tag * 16 + j / 32) g.cache.dirty_through;
              one = g.cache.one;
            };
            good = λ j x u e.
                kept (λ (q : ℕ) (y : Line). x / 32 ≡ y.frame → is_bad s.backing.bad (x / 4) ≡ false) (λ q v f. g.good q x v f) j u e;
            under = λ x u. g.under x (undirty x u);
            words = g.words;
            lines = g.lines;
          }

    flushed_at_lem : (x : Option ℕ) → find s.cache.lines va ≡ x → SideAgrees (side_from (flushed_at s.cache x) s.backing) pm h
    flushed_at_lem (Some i) e = flushed_found i e
    flushed_at_lem None e =
        subst (λ (c : Dcache). SideAgrees (side_from c s.backing) pm h) (sym (flush_none s.cache)) g

    pub line_flushed_side : SideAgrees (side_from (line_flushed s.cache va) s.backing) pm h
    line_flushed_side =
        subst (λ (c : Dcache). SideAgrees (side_from c s.backing) pm h)
        (sym (flushed_as s.cache va (find s.cache.lines va) refl)) (flushed_at_lem (find s.cache.lines va) refl)

-- ---- the TLB

tlb_stored_stage : (t : Stage) → is_stored (after_tlb_flush t) ≡ is_stored t
tlb_stored_stage never = refl
tlb_stored_stage stored = refl
tlb_stored_stage cleaned = refl
tlb_stored_stage drained = refl
tlb_stored_stage flushed = refl

tlb_drained_stage : (t : Stage) → is_drained (after_tlb_flush t) ≡ is_drained t
tlb_drained_stage never = refl
tlb_drained_stage stored = refl
tlb_drained_stage cleaned = refl
tlb_drained_stage drained = refl
tlb_drained_stage flushed = refl

pub tlb_flushed_side : (s : Side) (pm : List ℕ) (h : History) → SideAgrees s pm h → SideAgrees s pm (after_whole_tlb_flush h)
tlb_flushed_side s pm h g =
    record {
      cache = g.cache;
      good = g.good;
      under = g.under;
      words = record {
        cleaned_below = λ x e. g.words.cleaned_below x (sym (tlb_stored_stage (by_word h x)) ∙ e);
        drained_settled = λ x e. g.words.drained_settled x (sym (tlb_drained_stage (by_word h x)) ∙ e);
      };
      lines = g.lines;
    }
