-- A clean of a line, and a drain.
use Rattle.std.specs.Prelude.{Option, Some, None}
use Prim.Native.Nat.{ℕ, ◌+◌, ◌*◌, ◌/◌, ◌%◌, ◌<◌}
use native.Mathlib.Omega.{arith}
use mathlib.Core.Bool.{Bool, true, false, ◌||◌}
use mathlib.Core.Logic.{◌≢◌}
use mathlib.Core.Path.{◌≡◌, refl, sym, ◌∙◌, ap, subst}
use mathlib.Core.List.{List}
use lib.Dec.{eqb, ltb}
use lib.ListN.{get_or}
use borrow.Author.Tests.{eqb-true, eqb-false, ne_eqb}
use Rattle.values.specs.Addresses.{virtual_line}
use Rattle.values.specs.declared.VirtualAddress.{VirtualAddress}
use Rattle.values.specs.declared.Line.{Line}
use Rattle.values.proofs.Cases.{case, clash, or_left, or_right}
use Rattle.buffer.specs.Buffer.{Backing, drained}
use Rattle.buffer.proofs.Lengths.{bad_drained}
use Rattle.cache.proofs.Unchanged.{bad_cleaned_at}
use Rattle.buffer.proofs.Below.{below}
use Rattle.cache.specs.Dcache.{Side, side_from, find, clean_line, cleaned_at, cleaned}
use Rattle.cache.proofs.PutGet.{SameLine, line_cleaned, other_cleaned, same_cleaned_at, backing_cleaned, clean_none, cleaned_as}
use Rattle.cache.proofs.Unchanged.{store_cleaned_at}
use Rattle.cache.proofs.Finds.{found}
use Rattle.soundness_laws.proofs.CacheKept.{SideIs}
use Rattle.terms.specs.History.{Stage, never, stored, cleaned as isCleaned, drained as isDrainedStage, flushed, History}
use Rattle.terms.specs.History.{after_clean, after_drain, after_line_clean, after_buffer_drain, line_of_word}
use Rattle.terms.specs.Rules.{is_stored, is_drained}
use Rattle.terms.proofs.Invariant.{at, virtual_at, dirty_at, Undirty, Staged, by_word, by_line, SideAgrees}
use Rattle.terms.proofs.BackingAgrees.{below_drained, staged_drained}
use Rattle.terms.proofs.HeldLines.{found_only, missed_virtual}
use Rattle.terms.proofs.SentLines.{sent_below, sent_staged}

-- ---- a drain

drain_stored : (t : Stage) → is_stored (after_drain t) ≡ is_stored t
drain_stored never = refl
drain_stored stored = refl
drain_stored isCleaned = refl
drain_stored isDrainedStage = refl
drain_stored flushed = refl

pub drained_side : (n : ℕ) (s : Side) (k : SideIs n s) (pm : List ℕ) (h : History) → SideAgrees s pm h
    → SideAgrees (side_from s.cache (drained s.backing)) pm (after_buffer_drain h)
drained_side n s k pm h g =
    record {
      cache = record {
        held = g.cache.held;
        line_reached = g.cache.line_reached;
        dirty_stored = λ i u d. drain_stored (h.line_stage (at s.cache.lines i).frame) ∙ g.cache.dirty_stored i u d;
        dirty_through = g.cache.dirty_through;
        one = g.cache.one;
      };
      good = λ i x u e. rw (bad_drained s.backing) (g.good i x u e);
      under = λ x u. below_drained n s.backing k.backing x ∙ g.under x u;
      words = staged_drained n s.backing k.backing pm (by_word h) g.words;
      lines = staged_drained n s.backing k.backing pm (by_line h) g.lines;
    }

-- ---- a clean: the Dcache and the buffer

module _ (n : ℕ) (s : Side) (k : SideIs n s) (pm : List ℕ) (h : History) (g : SideAgrees s pm h) (va : VirtualAddress) where
  module _ (i : ℕ) (hit : find s.cache.lines va ≡ Some i) where
    abbrev s' : Side
    s' = (cleaned_at s (Some i)).side

    same : (j : ℕ) → SameLine (at s.cache.lines j) (at s'.cache.lines j)
    same j = same_cleaned_at s (Some i) j

    was_valid : (j : ℕ) → (at s'.cache.lines j).valid ≡ true → (at s.cache.lines j).valid ≡ true
    was_valid j u = sym (same j).valid ∙ u

    low : i < 512
    low = (found s.cache.lines va i hit).low

    others : (x : ℕ) → Undirty s'.cache.lines x → (j : ℕ) → j ≢ i → (at s.cache.lines j).valid ≡ true
        → (at s.cache.lines j).frame ≡ x / 32 → dirty_at (at s.cache.lines j) x ≡ false
    others x u j d v f = subst (λ (y : Line). dirty_at y x ≡ false) (other_cleaned s i j d) (u j ((same j).valid ∙ v) ((same j).frame ∙ f))

    -- a line with a dirty half is another than the one cleaned, and as it was
    dirty_other : (j : ℕ) → ((at s'.cache.lines j).low || (at s'.cache.lines j).high) ≡ true → at s'.cache.lines j ≡ at s.cache.lines j
    dirty_other j d =
        case (eqb j i)
        (λ t.
        let e = eqb-true j i t in
        let f : at s'.cache.lines j ≡ clean_line (at s.cache.lines i) = ap (at s'.cache.lines) e ∙ line_cleaned s i in
        clash {b = false} (subst (λ (y : Line). (y.low || y.high) ≡ true) f d) refl)
        (λ t. other_cleaned s i j (eqb-false j i t))

    -- what holds of every valid line with a dirty half
    abbrev EachDirty : (ℕ → Line → Type 0) → List Line → Type 0
    EachDirty P lines = (j : ℕ) → (at lines j).valid ≡ true → ((at lines j).low || (at lines j).high) ≡ true → P j (at lines j)

    dirty_kept : (P : ℕ → Line → Type 0) → EachDirty P s.cache.lines → EachDirty P s'.cache.lines
    dirty_kept P old j u d =
        let e = dirty_other j d in
        subst (P j) (sym e) (old j (was_valid j u) (subst (λ (y : Line). (y.low || y.high) ≡ true) e d))

    cleaned_found : SideAgrees (cleaned_at s (Some i)).side pm h
    cleaned_found =
        record {
          cache = record {
            held = λ j x u b.
                ap (λ (y : List ℕ). get_or y (j * 32 + x) 0) (store_cleaned_at s (Some i)) ∙ g.cache.held j x (was_valid j u) b
                ∙ ap (λ (f : ℕ). get_or pm (f * 32 + x) 0) (sym (same j).frame);
            line_reached = λ j u.
                ap (λ (y : ℕ). h.reached (y * 16 + j / 32) (at s'.cache.lines j).frame) (same j).tag
                ∙ ap (λ (y : ℕ). h.reached (virtual_at s.cache.lines j) y) (same j).frame ∙ g.cache.line_reached j (was_valid j u);
            dirty_stored = dirty_kept (λ (j : ℕ) (y : Line). is_stored (h.line_stage y.frame) ≡ true) g.cache.dirty_stored;
            dirty_through = dirty_kept (λ (j : ℕ) (y : Line). h.through y.frame ≡ y.tag * 16 + j / 32) g.cache.dirty_through;
            one = g.cache.one;
          };
          good = λ j x u e. rw (bad_cleaned_at s (Some i)) (g.good j x (was_valid j u) (e ∙ (same j).frame));
          under = λ x u. ap (λ (b : Backing). below b x) (backing_cleaned s i) ∙ sent_below n s k pm h g i low x (others x u);
          words = subst (λ (b : Backing). Staged b pm (by_word h)) (sym (backing_cleaned s i)) (sent_staged n s k pm h g i low (by_word h) g.words);
          lines = subst (λ (b : Backing). Staged b pm (by_line h)) (sym (backing_cleaned s i)) (sent_staged n s k pm h g i low (by_line h) g.lines);
        }

    -- no line of the address has a dirty half left
    found_clean : (j : ℕ) → (at s'.cache.lines j).valid ≡ true → ((at s'.cache.lines j).low || (at s'.cache.lines j).high) ≡ true
        → virtual_at s'.cache.lines j ≡ virtual_line va → ⊥
    found_clean j u d e =
        let q : virtual_at s.cache.lines j ≡ virtual_line va = ap (λ (y : ℕ). y * 16 + j / 32) (sym (same j).tag) ∙ e in
        let r : j ≡ i = found_only n s.cache k.cache va i j hit (was_valid j u) q in
        let f : at s'.cache.lines j ≡ clean_line (at s.cache.lines i) = ap (at s'.cache.lines) r ∙ line_cleaned s i in
        clash {b = false} (subst (λ (y : Line). (y.low || y.high) ≡ true) f d) refl

  -- no line of the address has a dirty half
  abbrev Clean : Side → Type 0
  Clean t = (j : ℕ) → (at t.cache.lines j).valid ≡ true → ((at t.cache.lines j).low || (at t.cache.lines j).high) ≡ true
      → virtual_at t.cache.lines j ≡ virtual_line va → ⊥

  cleaned_at_lem : (x : Option ℕ) → find s.cache.lines va ≡ x → SideAgrees (cleaned_at s x).side pm h × Clean (cleaned_at s x).side
  cleaned_at_lem (Some i) e = (cleaned_found i e, found_clean i e)
  cleaned_at_lem None e =
      subst (λ (t : Side). SideAgrees t pm h × Clean t) (sym (clean_none s)) (g, λ j u d q. missed_virtual n s.cache k.cache va j e u q)

  -- ---- a clean: the history

  clean_stored : (b : Bool) (t : Stage) → is_stored t ≡ true → is_stored (after_clean b t) ≡ false → b ≡ true
  clean_stored true t p q = refl
  clean_stored false never p q = clash {b = false} p refl
  clean_stored false stored p q = clash {b = true} refl q
  clean_stored false isCleaned p q = clash {b = false} p refl
  clean_stored false isDrainedStage p q = clash {b = false} p refl
  clean_stored false flushed p q = clash {b = false} p refl

  clean_drained : (b : Bool) (t : Stage) → is_drained (after_clean b t) ≡ true → is_drained t ≡ true
  clean_drained b never p = refl
  clean_drained true stored p = clash {b = false} p refl
  clean_drained false stored p = clash {b = false} p refl
  clean_drained b isCleaned p = clash {b = false} p refl
  clean_drained b isDrainedStage p = refl
  clean_drained b flushed p = refl

  clean_others : (t : Stage) → is_stored t ≡ true → is_stored (after_clean false t) ≡ true
  clean_others never p = p
  clean_others stored p = refl
  clean_others isCleaned p = p
  clean_others isDrainedStage p = p
  clean_others flushed p = p

  module _ (t : Side) (a : SideAgrees t pm h) (c : Clean t) where
    abbrev v₀ : ℕ
    v₀ = virtual_line va

    dirty_half : (j x : ℕ) → dirty_at (at t.cache.lines j) x ≡ true → ((at t.cache.lines j).low || (at t.cache.lines j).high) ≡ true
    dirty_half j x d =
        case (ltb (x % 32) 16)
        (λ u. or_left (at t.cache.lines j).low (at t.cache.lines j).high (rw u at d))
        (λ u. or_right (at t.cache.lines j).low (at t.cache.lines j).high (rw u at d))

    -- a byte of a physical line that was last stored to through the address's line
    ours : (x : ℕ) → h.through (x / 32) ≡ v₀ → Undirty t.cache.lines x
    ours x e j u f =
        case (dirty_at (at t.cache.lines j) x)
        (λ d.
        let w = dirty_half j x d in
        absurd (c j u w (sym (a.cache.dirty_through j u w) ∙ ap h.through f ∙ e)))
        (λ d. d)

    staged : (line : ℕ → ℕ) → ((x : ℕ) → line x ≡ x / 32) → (stage : ℕ → Stage) → Staged t.backing pm stage
        → Staged t.backing pm (λ x. after_clean (eqb (h.through (line x)) v₀) (stage x))
    staged line f stage q =
        record {
          cleaned_below = λ x e.
              case (is_stored (stage x))
              (λ p.
              let r = eqb-true (h.through (line x)) v₀ (clean_stored (eqb (h.through (line x)) v₀) (stage x) p e) in
              a.under x (ours x (ap h.through (sym (f x)) ∙ r)))
              (λ p. q.cleaned_below x p);
          drained_settled = λ x e. q.drained_settled x (clean_drained (eqb (h.through (line x)) v₀) (stage x) e);
        }

    word_line : (x : ℕ) → line_of_word (x / 4) ≡ x / 32
    word_line x = omega arith

    history_cleaned : SideAgrees t pm (after_line_clean h v₀)
    history_cleaned =
        record {
          cache = record {
            held = a.cache.held;
            line_reached = a.cache.line_reached;
            dirty_stored = λ j u d.
                let f = (at t.cache.lines j).frame in
                let e : eqb (h.through f) v₀ ≡ false = ne_eqb (h.through f) v₀ (λ q. c j u d (sym (a.cache.dirty_through j u d) ∙ q)) in
                rw e (clean_others (h.line_stage f) (a.cache.dirty_stored j u d));
            dirty_through = a.cache.dirty_through;
            one = a.cache.one;
          };
          good = a.good;
          under = a.under;
          words = staged (λ x. line_of_word (x / 4)) word_line (by_word h) a.words;
          lines = staged (λ x. x / 32) (λ x. refl) (by_line h) a.lines;
        }

  pub cleaned_side : SideAgrees (cleaned s va).side pm (after_line_clean h (virtual_line va))
  cleaned_side =
      let x = find s.cache.lines va in
      let r = cleaned_at_lem x refl in
      subst (λ (t : Side). SideAgrees t pm (after_line_clean h (virtual_line va))) (sym (ap (λ (q : _). q.side) (cleaned_as s va x refl)))
      (history_cleaned (cleaned_at s x).side r.0 r.1)
