-- A load that misses: the line that is filled, or the bytes that are read from memory, are the plain machine's.
use Rattle.std.specs.Prelude.{None}
use Prim.Native.Nat.{ℕ, ◌+◌, ◌*◌, ◌/◌, ◌%◌, ◌<◌, ◌≤◌}
use native.Mathlib.Omega.{arith}
use mathlib.Core.Bool.{true, false, ◌||◌}
use mathlib.Core.Logic.{◌≢◌}
use mathlib.Core.Path.{◌≡◌, refl, sym, ◌∙◌, ap, subst}
use mathlib.Core.List.{List}
use lib.Dec.{eqb, ltb}
use lib.ListN.{length, get_or}
use borrow.Author.Tests.{eqb-true, eqb-false, ltb-true, ltb-false}
use Rattle.values.specs.Addresses.{virtual_line, physical_line, set_of, tag_of}
use Rattle.values.specs.declared.VirtualAddress.{VirtualAddress}
use Rattle.values.specs.declared.PhysicalAddress.{PhysicalAddress}
use Rattle.values.specs.declared.Line.{Line}
use Rattle.values.proofs.Cases.{case, clash}
use Rattle.buffer.specs.Buffer.{Backing, physical_behind, drained, ready}
use Rattle.buffer.proofs.Below.{below}
use Rattle.buffer.proofs.Lengths.{bad_ready}
use Rattle.cache.specs.Dcache.{Dcache, Side, side_from, find, victim, fresh_line, halves_sent, gave_way, filled}
use Rattle.cache.proofs.PutGet.{line_read_lem, other_read, byte_read, byte_before_read, byte_behind_read}
use Rattle.cache.proofs.PutGet.{way_backing, line_way, other_way, way_store, read_into, fill_cases}
use Rattle.bus.specs.Physical.{is_bad, line_aborts}
use Rattle.bus.proofs.Laws.{line_inside, line_good}
use Rattle.cache.proofs.Unchanged.{victim_low, memory_way, bad_way}
use Rattle.soundness_laws.proofs.BackingKept.{BackingIs}
use Rattle.soundness_laws.proofs.CacheKept.{SideIs, halves_kept, way_kept}
use Rattle.terms.specs.History.{Stage, History}
use Rattle.terms.specs.Rules.{is_stored}
use Rattle.terms.proofs.Invariant.{at, dirty_at, Undirty, Staged, by_word, by_line, SideAgrees}
use Rattle.terms.proofs.BackingAgrees.{drained_memory_below, below_ready, ready_memory_below, staged_ready}
use Rattle.terms.proofs.HeldLines.{missed_frame}
use Rattle.terms.proofs.SentLines.{sent_below, sent_staged}

-- the buffer made ready for a read
pub ready_side : (n : ℕ) (s : Side) (k : SideIs n s) (pm : List ℕ) (h : History) (a w : ℕ) → SideAgrees s pm h
    → SideAgrees (side_from s.cache (ready s.backing a w)) pm h
ready_side n s k pm h a w g =
    record {
      cache = g.cache;
      good = λ i x v e. rw (bad_ready s.backing a w) (g.good i x v e);
      under = λ x u. below_ready n s.backing k.backing a w x ∙ g.under x u;
      words = staged_ready n s.backing k.backing pm (by_word h) a w g.words;
      lines = staged_ready n s.backing k.backing pm (by_line h) a w g.lines;
    }

module _ (n : ℕ) (s : Side) (k : SideIs n s) (pm : List ℕ) (h : History) (g : SideAgrees s pm h) (va : VirtualAddress) (pa : PhysicalAddress)
    (here : h.reached (virtual_line va) (physical_line pa) ≡ true) (miss : find s.cache.lines va ≡ None) where
  not_held : (i : ℕ) → (at s.cache.lines i).valid ≡ true → (at s.cache.lines i).frame ≡ pa.0 / 32 → ⊥
  not_held i u e = missed_frame n s.cache k.cache h.reached g.cache.one g.cache.line_reached va (pa.0 / 32) here i miss u e

  -- ---- an uncached load

  pub uncached_byte : (w x : ℕ) → pa.0 ≤ x → x < pa.0 + w → x / 32 ≡ pa.0 / 32 → get_or (ready s.backing pa.0 w).memory x 0 ≡ get_or pm x 0
  uncached_byte w x p q e =
      ready_memory_below n s.backing k.backing pa.0 w x p q ∙ g.under x (λ i u f. absurd (not_held i u (f ∙ e)))

  -- ---- a swap, once the buffer is drained

  pub drained_byte : (x : ℕ) → x / 32 ≡ pa.0 / 32 → get_or (drained s.backing).memory x 0 ≡ get_or pm x 0
  drained_byte x e = drained_memory_below n s.backing k.backing x ∙ g.under x (λ i u f. absurd (not_held i u (f ∙ e)))

  -- ---- a fill: the victim gives way

  abbrev j : ℕ
  j = victim s.cache va

  abbrev w : Side
  w = (gave_way s va pa).side

  abbrev gone : Backing
  gone = halves_sent s.backing (at s.cache.lines j) s.cache.store (j * 32)

  low : j < 512
  low = victim_low s.cache va (let p = k.cache.pointers (set_of va) in omega arith)

  in_set : j / 32 ≡ set_of va
  in_set = let p = k.cache.pointers (set_of va) in quotient (set_of va) (get_or s.cache.pointers (set_of va) 0) p
    where
      quotient : (q p : ℕ) → p ≤ 31 → (q * 32 + p) / 32 ≡ q
      quotient q p r = omega arith

  gone_is : BackingIs n gone
  gone_is =
      halves_kept n s.backing (at s.cache.lines j) s.cache.store (j * 32) (k.cache.lines j) k.cache.store_bytes
      (omega (arith, k.cache.shape.store_long, low)) k.backing

  -- no line is left in its place
  empty_j {ℓ} : {A : Type ℓ} → (at w.cache.lines j).valid ≡ true → A
  empty_j v = clash v (ap (λ (y : Line). y.valid) (line_way s va pa))

  -- a fact about a valid line that is left, from the old lines
  by_old {ℓ} : (P : ℕ → Line → Type ℓ) → ((i : ℕ) → (at s.cache.lines i).valid ≡ true → P i (at s.cache.lines i)) → (i : ℕ)
      → (at w.cache.lines i).valid ≡ true → P i (at w.cache.lines i)
  by_old P old i v =
      case (eqb i j)
      (λ t. empty_j (subst (λ (q : ℕ). (at w.cache.lines q).valid ≡ true) (eqb-true i j t) v))
      (λ t.
      let e = other_way s va pa i (eqb-false i j t) in
      subst (P i) (sym e) (old i (sym (ap (λ (y : Line). y.valid) e) ∙ v)))

  -- no other line than the victim
  others : (x : ℕ) → Undirty w.cache.lines x → (i : ℕ) → i ≢ j → (at s.cache.lines i).valid ≡ true
      → (at s.cache.lines i).frame ≡ x / 32 → dirty_at (at s.cache.lines i) x ≡ false
  others x u i d v f =
      let e = other_way s va pa i d in
      subst (λ (y : Line). dirty_at y x ≡ false) e (u i (ap (λ (y : Line). y.valid) e ∙ v) (ap (λ (y : Line). y.frame) e ∙ f))

  pub way_side : SideAgrees (gave_way s va pa).side pm h
  way_side =
      record {
        cache = record {
          held = λ i x v b.
              ap (λ (l : List ℕ). get_or l (i * 32 + x) 0) (way_store s va pa)
              ∙ by_old (λ (q : ℕ) (y : Line). get_or s.cache.store (q * 32 + x) 0 ≡ get_or pm (y.frame * 32 + x) 0) (λ q u. g.cache.held q x u b) i v;
          line_reached = by_old (λ (i : ℕ) (y : Line). h.reached (y.tag * 16 + i / 32) y.frame ≡ true) g.cache.line_reached;
          dirty_stored =
              by_old (λ (i : ℕ) (y : Line). (y.low || y.high) ≡ true → is_stored (h.line_stage y.frame) ≡ true) g.cache.dirty_stored;
          dirty_through =
              by_old (λ (i : ℕ) (y : Line). (y.low || y.high) ≡ true → h.through y.frame ≡ y.tag * 16 + i / 32) g.cache.dirty_through;
          one = g.cache.one;
        };
        good = λ i x v e.
            rw (bad_way s va pa)
            (by_old (λ (q : ℕ) (y : Line). x / 32 ≡ y.frame → is_bad s.backing.bad (x / 4) ≡ false) (λ q u f. g.good q x u f) i v e);
        under = λ x u.
            ap (λ (b : Backing). below b x) (way_backing s va pa) ∙ below_ready n gone gone_is (pa.0 / 32 * 32) 32 x
            ∙ sent_below n s k pm h g j low x (others x u);
        words = staged (by_word h) g.words;
        lines = staged (by_line h) g.lines;
      }
    where
      staged : (stage : ℕ → Stage) → Staged s.backing pm stage → Staged w.backing pm stage
      staged stage q =
          subst (λ (b : Backing). Staged b pm stage) (sym (way_backing s va pa))
          (staged_ready n gone gone_is pm stage (pa.0 / 32 * 32) 32 (sent_staged n s k pm h g j low stage q))

  -- a byte of the line that is read
  pub way_byte : (x : ℕ) → x / 32 ≡ pa.0 / 32 → get_or (gave_way s va pa).side.backing.memory x 0 ≡ get_or pm x 0
  way_byte x e =
      ap (λ (y : Backing). get_or y.memory x 0) (way_backing s va pa)
      ∙ ready_memory_below n gone gone_is (pa.0 / 32 * 32) 32 x (omega arith) (omega arith)
      ∙ sent_below n s k pm h g j low x (λ i d v f. absurd (not_held i v (f ∙ e)))

  -- ---- the line is read

  module _ (whole : line_aborts (physical_behind s.backing) pa ≡ false) where
    inside : pa.0 / 32 * 32 + 32 ≤ length w.backing.memory
    inside = let i = line_inside (physical_behind s.backing) pa whole in let e = memory_way s va pa in omega arith

    abbrev c' : Dcache
    c' = read_into s va pa

    w_is : SideIs n w
    w_is = way_kept n s va pa k

    line_j : at c'.lines j ≡ fresh_line (tag_of va) (pa.0 / 32)
    line_j =
        line_read_lem w.cache j va pa w.backing.memory (let e = w_is.cache.shape.lines_long in let b = low in omega arith)

    other : (i : ℕ) → i ≢ j → at c'.lines i ≡ at w.cache.lines i
    other i d = other_read w.cache j va pa w.backing.memory i d

    store_fits_lem : j * 32 + 32 ≤ length w.cache.store
    store_fits_lem = omega (arith, w_is.cache.shape.store_long, low)

    held' : (i x : ℕ) → (at c'.lines i).valid ≡ true → x < 32 → get_or c'.store (i * 32 + x) 0 ≡ get_or pm ((at c'.lines i).frame * 32 + x) 0
    held' i x v b =
        case (eqb i j)
        (λ t.
        let e = eqb-true i j t in
        subst (λ (q : ℕ). get_or c'.store (q * 32 + x) 0 ≡ get_or pm ((at c'.lines q).frame * 32 + x) 0) (sym e)
        (byte_read w.cache j va pa w.backing.memory store_fits_lem inside x b ∙ way_byte (pa.0 / 32 * 32 + x) (omega arith)
        ∙ ap (λ (y : Line). get_or pm (y.frame * 32 + x) 0) (sym line_j)))
        (λ t.
        let d = eqb-false i j t in
        let e = other i d in
        store_same d ∙ way_side.cache.held i x (sym (ap (λ (y : Line). y.valid) e) ∙ v) b ∙ ap (λ (y : Line). get_or pm (y.frame * 32 + x) 0) (sym e))
      where
        store_same : i ≢ j → get_or c'.store (i * 32 + x) 0 ≡ get_or w.cache.store (i * 32 + x) 0
        store_same d =
            case (ltb i j)
            (λ t. let y = ltb-true i j t in byte_before_read w.cache j va pa w.backing.memory store_fits_lem inside (i * 32 + x) (omega arith))
            (λ t.
            let y = ltb-false i j t in
            byte_behind_read w.cache j va pa w.backing.memory store_fits_lem inside (i * 32 + x) (let z = above d y in omega arith))
          where
            above : i ≢ j → j ≤ i → j < i
            above r q = case (eqb i j) (λ u. absurd (r (eqb-true i j u))) (λ u. let z = eqb-false i j u in omega arith)

    -- a fact about a valid line of the new lines, from the new line and those that were left
    by_line_lem {ℓ} : (P : ℕ → Line → Type ℓ) → P j (fresh_line (tag_of va) (pa.0 / 32))
        → ((i : ℕ) → (at w.cache.lines i).valid ≡ true → P i (at w.cache.lines i)) → (i : ℕ) → (at c'.lines i).valid ≡ true
        → P i (at c'.lines i)
    by_line_lem P new old i v =
        case (eqb i j)
        (λ t. let e = eqb-true i j t in subst (λ (q : ℕ). P q (at c'.lines q)) (sym e) (subst (P j) (sym line_j) new))
        (λ t.
        let e = other i (eqb-false i j t) in
        subst (P i) (sym e) (old i (sym (ap (λ (y : Line). y.valid) e) ∙ v)))

    virtual_j : va.0 / 512 * 16 + j / 32 ≡ va.0 / 32
    virtual_j = ap (λ (y : ℕ). va.0 / 512 * 16 + y) in_set ∙ (let e : va.0 / 512 * 16 + va.0 / 32 % 16 ≡ va.0 / 32 = omega arith in e)

    -- the new line has no dirty half, and its place was empty
    undirty : (x : ℕ) → Undirty c'.lines x → Undirty w.cache.lines x
    undirty x u i v f =
        case (eqb i j)
        (λ t. empty_j (subst (λ (q : ℕ). (at w.cache.lines q).valid ≡ true) (eqb-true i j t) v))
        (λ t.
        let e = other i (eqb-false i j t) in
        subst (λ (y : Line). dirty_at y x ≡ false) e (u i (ap (λ (y : Line). y.valid) e ∙ v) (ap (λ (y : Line). y.frame) e ∙ f)))

    read_side : SideAgrees (side_from (read_into s va pa) (gave_way s va pa).side.backing) pm h
    read_side =
        record {
          cache = record {
            held = held';
            line_reached =
                by_line_lem (λ (i : ℕ) (y : Line). h.reached (y.tag * 16 + i / 32) y.frame ≡ true)
                (ap (λ (q : ℕ). h.reached q (pa.0 / 32)) virtual_j ∙ here) way_side.cache.line_reached;
            dirty_stored =
                by_line_lem (λ (i : ℕ) (y : Line). (y.low || y.high) ≡ true → is_stored (h.line_stage y.frame) ≡ true)
                (λ d. clash {b = false} d refl) way_side.cache.dirty_stored;
            dirty_through =
                by_line_lem (λ (i : ℕ) (y : Line). (y.low || y.high) ≡ true → h.through y.frame ≡ y.tag * 16 + i / 32)
                (λ d. clash {b = false} d refl) way_side.cache.dirty_through;
            one = g.cache.one;
          };
          good = λ i x v e.
              by_line_lem (λ (q : ℕ) (y : Line). x / 32 ≡ y.frame → is_bad w.backing.bad (x / 4) ≡ false)
              (λ f. rw (bad_way s va pa) (line_good (physical_behind s.backing) pa whole x f)) (λ q u f. way_side.good q x u f) i v e;
          under = λ x u. way_side.under x (undirty x u);
          words = way_side.words;
          lines = way_side.lines;
        }

  pub filled_side : SideAgrees (filled s va pa).side pm h
  filled_side = fill_cases s va pa (λ (t : Side). SideAgrees t pm h) (λ t. way_side) read_side
