-- A store that hits: the line and its half's mark change, and the plain machine's memory.
use Rattle.std.specs.Prelude.{Some}
use Prim.Native.Nat.{ℕ, ◌+◌, ◌-◌, ◌*◌, ◌/◌, ◌%◌, ◌<◌, ◌≤◌}
use native.Mathlib.Omega.{arith}
use mathlib.Core.Bool.{true, false, ◌||◌}
use mathlib.Core.Logic.{◌≢◌}
use mathlib.Core.Path.{◌≡◌, sym, ◌∙◌, ap, subst}
use mathlib.Core.List.{List}
use lib.Dec.{eqb, ltb}
use lib.ListN.{length, get_or}
use borrow.Author.Tests.{eqb-true, eqb-false, eq-eqb, ne_eqb, ltb-true, ltb-false, lt-ltb, le-ltb}
use Rattle.values.specs.Addresses.{virtual_line, physical_line, offset_of}
use Rattle.values.specs.declared.VirtualAddress.{VirtualAddress}
use Rattle.values.specs.declared.Line.{Line}
use Rattle.values.proofs.Cases.{case, clash}
use Rattle.words.specs.Words.{stored}
use Rattle.buffer.proofs.Below.{below}
use Rattle.cache.specs.Dcache.{Dcache, Side, side_from, find, marked, hit_store}
use Rattle.cache.proofs.PutGet.{SameLine, line_stored, other_stored, same_stored, byte_stored, byte_before_stored, byte_behind_stored}
use Rattle.cache.proofs.Finds.{found}
use Rattle.soundness_laws.proofs.CacheKept.{SideIs}
use Rattle.translation.specs.declared.Place.{Place}
use Rattle.terms.specs.History.{History, with_store}
use Rattle.terms.specs.Rules.{is_stored}
use Rattle.terms.proofs.Invariant.{at, virtual_at, dirty_at, Undirty, by_word, by_line, SideAgrees}
use Rattle.terms.proofs.SettledBytes.{Outside, outside_stored}
use Rattle.terms.proofs.BackingAgrees.{staged_hit}
use Rattle.terms.proofs.HeldLines.{found_virtual, same_frame, found_frame}
use Rattle.terms.proofs.StoredBytes.{inside_or, words_stored, lines_stored}

-- ---- the mark

-- the half of a byte of the store is dirty
marked_dirty : (l : Line) (o x : ℕ) → ltb (x % 32) 16 ≡ ltb o 16 → dirty_at (marked l o) x ≡ true
marked_dirty l o x e = case (ltb o 16) (λ t. rw (e, t)) (λ t. rw (e, t))

-- a half that is not dirty after it was not dirty before
marked_clean : (l : Line) (o x : ℕ) → dirty_at (marked l o) x ≡ false → dirty_at l x ≡ false
marked_clean l o x e =
    case (ltb o 16)
    (λ t. case (ltb (x % 32) 16) (λ u. clash (marked_dirty l o x (u ∙ sym t)) e) (λ u. let f : l.high ≡ false = rw (t, u) at e in rw u f))
    (λ t. case (ltb (x % 32) 16) (λ u. let f : l.low ≡ false = rw (t, u) at e in rw u f) (λ u. clash (marked_dirty l o x (u ∙ sym t)) e))

module _ (n : ℕ) (s : Side) (k : SideIs n s) (pm : List ℕ) (long : length pm ≡ n) (h : History) (g : SideAgrees s pm h) (va : VirtualAddress)
    (l : Place) (w v i : ℕ) (here : h.reached (virtual_line va) (physical_line l.address) ≡ true) (hit : find s.cache.lines va ≡ Some i)
    (fits : l.address.0 % 4 + w ≤ 4) (offset : l.address.0 % 32 ≡ va.0 % 32) where
  abbrev c : Dcache
  c = s.cache

  abbrev c' : Dcache
  c' = hit_store c i va w v

  abbrev a : ℕ
  a = l.address.0

  abbrev pm' : List ℕ
  pm' = stored w pm a v

  valid_i : (at c.lines i).valid ≡ true
  valid_i = (found c.lines va i hit).valid

  low : i < 512
  low = (found c.lines va i hit).low

  frame_i : (at c.lines i).frame ≡ a / 32
  frame_i = found_frame n c k.cache h.reached g.cache.one g.cache.line_reached va (a / 32) here i hit

  only : (j : ℕ) → (at c.lines j).valid ≡ true → (at c.lines j).frame ≡ a / 32 → j ≡ i
  only j u e = same_frame n c k.cache h.reached g.cache.one g.cache.line_reached j i u valid_i (e ∙ sym frame_i)

  same : (j : ℕ) → SameLine (at c.lines j) (at c'.lines j)
  same j = same_stored c i va w v j

  was_valid : (j : ℕ) → (at c'.lines j).valid ≡ true → (at c.lines j).valid ≡ true
  was_valid j u = sym (same j).valid ∙ u

  line_i : at c'.lines i ≡ marked (at c.lines i) (offset_of va)
  line_i = line_stored c i va w v (found c.lines va i hit).there

  inside : a + w ≤ length pm
  inside = let q = (k.cache.lines i).inside valid_i in let f = frame_i in omega arith

  store_long : length c.store ≡ 16384
  store_long = k.cache.shape.store_long

  -- ---- the bytes held

  held_here : (x : ℕ) → x < 32 → get_or c'.store (i * 32 + x) 0 ≡ get_or pm' (a / 32 * 32 + x) 0
  held_here x b =
      inside_or (va.0 % 32) w x
      (λ p q.
      let e : i * 32 + va.0 % 32 + (x - va.0 % 32) ≡ i * 32 + x = omega arith in
      let f : a + (x - va.0 % 32) ≡ a / 32 * 32 + x = omega arith in
      ap (λ (y : ℕ). get_or c'.store y 0) (sym e)
      ∙ byte_stored c i va w v pm a (x - va.0 % 32) (omega arith) (let z = store_long in let y = low in omega arith) inside
      ∙ ap (λ (y : ℕ). get_or pm' y 0) f)
      (λ o. store_same o ∙ g.cache.held i x valid_i b ∙ ap (λ (f : ℕ). get_or pm (f * 32 + x) 0) frame_i
      ∙ sym (outside_stored w pm a v (a / 32 * 32 + x) (λ p q. o (omega arith) (omega arith))))
    where
      store_same : Outside (va.0 % 32) w x → get_or c'.store (i * 32 + x) 0 ≡ get_or c.store (i * 32 + x) 0
      store_same o =
          case (ltb x (va.0 % 32)) (λ t. let y = ltb-true x (va.0 % 32) t in byte_before_stored c i va w v (i * 32 + x) (omega arith))
          (λ t.
          case (ltb x (va.0 % 32 + w)) (λ u. absurd (o (ltb-false x (va.0 % 32) t) (ltb-true x (va.0 % 32 + w) u)))
          (λ u. let y = ltb-false x (va.0 % 32 + w) u in byte_behind_stored c i va w v (i * 32 + x) (omega arith)))

  held_other : (j x : ℕ) → j ≢ i → (at c.lines j).valid ≡ true → x < 32
      → get_or c'.store (j * 32 + x) 0 ≡ get_or pm' ((at c.lines j).frame * 32 + x) 0
  held_other j x d u b =
      store_same ∙ g.cache.held j x u b ∙ sym (outside_stored w pm a v ((at c.lines j).frame * 32 + x) (λ p q. d (only j u (omega arith))))
    where
      store_same : get_or c'.store (j * 32 + x) 0 ≡ get_or c.store (j * 32 + x) 0
      store_same =
          case (ltb j i) (λ t. let y = ltb-true j i t in byte_before_stored c i va w v (j * 32 + x) (omega arith))
          (λ t. let y = ltb-false j i t in byte_behind_stored c i va w v (j * 32 + x) (behind y))
        where
          behind : i ≤ j → i * 32 + va.0 % 32 + w ≤ j * 32 + x
          behind y = let z : i < j = strict y in omega arith
            where
              strict : i ≤ j → i < j
              strict q = case (eqb j i) (λ t. absurd (d (eqb-true j i t))) (λ t. let r = eqb-false j i t in omega arith)

  held' : (j x : ℕ) → (at c'.lines j).valid ≡ true → x < 32 → get_or c'.store (j * 32 + x) 0 ≡ get_or pm' ((at c'.lines j).frame * 32 + x) 0
  held' j x u b =
      ap_frame
      (case (eqb j i)
      (λ t.
      let e = eqb-true j i t in
      subst (λ (q : ℕ). get_or c'.store (q * 32 + x) 0 ≡ get_or pm' ((at c.lines q).frame * 32 + x) 0) (sym e)
      (held_here x b ∙ ap (λ (f : ℕ). get_or pm' (f * 32 + x) 0) (sym frame_i)))
      (λ t. held_other j x (eqb-false j i t) (was_valid j u) b))
    where
      ap_frame : get_or c'.store (j * 32 + x) 0 ≡ get_or pm' ((at c.lines j).frame * 32 + x) 0
          → get_or c'.store (j * 32 + x) 0 ≡ get_or pm' ((at c'.lines j).frame * 32 + x) 0
      ap_frame e = e ∙ ap (λ (f : ℕ). get_or pm' (f * 32 + x) 0) (sym (same j).frame)

  -- ---- the bytes below

  under' : (x : ℕ) → Undirty c'.lines x → below s.backing x ≡ get_or pm' x 0
  under' x u =
      inside_or a w x
      (λ p q.
      clash (marked_dirty (at c.lines i) (offset_of va) x (half p q))
      (subst (λ (y : Line). dirty_at y x ≡ false) line_i
      (u i ((same i).valid ∙ valid_i) ((same i).frame ∙ frame_i ∙ (let e : a / 32 ≡ x / 32 = omega arith in e)))))
      (λ o. g.under x was_clean ∙ sym (outside_stored w pm a v x o))
    where
      half : a ≤ x → x < a + w → ltb (x % 32) 16 ≡ ltb (va.0 % 32) 16
      half p q =
          case (ltb (va.0 % 32) 16) (λ t. let y = ltb-true (va.0 % 32) 16 t in lt-ltb (x % 32) 16 (omega arith) ∙ sym t)
          (λ t. let y = ltb-false (va.0 % 32) 16 t in le-ltb (x % 32) 16 (omega arith) ∙ sym t)

      was_clean : Undirty c.lines x
      was_clean j y f =
          let z = u j ((same j).valid ∙ y) ((same j).frame ∙ f) in
          case (eqb j i)
          (λ t.
          let e = eqb-true j i t in
          subst (λ (q : ℕ). dirty_at (at c.lines q) x ≡ false) (sym e)
          (marked_clean (at c.lines i) (offset_of va) x
          (subst (λ (b : Line). dirty_at b x ≡ false) line_i (subst (λ (q : ℕ). dirty_at (at c'.lines q) x ≡ false) e z))))
          (λ t. subst (λ (b : Line). dirty_at b x ≡ false) (other_stored c i va w v j (eqb-false j i t)) z)

  -- ---- the history

  abbrev h' : History
  h' = with_store h va l.address

  stored_line : (j : ℕ) → (at c'.lines j).valid ≡ true → ((at c'.lines j).low || (at c'.lines j).high) ≡ true
      → (is_stored (h'.line_stage (at c'.lines j).frame) ≡ true) × (h'.through (at c'.lines j).frame ≡ virtual_at c'.lines j)
  stored_line j u d =
      case (eqb j i)
      (λ t.
      let e = eqb-true j i t in
      let f : eqb (at c'.lines j).frame (a / 32) ≡ true = eq-eqb _ _ ((same j).frame ∙ ap (λ (q : ℕ). (at c.lines q).frame) e ∙ frame_i) in
      let q : virtual_at c'.lines j ≡ virtual_line va =
      ap (λ (y : ℕ). y * 16 + j / 32) (same j).tag ∙ ap (λ (y : ℕ). virtual_at c.lines y) e ∙ found_virtual n c k.cache va i hit in
      (rw f, rw f (sym q)))
      (λ t.
      let r : at c'.lines j ≡ at c.lines j = other_stored c i va w v j (eqb-false j i t) in
      let f : eqb (at c.lines j).frame (a / 32) ≡ false = ne_eqb _ _ (λ e. eqb-false j i t (only j (was_valid j u) e)) in
      let b : ((at c.lines j).low || (at c.lines j).high) ≡ true = subst (λ (y : Line). (y.low || y.high) ≡ true) r d in
      rw (r, f) (g.cache.dirty_stored j (was_valid j u) b, g.cache.dirty_through j (was_valid j u) b))

  pub hit_store_side : SideAgrees (side_from (hit_store s.cache i va w v) s.backing) (stored w pm l.address.0 v) (with_store h va l.address)
  hit_store_side =
      record {
        cache = record {
          held = held';
          line_reached = λ j u.
              ap (λ (y : ℕ). h.reached (y * 16 + j / 32) (at c'.lines j).frame) (same j).tag
              ∙ ap (λ (y : ℕ). h.reached (virtual_at c.lines j) y) (same j).frame ∙ g.cache.line_reached j (was_valid j u);
          dirty_stored = λ j u d. (stored_line j u d).0;
          dirty_through = λ j u d. (stored_line j u d).1;
          one = g.cache.one;
        };
        good = λ j x u e. g.good j x (was_valid j u) (e ∙ (same j).frame);
        under = under';
        words = staged_hit n s.backing k.backing pm long w v (by_word h) (by_word (with_store h va l.address)) a (words_stored h va l w fits) g.words;
        lines = staged_hit n s.backing k.backing pm long w v (by_line h) (by_line (with_store h va l.address)) a (lines_stored h va l w fits) g.lines;
      }
