-- A store that passes: hit, buffered store, dropped store, direct store, or fault.
use Rattle.std.specs.Prelude.{Option, Some, None, Ok}
use Prim.Native.Nat.{ℕ, ◌+◌, ◌*◌, ◌/◌, ◌%◌, ◌≤◌}
use native.Mathlib.Omega.{arith}
use mathlib.Core.Bool.{true, false}
use mathlib.Core.Path.{◌≡◌, refl, sym, ◌∙◌, ap, subst}
use mathlib.Core.List.{List}
use lib.ListN.{length}
use borrow.Author.Tests.{le-ltb}
use Rattle.values.specs.Counts.{hit}
use Rattle.values.specs.declared.Access.{Access}
use Rattle.values.specs.declared.Counts.{Counts}
use Rattle.values.specs.declared.Registers.{Registers}
use Rattle.values.specs.declared.Answer.TheVariants as answer
use Rattle.values.proofs.Cases.{case}
use Rattle.words.specs.Words.{stored}
use Rattle.words.proofs.Laws.{length_stored}
use Rattle.bus.specs.Physical.{is_bad, outside, aborts}
use Rattle.bus.proofs.Laws.{answers, answers_good, inside_bad}
use Rattle.buffer.specs.Buffer.{Backing, with_memory, drained, buffered}
use Rattle.buffer.proofs.Lengths.{bad_drained, bad_buffered}
use Rattle.cache.specs.Dcache.{Side, side_from, find, hit_store}
use Rattle.translation.specs.Alignment.{cleared}
use Rattle.translation.specs.Faults.{buffers, other_status}
use Rattle.translation.specs.declared.Place.{Place}
use Rattle.translation.proofs.Laws.{in_word}
use Rattle.machine.specs.Machine.{Machine, memory_of, bad_of, physical_of, with_side, with_backing, with_counts, Stepped, answers_zero}
use Rattle.stores.specs.Stores.{store_hit, store_buffered, store_direct, store_miss, store}
use Rattle.stores.proofs.Laws.{miss_buffered, miss_direct, miss_faults, store_found_lem, store_none}
use Rattle.soundness_laws.proofs.AccessKept.{width_some}
use Rattle.plain.specs.Plain.{Plain, PlainStepped, plain_physical, plain_stepped, plain_store, plain_written}
use Rattle.plain.proofs.Laws.{store_in, store_drop, store_other}
use Rattle.terms.specs.History.{History, with_store, after_store}
use Rattle.terms.proofs.Invariant.{SideAgrees}
use Rattle.terms.proofs.HitStores.{hit_store_side}
use Rattle.terms.proofs.MissStores.{buffered_side, direct_side, dropped_side}
use Rattle.terms.proofs.TlbAgreement.{tlb_stored}
use Rattle.terms.proofs.Alike.{Alike, alike_by, still_alike}
use Rattle.terms.proofs.Passing.{Passes, plain_aborts, answers_inside, hit_answers, both_fault}

module _ (n : ℕ) (m : Machine) (p : Plain) (h : History) (a : Access) (v : ℕ) (l : Place) (k : Passes n m p h a l) where
  abbrev pa : ℕ
  pa = l.address.0

  abbrev entered : Backing
  entered = buffered m.side.backing l.address a.width v

  abbrev after : History
  after = after_store h (plain_physical p) (cleared a) (Ok l)

  fits : pa % 4 + a.width ≤ 4
  fits = in_word a pa k.width k.within

  -- ---- the word answers: the store is made

  module _ (b : aborts (plain_physical p) l.address ≡ false) where
    after_in : after ≡ with_store h (cleared a) l.address
    unfolding after_store
    after_in = rw b

    -- with a side that agrees after the store, and counts with as many calls
    stored_alike : (s : Side) (c : Counts) → s.backing.bad ≡ bad_of m
        → SideAgrees s (stored a.width p.memory pa v) (with_store h (cleared a) l.address)
        → c.calls ≡ m.counts.calls
        → Alike n (answers_zero (with_counts (with_side m s) c)) (plain_store p a v l) after
    stored_alike s c r g q =
        let x = answers_zero (with_counts (with_side m s) c) in
        subst (λ (f : History). Alike n x (plain_store p a v l) f) (sym after_in)
        (alike_by n x x (plain_store p a v l) (plain_stepped (plain_written p a v l) (answer.Value 0)) (with_store h (cleared a) l.address) refl
        (store_in p a l v b)
        (record {
          same_answer = refl;
          registers = k.shared.registers;
          calls = q ∙ k.shared.calls;
          long = length_stored a.width p.memory pa v ∙ k.shared.long;
          same_map = r ∙ k.shared.same_map;
          side = g;
          tlb = tlb_stored p.registers.base p.memory p.bad h m.entries k.shared.tlb a.width v (cleared a) l fits;
        }))

    module _ (miss : find m.side.cache.lines (cleared a) ≡ None) where
      -- the word stored to is not bad
      good_word : is_bad (bad_of m) (pa / 4) ≡ false
      good_word = ap (λ (x : List ℕ). is_bad x (pa / 4)) k.shared.same_map ∙ answers_good (plain_physical p) l.address b

      buffered_alike : outside (physical_of m) l.address ≡ false → Alike n (store_buffered m a v l) (plain_store p a v l) after
      unfolding store_buffered
      buffered_alike t =
          rw t
          (stored_alike (side_from m.side.cache (buffered m.side.backing l.address a.width v)) m.counts
          (bad_buffered m.side.backing l.address a.width v)
          (buffered_side n m.side k.shared.side_is p.memory k.shared.long h k.shared.side (cleared a) l a.width v k.here miss fits
          (width_some a.width k.width) (answers_inside n m p h a l k b) k.shared.whole good_word) refl)

      pub direct_alike : Alike n (store_direct m a v l) (plain_store p a v l) after
      unfolding store_direct
      direct_alike =
          let d = drained m.side.backing in
          stored_alike (side_from m.side.cache (with_memory d (stored a.width d.memory pa v))) m.counts (bad_drained m.side.backing)
          (direct_side n m.side k.shared.side_is p.memory k.shared.long h k.shared.side (cleared a) l a.width v k.here miss fits
          (width_some a.width k.width) (answers_inside n m p h a l k b) k.shared.whole good_word) refl

  pub hit_alike : (i : ℕ) → find m.side.cache.lines (cleared a) ≡ Some i → Alike n (store_hit m a v i) (plain_store p a v l) after
  unfolding store_hit
  hit_alike i e =
      let w = k.within in
      stored_alike (hit_answers n m p h a l k i e) (side_from (hit_store m.side.cache i (cleared a) a.width v) m.side.backing) (hit m.counts) refl
      (hit_store_side n m.side k.shared.side_is p.memory k.shared.long h k.shared.side (cleared a) l a.width v i k.here e fits
      (omega arith)) refl

  -- ---- the word aborts: the store is dropped, or faults

  module _ (b : aborts (plain_physical p) l.address ≡ true) where
    pub after_out : after_store h (plain_physical p) (cleared a) (Ok l) ≡ h
    unfolding after_store
    after_out = rw b

    lost_alike : (x : Stepped) → Alike n x (plain_store p a v l) h → Alike n x (plain_store p a v l) after
    lost_alike x y = subst (λ (f : History). Alike n x (plain_store p a v l) f) (sym after_out) y

    -- outside memory it takes no entry; at a bad word it takes one, of which no byte goes to memory
    dropped_alike : buffers p.registers l ≡ true → Alike n (store_buffered m a v l) (plain_store p a v l) h
    unfolding store_buffered
    dropped_alike f =
        let y = plain_stepped p (answer.Value 0) in
        let bad : is_bad (bad_of m) (pa / 4) ≡ true → Alike n (answers_zero (with_backing m entered)) y h = λ g. record {
          same_answer = refl;
          registers = k.shared.registers;
          calls = k.shared.calls;
          long = k.shared.long;
          same_map = bad_buffered m.side.backing l.address a.width v ∙ k.shared.same_map;
          side = dropped_side n m.side k.shared.side_is p.memory h k.shared.side l.address a.width v fits g;
          tlb = k.shared.tlb;
        } in
        case (outside (physical_of m) l.address)
        (λ t.
        rw t
        (alike_by n (answers_zero m) (answers_zero m) (plain_store p a v l) y h refl (store_drop p a l v b f)
        (still_alike n m p h k.shared (answer.Value 0) (answer.Value 0) refl)))
        (λ t.
        let g : is_bad (bad_of m) (pa / 4) ≡ true = sym (inside_bad (physical_of m) l.address t) ∙ sym (plain_aborts n m p h a l k) ∙ b in
        let x = answers_zero (with_backing m entered) in
        rw t (alike_by n x x (plain_store p a v l) y h refl (store_drop p a l v b f) (bad g)))

  -- ---- a miss

  buffers_same : buffers p.registers l ≡ buffers m.cp15.registers l
  buffers_same = ap (λ (r : Registers). buffers r l) (sym k.shared.registers)

  abbrev plain : PlainStepped
  plain = plain_store p a v l

  miss_alike : find m.side.cache.lines (cleared a) ≡ None → Alike n (store_miss m a v l) (plain_store p a v l) after
  miss_alike miss =
      case (aborts (physical_of m) l.address)
      (λ t.
      let b = plain_aborts n m p h a l k ∙ t in
      case (buffers m.cp15.registers l)
      (λ f.
      lost_alike b (store_miss m a v l)
      (alike_by n (store_miss m a v l) (store_buffered m a v l) plain plain h (miss_buffered m a v l f) refl (dropped_alike b (buffers_same ∙ f))))
      (λ f.
      lost_alike b (store_miss m a v l)
      (both_fault n m p h a l k (store_miss m a v l) plain (other_status l) (miss_faults m a v l f t) (store_other p a l v b (buffers_same ∙ f)))))
      (λ t.
      let b = plain_aborts n m p h a l k ∙ t in
      let inside = le-ltb (length (memory_of m)) (pa / 4 * 4 + 4) (answers (physical_of m) l.address t) in
      case (buffers m.cp15.registers l)
      (λ f. alike_by n (store_miss m a v l) (store_buffered m a v l) plain plain after (miss_buffered m a v l f) refl (buffered_alike b miss inside))
      (λ f. alike_by n (store_miss m a v l) (store_direct m a v l) plain plain after (miss_direct m a v l f t) refl (direct_alike b miss)))

  pub store_alike : Alike n (store m a v l) (plain_store p a v l) (after_store h (plain_physical p) (cleared a) (Ok l))
  store_alike = by (find m.side.cache.lines (cleared a)) refl
    where
      by : (x : Option ℕ) → find m.side.cache.lines (cleared a) ≡ x → Alike n (store m a v l) plain after
      by (Some i) e = alike_by n (store m a v l) (store_hit m a v i) plain plain after (store_found_lem m a v l (cleared a) i refl e) refl (hit_alike i e)
      by None e = alike_by n (store m a v l) (store_miss m a v l) plain plain after (store_none m a v l (cleared a) refl e) refl (miss_alike e)
