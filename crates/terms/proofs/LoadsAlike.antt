-- A load that passes: hit, fill, uncached load, or fault.
use Rattle.std.specs.Prelude.{Option, Some, None}
use Prim.Native.Nat.{ℕ, ◌+◌, ◌*◌, ◌/◌, ◌%◌, ◌<◌}
use native.Mathlib.Omega.{arith}
use mathlib.Core.Bool.{Bool, true, false, cond}
use mathlib.Core.Path.{◌≡◌, refl, sym, ◌∙◌, ap}
use lib.ListN.{get_or}
use Rattle.values.specs.Counts.{hit, sent}
use Rattle.values.specs.Counts as counts
use Rattle.values.specs.declared.Access.{Access}
use Rattle.values.specs.declared.Counts.{Counts}
use Rattle.values.specs.declared.Fault.{Fault}
use Rattle.values.specs.declared.Registers.{Registers}
use Rattle.values.proofs.Cases.{case}
use Rattle.words.specs.Words.{value_at}
use Rattle.words.specs.Signed.{load_answer}
use Rattle.words.proofs.Laws.{same_bytes}
use Rattle.bus.specs.Physical.{aborts, wanted_aborts, line_aborts}
use Rattle.buffer.specs.Buffer.{Backing, ready}
use Rattle.buffer.proofs.Lengths.{bad_ready}
use Rattle.cache.specs.Dcache.{Dcache, Side, side_from, find, hit_load, filled}
use Rattle.cache.proofs.Unchanged.{bad_filled}
use Rattle.cache.proofs.PutGet.{fill_backing}
use Rattle.cache.proofs.Finds.{found}
use Rattle.translation.specs.Alignment.{cleared}
use Rattle.translation.specs.Faults.{fills, fill_status, other_status, fault_set}
use Rattle.translation.specs.declared.Place.{Place}
use Rattle.machine.specs.Machine.{Machine, bad_of, physical_of, with_side, with_counts, stepped_from}
use Rattle.reach.specs.Reach.{faulted}
use Rattle.reach.proofs.Bounds.{in_line}
use Rattle.loads.specs.Loads.{load_hit, after_fill, load_fill, load_uncached, load_miss, load}
use Rattle.loads.proofs.Laws.{miss_fill, miss_uncached, miss_aborts, found_hit, found_none}
use Rattle.plain.specs.Plain.{Plain, plain_physical, plain_stepped, plain_faulted, plain_loaded, plain_load_aborts, plain_load}
use Rattle.plain.proofs.Laws.{load_in, load_fill_lem, load_other, load_aborts_fill, load_aborts_other}
use Rattle.terms.specs.History.{History}
use Rattle.terms.proofs.Invariant.{SideAgrees}
use Rattle.terms.proofs.Fills.{ready_side, uncached_byte, way_byte, filled_side}
use Rattle.terms.proofs.Alike.{Alike, alike_by}
use Rattle.terms.proofs.Passing.{Passes, plain_aborts, plain_wanted, hit_frame, hit_answers, hit_wanted, both_fault}

module _ (n : ℕ) (m : Machine) (p : Plain) (h : History) (a : Access) (l : Place) (k : Passes n m p h a l) where
  abbrev pa : ℕ
  pa = l.address.0

  -- a value loaded that is the plain machine's, with a side that agrees, and counts with as many calls
  loaded_alike : (s : Side) (c : Counts) (v : ℕ) → plain_load_aborts p l ≡ false → s.backing.bad ≡ bad_of m → SideAgrees s p.memory h
      → c.calls ≡ m.counts.calls → v ≡ value_at a.width p.memory pa
      → Alike n (stepped_from (with_counts (with_side m s) c) (load_answer a.kind a.width v)) (plain_load p a l) h
  loaded_alike s c v b r g q e =
      let x = stepped_from (with_counts (with_side m s) c) (load_answer a.kind a.width v) in
      let y = plain_stepped p (load_answer a.kind a.width (value_at a.width p.memory pa)) in
      alike_by n x x (plain_load p a l) y h refl (load_in p a l b)
      (record {
        same_answer = ap (load_answer a.kind a.width) e;
        registers = k.shared.registers;
        calls = q ∙ k.shared.calls;
        long = k.shared.long;
        same_map = r ∙ k.shared.same_map;
        side = g;
        tlb = k.shared.tlb;
      })

  -- a load from a line whose bytes are the plain machine's
  line_value : (c : Dcache) (i : ℕ) → ((x : ℕ) → x < 32 → get_or c.store (i * 32 + x) 0 ≡ get_or p.memory (pa / 32 * 32 + x) 0)
      → hit_load c i (cleared a) a.width ≡ value_at a.width p.memory pa
  unfolding hit_load
  line_value c i f =
      let o = (cleared a).0 % 32 in
      let b = in_line a k.width in
      let w = k.within in
      same_bytes a.width c.store p.memory (i * 32 + o) pa
      (λ j r.
      let e : i * 32 + o + j ≡ i * 32 + (o + j) = omega arith in
      let g : pa / 32 * 32 + (o + j) ≡ pa + j = omega arith in
      ap (λ (x : ℕ). get_or c.store x 0) e ∙ f (o + j) (omega arith) ∙ ap (λ (x : ℕ). get_or p.memory x 0) g)

  -- a load that may fill reads its line up to the wanted word, any other its own word
  load_aborts : (b : Bool) → wanted_aborts (plain_physical p) l.address ≡ b → aborts (plain_physical p) l.address ≡ b → plain_load_aborts p l ≡ b
  load_aborts b x y =
      case (fills p.registers l) (λ f. load_aborts_fill p l f ∙ x) (λ f. load_aborts_other p l f ∙ y)

  -- a hit gives the word that the plain machine reads
  hit_value : (i : ℕ) → find m.side.cache.lines (cleared a) ≡ Some i
      → hit_load m.side.cache i (cleared a) a.width ≡ value_at a.width p.memory pa
  hit_value i e =
      let c = m.side.cache in
      let v = (found c.lines (cleared a) i e).valid in
      let f = hit_frame n m p h a l k i e in
      line_value c i (λ x b. k.shared.side.cache.held i x v b ∙ ap (λ (y : ℕ). get_or p.memory (y * 32 + x) 0) f)

  pub hit_answer : (i : ℕ) → find m.side.cache.lines (cleared a) ≡ Some i → (load_hit m a i).answer ≡ plain_loaded p a l
  unfolding load_hit
  hit_answer i e = ap (load_answer a.kind a.width) (hit_value i e)

  pub hit_alike : (i : ℕ) → find m.side.cache.lines (cleared a) ≡ Some i → Alike n (load_hit m a i) (plain_load p a l) h
  unfolding load_hit
  hit_alike i e =
      loaded_alike m.side (hit m.counts) (hit_load m.side.cache i (cleared a) a.width)
      (load_aborts false (hit_wanted n m p h a l k i e) (hit_answers n m p h a l k i e)) refl k.shared.side refl (hit_value i e)

  module _ (miss : find m.side.cache.lines (cleared a) ≡ None) where
    -- what a fill leaves
    abbrev s : Side
    s = (filled m.side (cleared a) l.address).side

    abbrev after : Counts
    after =
        sent (cond (line_aborts (physical_of m) l.address) m.counts (counts.filled m.counts))
        (filled m.side (cleared a) l.address).halves

    same_calls : after.calls ≡ m.counts.calls
    same_calls = case (line_aborts (physical_of m) l.address) (λ t. rw t) (λ t. rw t)

    fill_side : SideAgrees s p.memory h
    fill_side = filled_side n m.side k.shared.side_is p.memory h k.shared.side (cleared a) l.address k.here miss

    fill_map : s.backing.bad ≡ bad_of m
    fill_map = bad_filled m.side (cleared a) l.address

    fill_value : value_at a.width s.backing.memory pa ≡ value_at a.width p.memory pa
    fill_value =
        let o = in_line a k.width in
        let q = k.within in
        same_bytes a.width s.backing.memory p.memory pa pa
        (λ j r.
        ap (λ (b : Backing). get_or b.memory (pa + j) 0) (fill_backing m.side (cleared a) l.address)
        ∙ way_byte n m.side k.shared.side_is p.memory h k.shared.side (cleared a) l.address k.here miss (pa + j) (omega arith))

    -- the wanted word or one before it aborts on both machines
    fill_faults : fills p.registers l ≡ true → wanted_aborts (physical_of m) l.address ≡ true → Alike n (load_fill m a l) (plain_load p a l) h
    unfolding load_fill after_fill faulted plain_faulted fault_set
    fill_faults f t =
        let b = load_aborts_fill p l f ∙ plain_wanted n m p h a l k ∙ t in
        let d : Fault = record { status = fill_status l; domain = l.domain; address = a.address } in
        let x = faulted (with_counts (with_side m s) after) (fill_status l) l.domain a.address in
        rw t
        (alike_by n x x (plain_load p a l) (plain_faulted p (fill_status l) l.domain a.address) h refl (load_fill_lem p a l b f)
        (record {
          same_answer = refl;
          registers = ap (λ (r : Registers). fault_set r d) k.shared.registers;
          calls = same_calls ∙ k.shared.calls;
          long = k.shared.long;
          same_map = fill_map ∙ k.shared.same_map;
          side = fill_side;
          tlb = k.shared.tlb;
        }))

    fill_serves : fills p.registers l ≡ true → wanted_aborts (physical_of m) l.address ≡ false → Alike n (load_fill m a l) (plain_load p a l) h
    unfolding load_fill after_fill
    fill_serves f t =
        rw t
        (loaded_alike s after (value_at a.width s.backing.memory pa) (load_aborts_fill p l f ∙ plain_wanted n m p h a l k ∙ t) fill_map fill_side
        same_calls fill_value)

    uncached_alike : plain_load_aborts p l ≡ false → Alike n (load_uncached m a l) (plain_load p a l) h
    unfolding load_uncached
    uncached_alike b =
        let w = in_line a k.width in
        let q = k.within in
        let r = ready m.side.backing pa a.width in
        loaded_alike (side_from m.side.cache r) m.counts (value_at a.width r.memory pa) b (bad_ready m.side.backing pa a.width)
        (ready_side n m.side k.shared.side_is p.memory h pa a.width k.shared.side) refl
        (same_bytes a.width r.memory p.memory pa pa
        (λ j z.
        uncached_byte n m.side k.shared.side_is p.memory h k.shared.side (cleared a) l.address k.here miss a.width (pa + j)
        (omega arith) (omega arith) (omega arith)))

    fills_same : fills p.registers l ≡ fills m.cp15.registers l
    fills_same = ap (λ (r : Registers). fills r l) (sym k.shared.registers)

    miss_alike : Alike n (load_miss m a l) (plain_load p a l) h
    miss_alike =
        let y = plain_load p a l in
        case (fills m.cp15.registers l)
        (λ f.
        alike_by n (load_miss m a l) (load_fill m a l) y y h (miss_fill m a l f) refl
        (case (wanted_aborts (physical_of m) l.address) (fill_faults (fills_same ∙ f)) (fill_serves (fills_same ∙ f))))
        (λ f.
        let b = load_aborts_other p l (fills_same ∙ f) ∙ plain_aborts n m p h a l k in
        case (aborts (physical_of m) l.address)
        (λ t. both_fault n m p h a l k (load_miss m a l) y (other_status l) (miss_aborts m a l f t) (load_other p a l (b ∙ t) (fills_same ∙ f)))
        (λ t. alike_by n (load_miss m a l) (load_uncached m a l) y y h (miss_uncached m a l f t) refl (uncached_alike (b ∙ t))))

  pub load_alike : Alike n (load m a l) (plain_load p a l) h
  load_alike = by (find m.side.cache.lines (cleared a)) refl
    where
      by : (x : Option ℕ) → find m.side.cache.lines (cleared a) ≡ x → Alike n (load m a l) (plain_load p a l) h
      by (Some i) e =
          alike_by n (load m a l) (load_hit m a i) (plain_load p a l) (plain_load p a l) h (found_hit m a l (cleared a) i refl e) refl (hit_alike i e)
      by None e =
          alike_by n (load m a l) (load_miss m a l) (plain_load p a l) (plain_load p a l) h (found_none m a l (cleared a) refl e) refl (miss_alike e)
