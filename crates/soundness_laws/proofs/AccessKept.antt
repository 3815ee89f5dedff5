-- An access keeps a machine sound.
use Rattle.std.specs.Prelude.{Option, Some, None, Result, Ok, Err}
use Prim.Native.Nat.{ℕ, ◌+◌, ◌*◌, ◌/◌, ◌<◌, ◌≤◌}
use native.Mathlib.Omega.{arith}
use mathlib.Core.Bool.{true, false, ◌||◌}
use mathlib.Core.Path.{◌≡◌, refl, ◌∙◌}
use lib.Dec.{eqb}
use lib.ListN.{length}
use borrow.Author.Tests.{eqb-true, ltb-false}
use Rattle.values.specs.Addresses.{block_of}
use Rattle.values.specs.Counts.{counted, hit}
use Rattle.values.specs.Counts as counts
use Rattle.values.specs.declared.PhysicalAddress.{PhysicalAddress}
use Rattle.values.specs.declared.Access.{Access}
use Rattle.values.specs.declared.Kind.{Kind}
use Rattle.values.specs.declared.Kind.TheVariants.{Load, SignedLoad, Store, Swap}
use Rattle.values.specs.declared.Fault.{Fault}
use Rattle.values.specs.declared.Status.{Status}
use Rattle.values.proofs.Cases.{case, or_cases}
use Rattle.words.specs.Words.{is_width, stored}
use Rattle.bus.specs.Physical.{outside, aborts, wanted_aborts, line_aborts}
use Rattle.translation.specs.declared.Translation.{Translation}
use Rattle.translation.specs.declared.Place.{Place}
use Rattle.translation.specs.Alignment.{cleared}
use Rattle.translation.specs.Faults.{fills, buffers, fill_status, other_status, fault_set}
use Rattle.translation.specs.Ranges.{PlaceRanged, CheckedRanged}
use Rattle.translation.specs.Translation.{translation, entries_after, pointer_after, counts_after}
use Rattle.buffer.specs.Buffer.{with_memory, drained, buffered, ready}
use Rattle.cache.specs.Dcache.{find, hit_store, filled}
use Rattle.cache.proofs.Counting.{store_dirties, fill_dirties}
use Rattle.machine.specs.Machine.{Machine, memory_of, physical_of, with_side, with_cache, with_counts}
use Rattle.soundness_test.specs.Meaning.{lines_of, IsSound}
use Rattle.soundness_test.specs.Formed.{Formed}
use Rattle.reach.specs.Reach.{decision, committed, faulted}
use Rattle.reach.proofs.Bounds.{in_block}
use Rattle.loads.specs.Loads.{load_hit, after_fill, load_fill, load_uncached, load_miss, load_found, load}
use Rattle.stores.specs.Stores.{store_hit, store_buffered, store_direct, store_miss, store_found, store}
use Rattle.swaps.specs.Swaps.{swap_hit, swap_direct, swap_miss, swap_found, swap}
use Rattle.access.specs.Access.{passed, access_at, access}
use Rattle.soundness_laws.proofs.ScalarParts.{CountsAre}
use Rattle.soundness_laws.proofs.RegistersKept.{fault_kept}
use Rattle.soundness_laws.proofs.TlbKept.{Serves, translation_serves, after_kept, length_after, pointer_after_lem, Decides, decided_ranged}
use Rattle.soundness_laws.proofs.BackingKept.{drained_kept, ready_kept, buffered_kept, stored_kept}
use Rattle.soundness_laws.proofs.CacheKept.{hit_kept, filled_kept}
use Rattle.soundness_laws.proofs.CountsKept.{Room, counted_room, after_room, room_are, hit_are, sent_are, filled_are}
use Rattle.soundness_laws.proofs.Holding.{Holding, Kept, Roomy, holding_of, roomy_holding, holding_kept}
use Rattle.soundness_laws.proofs.Replaced.{holding_with, with_counts_lem, with_registers_lem, with_side_lem, with_cache_lem, with_backing_lem}
use Rattle.soundness_laws.proofs.Reader.{clauses_parts, sound_of}
use Rattle.values.specs.declared.Cause.{Cause}

-- ---- the address

-- the cleared address has 32 bits
pub cleared_low : (a : Access) → a.address.0 < 0x100000000 → (cleared a).0 < 0x100000000
unfolding cleared
cleared_low a h = omega arith

pub width_some : (w : ℕ) → is_width w ≡ true → 0 < w
width_some w h =
    or_cases (eqb w 1) (eqb w 2 || eqb w 4) h (λ t. let e = eqb-true w 1 t in omega arith)
    (λ g. or_cases (eqb w 2) (eqb w 4) g (λ t. let e = eqb-true w 2 t in omega arith) (λ t. let e = eqb-true w 4 t in omega arith))

-- the block of a word inside memory lies inside
block_in : (n start : ℕ) (m : Machine) (h : Holding n start m) (pa : PhysicalAddress) → outside (physical_of m) pa ≡ false → block_of pa * 16 + 16 ≤ n
block_in n start m h pa e =
    let i = ltb-false (length (memory_of m)) (pa.0 / 4 * 4 + 4) e in omega (arith, h.side.backing.memory_long, h.memory_lines)

-- ---- through an access

module _ (n start : ℕ) where
  -- the counts have room for k misses, a hit, a fill and a dirty half
  record Amid (k : ℕ) (m : Machine) : Type 0 where
    holding : Holding n start m
    room : Room k m.counts (lines_of m)

  -- the call is done
  pub record Done (m : Machine) : Type 0 where
    pub holding : Holding n start m
    pub counts : CountsAre m.counts (lines_of m)

  committed_amid : (m : Machine) (t : Result Translation Cause) → Amid 1 m → Serves t → Amid 0 (committed m t)
  unfolding committed
  committed_amid m t k s =
      let h = k.holding in
      let p = h.pointer in
      record {
        holding =
            holding_with n start m h m.cp15.registers (pointer_after m.cp15.pointer t) (entries_after m.entries m.cp15.pointer t) m.side
            (counts_after m.counts t) h.registers (pointer_after_lem m.cp15.pointer t p)
            (length_after m.entries m.cp15.pointer t ∙ h.entries_long)
            (after_kept m.entries m.cp15.pointer t (omega (arith, h.entries_long)) h.entries s) h.side;
        room = after_room m.counts (lines_of m) t k.room;
      }

-- ---- an access of a width there is, with a 32-bit address

module _ (n start : ℕ) (a : Access) (width : is_width a.width ≡ true) (low : a.address.0 < 0x100000000) where
  decision_ranged : (m : Machine) → Holding n start m → Decides a (decision m a)
  unfolding decision
  decision_ranged m h =
      let r = m.cp15.registers in
      decided_ranged r a (translation m.entries r (physical_of m) (cleared a))
      (translation_serves m.entries r (physical_of m) (cleared a) h.entries h.side.backing.memory_bytes (cleared_low a low))

  -- a fault of a call that is done with but for it
  faulted_kept : (m : Machine) → Done n start m → (s : Status) (d : ℕ) → d < 16 → Done n start (faulted m s d a.address).machine
  unfolding faulted
  faulted_kept m k s d e =
      let f : Fault = record { status = s; domain = d; address = a.address } in
      record {
        holding =
            with_registers_lem n start m k.holding (fault_set m.cp15.registers f) (fault_kept m.cp15.registers f k.holding.registers e low);
        counts = k.counts;
      }

  module _ (m : Machine) (k : Amid n start 0 m) where
    abbrev held : Holding n start m
    held = k.holding

    -- no count changes
    counts_stay : CountsAre m.counts (lines_of m)
    counts_stay = room_are m.counts (lines_of m) 0 k.room

    faulted_done : (s : Status) (d : ℕ) → d < 16 → Done n start (faulted m s d a.address).machine
    faulted_done = faulted_kept m (record { holding = held; counts = counts_stay })

    -- ---- loads

    load_hit_done : (i : ℕ) → Done n start (load_hit m a i).machine
    unfolding load_hit
    load_hit_done i =
        record {
          holding = with_counts_lem n start m held (hit m.counts);
          counts = hit_are m.counts (lines_of m) (lines_of m) (omega arith) k.room;
        }

    module _ (p : Place) (r : PlaceRanged (cleared a) p) where
      after_done : find (lines_of m) (cleared a) ≡ None → Done n start (after_fill m a p)
      unfolding after_fill
      after_done e =
          let s = filled m.side (cleared a) p.address in
          let t = filled_kept n m.side (cleared a) p.address held.side e (cleared_low a low) in
          let d = fill_dirties m.side (cleared a) p.address in
          record {
            holding = with_counts_lem n start (with_side m s.side) (with_side_lem n start m held s.side t) _;
            counts =
                case (line_aborts (physical_of m) p.address)
                (λ u. rw u (sent_are m.counts (lines_of m) s.side.cache.lines s.halves d counts_stay))
                (λ u. rw u (filled_are m.counts (lines_of m) s.side.cache.lines s.halves d k.room));
          }

      fill_done : find (lines_of m) (cleared a) ≡ None → Done n start (load_fill m a p).machine
      unfolding load_fill
      fill_done e =
          case (wanted_aborts (physical_of m) p.address)
          (λ u. rw u (faulted_kept (after_fill m a p) (after_done e) (fill_status p) p.domain r.domain))
          (λ u. rw u (after_done e))

      uncached_done : Done n start (load_uncached m a p).machine
      unfolding load_uncached
      uncached_done =
          record {
            holding =
                with_backing_lem n start m held (ready m.side.backing p.address.0 a.width)
                (ready_kept n m.side.backing p.address.0 a.width held.side.backing);
            counts = counts_stay;
          }

      load_miss_done : find (lines_of m) (cleared a) ≡ None → Done n start (load_miss m a p).machine
      unfolding load_miss
      load_miss_done e =
          case (fills m.cp15.registers p)
          (λ t. rw t (fill_done e))
          (λ t.
          case (aborts (physical_of m) p.address)
          (λ u. rw (t, u) (faulted_done (other_status p) p.domain r.domain))
          (λ u. rw (t, u) uncached_done))

      load_found_done : (x : Option ℕ) → find (lines_of m) (cleared a) ≡ x → Done n start (load_found m a p x).machine
      load_found_done (Some i) e = load_hit_done i
      load_found_done None e = load_miss_done e

      load_done : Done n start (load m a p).machine
      unfolding load
      load_done = load_found_done (find (lines_of m) (cleared a)) refl

      -- ---- stores

      module _ (v : ℕ) where
        store_hit_done : (i : ℕ) → find (lines_of m) (cleared a) ≡ Some i → Done n start (store_hit m a v i).machine
        unfolding store_hit
        store_hit_done i e =
            let c = hit_store m.side.cache i (cleared a) a.width v in
            let t = hit_kept n m.side.cache (cleared a) i a.width v held.side.cache e in
            record {
              holding = with_counts_lem n start (with_cache m c) (with_cache_lem n start m held c t) (hit m.counts);
              counts = hit_are m.counts (lines_of m) c.lines (store_dirties m.side.cache i (cleared a) a.width v) k.room;
            }

        buffered_done : Done n start (store_buffered m a v p).machine
        unfolding store_buffered
        buffered_done =
            case (outside (physical_of m) p.address)
            (λ u. rw u (record { holding = held; counts = counts_stay }))
            (λ u.
            rw u
            (record {
              holding =
                  with_backing_lem n start m held (buffered m.side.backing p.address a.width v)
                  (buffered_kept n m.side.backing p.address a.width v held.side.backing (width_some a.width width)
                  (in_block a p.address.0 width r.within) (block_in n start m held p.address u));
              counts = counts_stay;
            }))

        direct_done : Done n start (store_direct m a v p).machine
        unfolding store_direct
        direct_done =
            let b = drained m.side.backing in
            record {
              holding =
                  with_backing_lem n start m held (with_memory b (stored a.width b.memory p.address.0 v))
                  (stored_kept n b a.width p.address.0 v (drained_kept n m.side.backing held.side.backing));
              counts = counts_stay;
            }

        store_miss_done : Done n start (store_miss m a v p).machine
        unfolding store_miss
        store_miss_done =
            case (buffers m.cp15.registers p)
            (λ t. rw t buffered_done)
            (λ t.
            case (aborts (physical_of m) p.address)
            (λ u. rw (t, u) (faulted_done (other_status p) p.domain r.domain))
            (λ u. rw (t, u) direct_done))

        store_found_done : (x : Option ℕ) → find (lines_of m) (cleared a) ≡ x → Done n start (store_found m a v p x).machine
        store_found_done (Some i) e = store_hit_done i e
        store_found_done None e = store_miss_done

        store_done : Done n start (store m a v p).machine
        unfolding store
        store_done = store_found_done (find (lines_of m) (cleared a)) refl

        -- ---- swaps: what a store that hits, or one that goes to memory, leaves; or a fault

        swap_miss_done : Done n start (swap_miss m a v p).machine
        unfolding swap_miss swap_direct
        swap_miss_done =
            case (aborts (physical_of m) p.address)
            (λ u. rw u (faulted_done (other_status p) p.domain r.domain))
            (λ u. rw u direct_done)

        swap_found_done : (x : Option ℕ) → find (lines_of m) (cleared a) ≡ x → Done n start (swap_found m a v p x).machine
        unfolding swap_hit
        swap_found_done (Some i) e = store_hit_done i e
        swap_found_done None e = swap_miss_done

        swap_done : Done n start (swap m a v p).machine
        unfolding swap
        swap_done = swap_found_done (find (lines_of m) (cleared a)) refl

      -- ---- by kind

      passed_done : (x : Kind) → Done n start (passed m a p x).machine
      passed_done Load = load_done
      passed_done SignedLoad = load_done
      passed_done (Store v) = store_done v
      passed_done (Swap v) = swap_done v

    access_at_done : (x : Result Place Cause) → CheckedRanged (cleared a) x → Done n start (access_at m a x).machine
    unfolding access_at
    access_at_done (Err why) r = faulted_done why.status why.domain r
    access_at_done (Ok p) r = passed_done p r a.kind

  access_done : (m : Machine) → Amid n start 1 m → Done n start (access m a).machine
  unfolding access
  access_done m k =
      let d = decision m a in
      let b = decision_ranged m k.holding in
      access_at_done (committed m d.mapping) (committed_amid n start m d.mapping k b.serves) d.checked b.ranged

-- ---- a call that has been counted

pub access_kept : (m : Machine) (a : Access) → Roomy m → is_width a.width ≡ true → a.address.0 < 0x100000000 → Kept m (access m a).machine
access_kept m a r w h =
    let d = access_done (length (memory_of m)) m.size a w h m (record { holding = roomy_holding m r; room = r.room }) in
    holding_kept m (access m a).machine d.holding d.counts

-- a sound machine that has counted a call
pub counted_roomy : (m : Machine) → Formed m → IsSound m → Roomy (with_counts m (counted m.counts))
counted_roomy m f s =
    let c = counted m.counts in
    let r = counted_room m.counts (lines_of m) (clauses_parts m s).counts in
    let h = with_counts_lem (length (memory_of m)) m.size m (holding_of m f (sound_of m f.lines_long s)) c in
    let k = holding_kept m (with_counts m c) h (room_are c (lines_of m) 1 r) in
    record { formed = k.formed; sound = k.sound; room = r }
