-- "unchanged through a run": no call that is served changes the map.
use Rattle.std.specs.Prelude.{Option, Some, None, Result, Ok, Err}
use Prim.Native.Nat.{ℕ}
use mathlib.Core.Path.{◌≡◌, refl}
use Rattle.values.specs.declared.VirtualAddress.{VirtualAddress}
use Rattle.values.specs.declared.Kind.{Kind}
use Rattle.values.specs.declared.Kind.TheVariants.{Load, SignedLoad, Store, Swap}
use Rattle.values.specs.declared.Access.{Access}
use Rattle.values.specs.declared.Transfer.{Transfer}
use Rattle.values.proofs.Cases.{case}
use Rattle.bus.specs.Physical.{outside, aborts, wanted_aborts}
use Rattle.buffer.proofs.Lengths.{bad_drained, bad_ready, bad_buffered}
use Rattle.cache.specs.Dcache.{find}
use Rattle.cache.proofs.Unchanged.{bad_filled, bad_cleaned}
use Rattle.translation.specs.Alignment.{cleared}
use Rattle.translation.specs.Faults.{fills, buffers}
use Rattle.translation.specs.declared.Place.{Place}
use Rattle.machine.specs.Machine.{Machine, bad_of, physical_of}
use Rattle.reach.specs.Reach.{decision, committed, faulted}
use Rattle.loads.specs.Loads.{load_hit, after_fill, load_fill, load_uncached, load_miss, load_found, load}
use Rattle.stores.specs.Stores.{store_hit, store_buffered, store_direct, store_miss, store_found, store}
use Rattle.swaps.specs.Swaps.{swap_hit, swap_direct, swap_miss, swap_found, swap}
use Rattle.access.specs.Access.{passed, access_at, access}
use Rattle.cp15.specs.Operations.{flushes_dcache, flushes_line, cleans_line, drains, flushes_tlb, drops_entries, operated, read, write}
use Rattle.values.specs.declared.Cause.{Cause}

module _ (m : Machine) (a : Access) where
  module _ (p : Place) where
    -- ---- loads

    bad_after : bad_of (after_fill m a p) ≡ bad_of m
    unfolding after_fill
    bad_after = bad_filled m.side (cleared a) p.address

    bad_fill : bad_of (load_fill m a p).machine ≡ bad_of m
    unfolding load_fill faulted
    bad_fill = case (wanted_aborts (physical_of m) p.address) (λ t. rw t bad_after) (λ t. rw t bad_after)

    bad_uncached : bad_of (load_uncached m a p).machine ≡ bad_of m
    unfolding load_uncached
    bad_uncached = bad_ready m.side.backing p.address.0 a.width

    bad_load_miss : bad_of (load_miss m a p).machine ≡ bad_of m
    unfolding load_miss faulted
    bad_load_miss =
        case (fills m.cp15.registers p)
        (λ t. rw t bad_fill)
        (λ t. case (aborts (physical_of m) p.address) (λ u. rw (t, u)) (λ u. rw (t, u) bad_uncached))

    bad_load_found : (x : Option ℕ) → bad_of (load_found m a p x).machine ≡ bad_of m
    unfolding load_hit
    bad_load_found (Some i) = refl
    bad_load_found None = bad_load_miss

    bad_load : bad_of (load m a p).machine ≡ bad_of m
    unfolding load
    bad_load = bad_load_found (find m.side.cache.lines (cleared a))

    module _ (v : ℕ) where
      -- ---- stores

      bad_direct : bad_of (store_direct m a v p).machine ≡ bad_of m
      unfolding store_direct
      bad_direct = bad_drained m.side.backing

      bad_store_buffered : bad_of (store_buffered m a v p).machine ≡ bad_of m
      unfolding store_buffered
      bad_store_buffered =
          case (outside (physical_of m) p.address) (λ t. rw t) (λ t. rw t (bad_buffered m.side.backing p.address a.width v))

      bad_store_miss : bad_of (store_miss m a v p).machine ≡ bad_of m
      unfolding store_miss faulted
      bad_store_miss =
          case (buffers m.cp15.registers p)
          (λ t. rw t bad_store_buffered)
          (λ t. case (aborts (physical_of m) p.address) (λ u. rw (t, u)) (λ u. rw (t, u) bad_direct))

      bad_store_found : (x : Option ℕ) → bad_of (store_found m a v p x).machine ≡ bad_of m
      unfolding store_hit
      bad_store_found (Some i) = refl
      bad_store_found None = bad_store_miss

      bad_store : bad_of (store m a v p).machine ≡ bad_of m
      unfolding store
      bad_store = bad_store_found (find m.side.cache.lines (cleared a))

      -- ---- swaps

      bad_swap_miss : bad_of (swap_miss m a v p).machine ≡ bad_of m
      unfolding swap_miss swap_direct faulted
      bad_swap_miss = case (aborts (physical_of m) p.address) (λ u. rw u) (λ u. rw u bad_direct)

      bad_swap_found : (x : Option ℕ) → bad_of (swap_found m a v p x).machine ≡ bad_of m
      unfolding swap_hit store_hit
      bad_swap_found (Some i) = refl
      bad_swap_found None = bad_swap_miss

      bad_swap : bad_of (swap m a v p).machine ≡ bad_of m
      unfolding swap
      bad_swap = bad_swap_found (find m.side.cache.lines (cleared a))

    bad_passed : (k : Kind) → bad_of (passed m a p k).machine ≡ bad_of m
    bad_passed Load = bad_load
    bad_passed SignedLoad = bad_load
    bad_passed (Store v) = bad_store v
    bad_passed (Swap v) = bad_swap v

  bad_at : (x : Result Place Cause) → bad_of (access_at m a x).machine ≡ bad_of m
  unfolding access_at faulted
  bad_at (Err why) = refl
  bad_at (Ok p) = bad_passed p a.kind

pub bad_access : (m : Machine) (a : Access) → bad_of (access m a).machine ≡ bad_of m
unfolding access committed
bad_access m a = let d = decision m a in bad_at (committed m d.mapping) a d.checked

-- ---- CP15 calls

bad_operated : (m : Machine) (t : Transfer) (va : VirtualAddress) → bad_of (operated m t va) ≡ bad_of m
unfolding operated
bad_operated m t va =
    case (flushes_dcache t)
    (λ p. rw p)
    (λ p.
    case (flushes_line t)
    (λ q. rw (p, q))
    (λ q.
    case (cleans_line t)
    (λ r. rw (p, q, r) (bad_cleaned m.side va))
    (λ r.
    case (drains t)
    (λ s. rw (p, q, r, s) (bad_drained m.side.backing))
    (λ s.
    case (flushes_tlb t)
    (λ u. rw (p, q, r, s, u))
    (λ u. case (drops_entries t) (λ v. rw (p, q, r, s, u, v)) (λ v. rw (p, q, r, s, u, v)))))))

pub bad_read : (m : Machine) (t : Transfer) → bad_of (read m t).machine ≡ bad_of m
unfolding read
bad_read m t = refl

pub bad_write : (m : Machine) (t : Transfer) (v : ℕ) → bad_of (write m t v).machine ≡ bad_of m
unfolding write
bad_write m t v = bad_operated m t (record { 0 = v })
