-- An access to a machine without I answers the same, and what it leaves is without I what it leaves of the machine itself.
use Rattle.std.specs.Prelude.{Option, Some, None, Result, Ok, Err}
use Prim.Native.Nat.{ℕ}
use mathlib.Core.Bool.{Bool, true, false, cond}
use mathlib.Core.Path.{◌≡◌, refl, ap}
use Rattle.values.specs.declared.Kind.{Kind}
use Rattle.values.specs.declared.Kind.TheVariants.{Load, SignedLoad, Store, Swap}
use Rattle.values.specs.declared.Access.{Access}
use Rattle.values.specs.declared.Status.{Status}
use Rattle.bus.specs.Physical.{outside, aborts, wanted_aborts}
use Rattle.cache.specs.Dcache.{find}
use Rattle.translation.specs.Alignment.{cleared}
use Rattle.translation.specs.Faults.{fills, buffers, fill_status, other_status, fault_set}
use Rattle.translation.specs.declared.Place.{Place}
use Rattle.machine.specs.Machine.{Machine, physical_of, Stepped, stepped_from, answers_zero}
use Rattle.reach.specs.Reach.{decision, committed, faulted}
use Rattle.loads.specs.Loads.{load_hit, after_fill, load_fill, load_uncached, load_miss, load_found, load}
use Rattle.stores.specs.Stores.{store_hit, store_buffered, store_direct, store_miss, store_found, store}
use Rattle.swaps.specs.Swaps.{swap_hit, swap_direct, swap_miss, swap_found, swap}
use Rattle.access.specs.Access.{passed, access_at, access}
use Rattle.i_bit.specs.BitI.{machine_without_i}
use Rattle.i_bit.proofs.Tests.{fills_without, buffers_without, decision_without}
use Rattle.values.specs.declared.Cause.{Cause}

-- what a call leaves, without I in the machine
abbrev pub stepped_without_i : Stepped → Stepped
stepped_without_i s = stepped_from (machine_without_i s.machine) s.answer

-- the first is the second without I
abbrev pub Without : Stepped → Stepped → Type 0
Without s t = s ≡ stepped_without_i t

-- two choices by one test, related if their parts are
pub chosen : {A : Type 0} (R : A → A → Type 0) (b : Bool) (x y x' y' : A) → R x x' → R y y' → R (cond b x y) (cond b x' y')
chosen R true x y x' y' p q = p
chosen R false x y x' y' p q = q

fault_without : (m : Machine) (a : Access) (s : Status) (d : ℕ) → Without (faulted (machine_without_i m) s d a.address) (faulted m s d a.address)
unfolding faulted fault_set
fault_without m a s d = refl

module _ (m : Machine) (a : Access) where
  module _ (p : Place) where
    fill_without : Without (load_fill (machine_without_i m) a p) (load_fill m a p)
    unfolding load_fill after_fill
    fill_without =
        chosen Without (wanted_aborts (physical_of m) p.address) _ _ _ _ (fault_without (after_fill m a p) a (fill_status p) p.domain) refl

    load_miss_without : Without (load_miss (machine_without_i m) a p) (load_miss m a p)
    unfolding load_miss load_uncached
    load_miss_without =
        rw (fills_without m.cp15.registers p)
        (chosen Without (fills m.cp15.registers p) _ _ _ _ fill_without
        (chosen Without (aborts (physical_of m) p.address) _ _ _ _ (fault_without m a (other_status p) p.domain) refl))

    load_found_without : (x : Option ℕ) → Without (load_found (machine_without_i m) a p x) (load_found m a p x)
    unfolding load_hit
    load_found_without (Some i) = refl
    load_found_without None = load_miss_without

    store_miss_without : (v : ℕ) → Without (store_miss (machine_without_i m) a v p) (store_miss m a v p)
    unfolding store_miss store_buffered store_direct
    store_miss_without v =
        rw (buffers_without m.cp15.registers p)
        (chosen Without (buffers m.cp15.registers p) _ _ _ _
        (ap answers_zero (chosen (λ (x y : Machine). x ≡ machine_without_i y) (outside (physical_of m) p.address) _ _ _ _ refl refl))
        (chosen Without (aborts (physical_of m) p.address) _ _ _ _ (fault_without m a (other_status p) p.domain) refl))

    store_found_without : (v : ℕ) (x : Option ℕ) → Without (store_found (machine_without_i m) a v p x) (store_found m a v p x)
    unfolding store_hit
    store_found_without v (Some i) = refl
    store_found_without v None = store_miss_without v

    swap_miss_without : (v : ℕ) → Without (swap_miss (machine_without_i m) a v p) (swap_miss m a v p)
    unfolding swap_miss swap_direct store_direct
    swap_miss_without v = chosen Without (aborts (physical_of m) p.address) _ _ _ _ (fault_without m a (other_status p) p.domain) refl

    swap_found_without : (v : ℕ) (x : Option ℕ) → Without (swap_found (machine_without_i m) a v p x) (swap_found m a v p x)
    unfolding swap_hit load_hit store_hit
    swap_found_without v (Some i) = refl
    swap_found_without v None = swap_miss_without v

    passed_without : (k : Kind) → Without (passed (machine_without_i m) a p k) (passed m a p k)
    unfolding load store swap
    passed_without Load = load_found_without (find m.side.cache.lines (cleared a))
    passed_without SignedLoad = load_found_without (find m.side.cache.lines (cleared a))
    passed_without (Store v) = store_found_without v (find m.side.cache.lines (cleared a))
    passed_without (Swap v) = swap_found_without v (find m.side.cache.lines (cleared a))

  at_without : (c : Result Place Cause) → Without (access_at (machine_without_i m) a c) (access_at m a c)
  unfolding access_at
  at_without (Err why) = fault_without m a why.status why.domain
  at_without (Ok p) = passed_without p a.kind

pub access_without : (m : Machine) (a : Access) → Without (access (machine_without_i m) a) (access m a)
unfolding access committed
access_without m a = let d = decision m a in rw (decision_without m a) (at_without (committed m d.mapping) a d.checked)
