-- What the code of a store leaves is what the definition says, by the facts that its callees give.
use Rattle.std.specs.Prelude.{Some, None}
use Prim.Native.Nat.{ℕ, ◌+◌, ◌*◌, ◌/◌}
use native.Mathlib.Omega.{arith}
use mathlib.Core.Bool.{true, false, cond}
use mathlib.Core.Path.{◌≡◌, ap}
use mathlib.Core.List.{List}
use lib.ListN.{length}
use borrow.Author.Tests.{ltb-false}
use Rattle.values.specs.Counts.{hit}
use Rattle.values.specs.declared.Access.{Access}
use Rattle.values.specs.declared.VirtualAddress.{VirtualAddress}
use Rattle.values.specs.declared.Answer.TheVariants as answer
use Rattle.values.proofs.Cases.{case}
use Rattle.words.specs.Words.{stored}
use Rattle.bus.specs.Physical.{physical, outside, aborts}
use Rattle.buffer.specs.Buffer.{Backing, with_memory, drained, buffered}
use Rattle.buffer.specs.Packing.{backing_of}
use Rattle.buffer.specs.Ranges.{Left, Stores}
use Rattle.cache.specs.Dcache.{Dcache, dcache_from, find, hit_store}
use Rattle.cache.specs.Packing.{lines_of}
use Rattle.translation.specs.Alignment.{cleared}
use Rattle.translation.specs.Faults.{buffers, other_status}
use Rattle.translation.specs.declared.Place.{Place}
use Rattle.machine.specs.Machine.{Machine, physical_of, Stepped, answers_zero}
use Rattle.machine.specs.Machine as machines
use Rattle.machine.specs.Scalars.{outcome_from, with_counts, with_used}
use Rattle.machine.specs.Lists.{Lists, lists, machine_of, stepped_of}
use Rattle.machine.specs.declared.Scalars.{Scalars}
use Rattle.machine.specs.declared.Outcome.{Outcome}
use Rattle.reach.specs.Reach.{faulted}
use Rattle.reach.specs.Code.{MissReady}
use Rattle.reach.proofs.Bounds.{in_block}
use Rattle.stores.specs.Stores.{store_hit, store_buffered, store_direct, store_miss, store}

-- a served store's outcome
abbrev pub stored_by : Scalars → Outcome
stored_by s = outcome_from s (answer.Value 0)

module _ (es : List ℕ) (s : Scalars) (n : ℕ) (a : Access) (v : ℕ) (l : Lists) (o : Outcome) where
  pub store_hit_left : (ls st : List ℕ) (i : ℕ) (va : VirtualAddress) (r : Scalars) → va ≡ cleared a
      → dcache_from (lines_of ls) l.pointers st ≡ hit_store (dcache_from (lines_of l.lines) l.pointers l.store) i va a.width v
      → r ≡ with_counts s (hit s.counts) → o ≡ stored_by r
      → stepped_of (lists l.memory l.bad l.words l.bytes ls l.pointers st) es n o ≡ store_hit (machine_of l es s n) a v i
  unfolding store_hit
  store_hit_left ls st i va r f e g h = rw (h, g) (ap made (rw f at e))
    where
      made : Dcache → Stepped
      made c =
          answers_zero (machines.with_counts (machines.with_cache (machine_of l es s n) c) (hit s.counts))

  abbrev made_by : Backing → Stepped
  made_by b =
      answers_zero (machines.with_backing (machine_of l es s n) b)

  module _ (p : Place) (r : Scalars) where
    pub direct_left : (m k ws : List ℕ) (bs : List (List ℕ)) → r ≡ with_used s 0
        → Left k l.bad ws bs 0 (drained (backing_of l.memory l.bad l.words l.bytes s.used)) → m ≡ stored a.width k p.address.0 v
        → o ≡ stored_by r
        → stepped_of (lists m l.bad ws bs l.lines l.pointers l.store) es n o ≡ store_direct (machine_of l es s n) a v p
    unfolding store_direct
    direct_left m k ws bs g e f h =
        rw (h, g, f) (ap (λ (b : Backing). made_by (with_memory b (stored a.width b.memory p.address.0 v))) e.same)

    pub buffered_left : (m ws : List ℕ) (bs : List (List ℕ)) (used : ℕ)
        → Left m l.bad ws bs used
        (cond (outside (physical l.memory l.bad) p.address) (backing_of l.memory l.bad l.words l.bytes s.used)
        (buffered (backing_of l.memory l.bad l.words l.bytes s.used) p.address a.width v))
        → r ≡ with_used s used → o ≡ stored_by r
        → stepped_of (lists m l.bad ws bs l.lines l.pointers l.store) es n o ≡ store_buffered (machine_of l es s n) a v p
    unfolding store_buffered
    buffered_left m ws bs used e g h =
        case (outside (physical l.memory l.bad) p.address)
        (λ t. rw (h, g, t) (ap made_by (rw t at e.same)))
        (λ t. rw (h, g, t) (ap made_by (rw t at e.same)))

-- what a buffered store asks holds where its word lies inside memory
pub stores_in : (memory bad words : List ℕ) (bytes : List (List ℕ)) (used : ℕ) (a : Access) (p : Place) → MissReady memory words bytes used a p
    → outside (physical memory bad) p.address ≡ false → Stores memory p.address a.width
stores_in memory bad words bytes used a p k h =
    let i = ltb-false (length memory) (p.address.0 / 4 * 4 + 4) h in
    let m = k.whole in
    record { width_is = k.width; in_block = in_block a p.address.0 k.width k.place.within; inside = omega arith }

-- ---- the cases of a store

module _ (m : Machine) (a : Access) (v : ℕ) (p : Place) where
  pub miss_buffered : buffers m.cp15.registers p ≡ true → store_miss m a v p ≡ store_buffered m a v p
  unfolding store_miss
  miss_buffered f = rw f

  module _ (f : buffers m.cp15.registers p ≡ false) where
    pub miss_direct : aborts (physical_of m) p.address ≡ false → store_miss m a v p ≡ store_direct m a v p
    unfolding store_miss
    miss_direct h = rw (f, h)

    pub miss_faults : aborts (physical_of m) p.address ≡ true → store_miss m a v p ≡ faulted m (other_status p) p.domain a.address
    unfolding store_miss
    miss_faults h = rw (f, h)

  pub store_found_lem : (va : VirtualAddress) (i : ℕ) → va ≡ cleared a → find m.side.cache.lines va ≡ Some i → store m a v p ≡ store_hit m a v i
  unfolding store
  store_found_lem va i f e = rw (← f, e)

  pub store_none : (va : VirtualAddress) → va ≡ cleared a → find m.side.cache.lines va ≡ None → store m a v p ≡ store_miss m a v p
  unfolding store
  store_none va f e = rw (← f, e)
