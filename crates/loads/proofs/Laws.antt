-- What the code of a load leaves is what the definition says, by the facts that its callees give.
use Rattle.std.specs.Prelude.{Some, None}
use Prim.Native.Nat.{ℕ, ◌+◌, ◌*◌, ◌/◌, ◌%◌, ◌<◌, ◌≤◌}
use native.Mathlib.Omega.{arith}
use mathlib.Core.Bool.{Bool, true, false, cond}
use mathlib.Core.Path.{◌≡◌, ◌∙◌, ap}
use mathlib.Core.List.{List}
use lib.ListN.{get_or}
use Rattle.values.specs.Counts.{count_limit, hit, filled, sent}
use Rattle.values.specs.declared.Access.{Access}
use Rattle.values.specs.declared.VirtualAddress.{VirtualAddress}
use Rattle.values.specs.declared.Answer.{Answer}
use Rattle.words.specs.Words.{value_at}
use Rattle.words.specs.Signed.{load_answer}
use Rattle.bus.specs.Physical.{physical, aborts, wanted_aborts, line_aborts}
use Rattle.buffer.specs.Buffer.{Backing, ready}
use Rattle.buffer.specs.Packing.{backing_of}
use Rattle.buffer.specs.Ranges.{Left}
use Rattle.cache.specs.Dcache.{Side, find, hit_load}
use Rattle.cache.specs.Dcache as dcache
use Rattle.cache.specs.Packing.{side_of, SentIs, FillsLine}
use Rattle.cache.proofs.Lines.{line_at, line_sends}
use Rattle.cache.proofs.PutGet.{fill_halves}
use Rattle.translation.specs.Alignment.{cleared}
use Rattle.translation.specs.Faults.{fills, fill_status, other_status}
use Rattle.translation.specs.declared.Place.{Place}
use Rattle.machine.specs.Machine.{Machine, memory_of, physical_of, Stepped, stepped_from}
use Rattle.machine.specs.Machine as machines
use Rattle.machine.specs.Scalars.{outcome_from, with_counts, with_used}
use Rattle.machine.specs.Lists.{Lists, machine_of, stepped_of}
use Rattle.machine.specs.Ready.{SideReady}
use Rattle.machine.specs.declared.Scalars.{Scalars}
use Rattle.reach.specs.Reach.{faulted}
use Rattle.loads.specs.Code.{filled_by}
use Rattle.loads.specs.Loads.{load_hit, after_fill, load_fill, load_uncached, load_miss, load}

module _ (es : List ℕ) (s : Scalars) (n : ℕ) (a : Access) where
  pub hit_left : (l : Lists) (st : List ℕ) (i v : ℕ) (va : VirtualAddress) (r : Scalars) (x : Answer) → l.store ≡ st → va ≡ cleared a
      → v ≡ value_at a.width st (i * 32 + va.0 % 32) → r ≡ with_counts s (hit s.counts) → x ≡ load_answer a.kind a.width v
      → stepped_of l es n (outcome_from r x) ≡ load_hit (machine_of l es s n) a i
  unfolding load_hit hit_load
  hit_left l st i v va r x e f g h k = rw (k, h, g, f, ← e)

  -- what a fill leaves
  pub after_left : (l k : Lists) (p : Place) (used halves : ℕ) (aborting : Bool) (va : VirtualAddress) (r : Scalars) → va ≡ cleared a
      → SentIs k.memory k.bad k.words k.bytes used k.lines k.pointers k.store halves
      (dcache.filled (side_of l.memory l.bad l.words l.bytes s.used l.lines l.pointers l.store) va p.address)
      → aborting ≡ line_aborts (physical l.memory l.bad) p.address → r ≡ filled_by s used halves aborting
      → machine_of k es r n ≡ after_fill (machine_of l es s n) a p
  unfolding after_fill
  after_left l k p used halves aborting va r f e h j = rw (j, h, e.count, f) (ap made (rw f at e.side))
    where
      made : Side → Machine
      made t =
          machines.with_counts (machines.with_side (machine_of l es s n) t)
          (sent (cond (line_aborts (physical l.memory l.bad) p.address) s.counts (filled s.counts))
          (dcache.filled (machine_of l es s n).side (cleared a) p.address).halves)

  module _ (l k : Lists) (p : Place) (r : Scalars) (f : machine_of k es r n ≡ after_fill (machine_of l es s n) a p) where
    -- the wanted word or one before it aborts
    pub fill_faults : wanted_aborts (physical l.memory l.bad) p.address ≡ true → (o : Stepped)
        → o ≡ faulted (machine_of k es r n) (fill_status p) p.domain a.address → o ≡ load_fill (machine_of l es s n) a p
    unfolding load_fill
    fill_faults w o e = rw w (e ∙ ap (λ (m : Machine). faulted m (fill_status p) p.domain a.address) f)

    -- it is read, and serves the load
    pub fill_serves : wanted_aborts (physical l.memory l.bad) p.address ≡ false → (v : ℕ) (x : Answer)
        → v ≡ value_at a.width k.memory p.address.0 → x ≡ load_answer a.kind a.width v
        → stepped_of k es n (outcome_from r x) ≡ load_fill (machine_of l es s n) a p
    unfolding load_fill
    fill_serves w v x e g = rw (w, g, e) (ap served f)
      where
        served : Machine → Stepped
        served m = stepped_from m (load_answer a.kind a.width (value_at a.width (memory_of m) p.address.0))

  pub uncached_left : (l k : Lists) (p : Place) (v used : ℕ) (r : Scalars) (x : Answer)
      → Left k.memory k.bad k.words k.bytes used (ready (backing_of l.memory l.bad l.words l.bytes s.used) p.address.0 a.width)
      → k.bad ≡ l.bad → k.lines ≡ l.lines → k.pointers ≡ l.pointers → k.store ≡ l.store
      → v ≡ value_at a.width k.memory p.address.0 → r ≡ with_used s used → x ≡ load_answer a.kind a.width v
      → stepped_of k es n (outcome_from r x) ≡ load_uncached (machine_of l es s n) a p
  unfolding load_uncached
  uncached_left l k p v used r x e b q u t h j y = rw (y, j, h, q, u, t) (ap made e.same)
    where
      made : Backing → Stepped
      made b =
          stepped_from (machines.with_backing (machine_of l es s n) b)
          (load_answer a.kind a.width (value_at a.width b.memory p.address.0))

-- what a fill asks holds
module _ (l : Lists) (s : Scalars) (k : SideReady l s) (va : VirtualAddress) where
  victim_low : va.0 / 32 % 16 * 32 + get_or l.pointers (va.0 / 32 % 16) 0 < 512
  victim_low = let h = k.pointers_low (va.0 / 32 % 16) (omega arith) in omega arith

  pub fills_line : FillsLine l.memory l.lines l.pointers l.store va
  fills_line =
      let i = va.0 / 32 % 16 * 32 + get_or l.pointers (va.0 / 32 % 16) 0 in
      record {
        lines_long = k.lines_long;
        pointers_long = k.pointers_long;
        store_long = k.store_long;
        pointer = k.pointers_low (va.0 / 32 % 16) (omega arith);
        victim_sends = line_sends (get_or l.lines i 0) l.memory (λ t. k.lines_inside i victim_low (k.lines_dirty i victim_low t));
      }

  pub fill_room : (p : Place) (halves : ℕ)
      → halves ≡ (dcache.filled (side_of l.memory l.bad l.words l.bytes s.used l.lines l.pointers l.store) va p.address).halves
      → s.counts.halves + halves ≤ count_limit
  unfolding dcache.gave_way
  fill_room p halves e =
      let side = side_of l.memory l.bad l.words l.bytes s.used l.lines l.pointers l.store in
      rw (e, fill_halves side va p.address, line_at l.lines (va.0 / 32 % 16 * 32 + get_or l.pointers (va.0 / 32 % 16) 0))
      (k.halves (va.0 / 32 % 16 * 32 + get_or l.pointers (va.0 / 32 % 16) 0) victim_low)

-- ---- the cases of a load

module _ (m : Machine) (a : Access) (p : Place) where
  pub miss_fill : fills m.cp15.registers p ≡ true → load_miss m a p ≡ load_fill m a p
  unfolding load_miss
  miss_fill f = rw f

  module _ (f : fills m.cp15.registers p ≡ false) where
    pub miss_uncached : aborts (physical_of m) p.address ≡ false → load_miss m a p ≡ load_uncached m a p
    unfolding load_miss
    miss_uncached h = rw (f, h)

    pub miss_aborts : aborts (physical_of m) p.address ≡ true → load_miss m a p ≡ faulted m (other_status p) p.domain a.address
    unfolding load_miss
    miss_aborts h = rw (f, h)

  pub found_hit : (va : VirtualAddress) (i : ℕ) → va ≡ cleared a → find m.side.cache.lines va ≡ Some i → load m a p ≡ load_hit m a i
  unfolding load
  found_hit va i f e = rw (← f, e)

  pub found_none : (va : VirtualAddress) → va ≡ cleared a → find m.side.cache.lines va ≡ None → load m a p ≡ load_miss m a p
  unfolding load
  found_none va f e = rw (← f, e)
