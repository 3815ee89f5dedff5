-- What the code of a swap leaves is what the definition says, by the facts that its callees give.
use Rattle.std.specs.Prelude.{Some, None}
use Prim.Native.Nat.{ℕ}
use mathlib.Core.Bool.{true, false}
use mathlib.Core.Path.{◌≡◌, refl, ◌∙◌, ap}
use mathlib.Core.List.{List}
use Rattle.values.specs.Kinds.{is_swap}
use Rattle.values.specs.declared.Access.{Access}
use Rattle.values.specs.declared.VirtualAddress.{VirtualAddress}
use Rattle.values.specs.declared.Answer.{Answer}
use Rattle.words.specs.Words.{value_at, stored}
use Rattle.words.specs.Signed.{load_answer}
use Rattle.bus.specs.Physical.{aborts}
use Rattle.buffer.specs.Buffer.{Backing, drained}
use Rattle.buffer.specs.Packing.{backing_of}
use Rattle.buffer.specs.Ranges.{Left}
use Rattle.cache.specs.Dcache.{find}
use Rattle.translation.specs.Alignment.{cleared}
use Rattle.translation.specs.Faults.{other_status}
use Rattle.translation.specs.declared.Place.{Place}
use Rattle.machine.specs.Machine.{Machine, physical_of, Stepped, stepped_from}
use Rattle.machine.specs.Scalars.{outcome_from, with_used}
use Rattle.machine.specs.Lists.{Lists, lists, machine_of, stepped_of}
use Rattle.machine.specs.declared.Scalars.{Scalars}
use Rattle.reach.specs.Reach.{faulted}
use Rattle.loads.specs.Loads.{load_hit}
use Rattle.stores.specs.Stores.{store_hit, store_direct, store_miss}
use Rattle.stores.proofs.Laws as stores
use Rattle.swaps.specs.Swaps.{swap_hit, swap_direct, swap_miss, swap}
use Rattle.swaps.specs.Code.{store_or_swap}

-- memory drained, read, then written
pub direct_left : (es : List ℕ) (s : Scalars) (n : ℕ) (a : Access) (v : ℕ) (l : Lists) (p : Place) (r : Scalars) (x : Answer) (old : ℕ)
    (m k ws : List ℕ) (bs : List (List ℕ)) → r ≡ with_used s 0
    → Left k l.bad ws bs 0 (drained (backing_of l.memory l.bad l.words l.bytes s.used)) → old ≡ value_at a.width k p.address.0
    → m ≡ stored a.width k p.address.0 v → x ≡ load_answer a.kind a.width old
    → stepped_of (lists m l.bad ws bs l.lines l.pointers l.store) es n (outcome_from r x) ≡ swap_direct (machine_of l es s n) a v p
unfolding swap_direct
direct_left es s n a v l p r x old m k ws bs g e h f y =
    let written = ap (λ (t : Stepped). t.machine) (stores.direct_left es s n a v l (stores.stored_by r) p r m k ws bs g e f refl) in
    let read = y ∙ ap (load_answer a.kind a.width) (h ∙ ap (λ (b : Backing). value_at a.width b.memory p.address.0) e.same) in
    ap (λ (t : Machine). stepped_from t x) written ∙ ap (stepped_from (store_direct (machine_of l es s n) a v p).machine) read

-- ---- the cases of a swap

module _ (m : Machine) (a : Access) (v : ℕ) where
  pub hit_by : (i : ℕ) (x y : Stepped) → x ≡ load_hit m a i → y ≡ store_hit m a v i → stepped_from y.machine x.answer ≡ swap_hit m a v i
  unfolding swap_hit
  hit_by i x y e f = rw (e, f)

  module _ (p : Place) where
    pub miss_direct : aborts (physical_of m) p.address ≡ false → swap_miss m a v p ≡ swap_direct m a v p
    unfolding swap_miss
    miss_direct h = rw h

    pub miss_faults : aborts (physical_of m) p.address ≡ true → swap_miss m a v p ≡ faulted m (other_status p) p.domain a.address
    unfolding swap_miss
    miss_faults h = rw h

    module _ (va : VirtualAddress) (f : va ≡ cleared a) where
      pub swap_found_lem : (i : ℕ) → find m.side.cache.lines va ≡ Some i → swap m a v p ≡ swap_hit m a v i
      unfolding swap
      swap_found_lem i e = rw (← f, e)

      pub swap_none : find m.side.cache.lines va ≡ None → swap m a v p ≡ swap_miss m a v p
      unfolding swap
      swap_none e = rw (← f, e)

      -- a store or a swap, by its kind and by what the Dcache's search finds
      pub found_swap : (i : ℕ) → is_swap a.kind ≡ true → find m.side.cache.lines va ≡ Some i → store_or_swap m a v p ≡ swap_hit m a v i
      found_swap i k e = rw k (swap_found_lem i e)

      pub found_store : (i : ℕ) → is_swap a.kind ≡ false → find m.side.cache.lines va ≡ Some i → store_or_swap m a v p ≡ store_hit m a v i
      found_store i k e = rw k (stores.store_found_lem m a v p va i f e)

      pub none_swap : is_swap a.kind ≡ true → find m.side.cache.lines va ≡ None → store_or_swap m a v p ≡ swap_miss m a v p
      none_swap k e = rw k (swap_none e)

      pub none_store : is_swap a.kind ≡ false → find m.side.cache.lines va ≡ None → store_or_swap m a v p ≡ store_miss m a v p
      none_store k e = rw k (stores.store_none m a v p va f e)
