-- A swap that passes: a hit, memory behind a drain, or a fault. It leaves what a store that hits, or one that goes to memory, leaves.
use Rattle.std.specs.Prelude.{Option, Some, None, Ok}
use Prim.Native.Nat.{ℕ, ◌+◌}
use native.Mathlib.Omega.{arith}
use mathlib.Core.Bool.{false}
use mathlib.Core.Path.{◌≡◌, refl, sym, ◌∙◌, ap, subst}
use Rattle.values.specs.declared.Access.{Access}
use Rattle.values.specs.declared.Answer.{Answer}
use Rattle.values.proofs.Cases.{case}
use Rattle.words.specs.Words.{value_at}
use Rattle.words.specs.Signed.{load_answer}
use Rattle.words.proofs.Laws.{same_bytes}
use Rattle.bus.specs.Physical.{aborts}
use Rattle.cache.specs.Dcache.{find}
use Rattle.translation.specs.Alignment.{cleared}
use Rattle.translation.specs.Faults.{other_status}
use Rattle.translation.specs.declared.Place.{Place}
use Rattle.machine.specs.Machine.{Machine, memory_of, physical_of, drained_all, Stepped, stepped_from}
use Rattle.reach.proofs.Bounds.{in_line}
use Rattle.loads.specs.Loads.{load_hit}
use Rattle.stores.specs.Stores.{store_hit, store_direct}
use Rattle.swaps.specs.Swaps.{swap_hit, swap_direct, swap_miss, swap}
use Rattle.swaps.proofs.Laws.{miss_direct, miss_faults, swap_found_lem, swap_none}
use Rattle.plain.specs.Plain.{Plain, plain_physical, plain_stepped, plain_loaded, plain_store, plain_swap}
use Rattle.plain.proofs.Laws.{swap_in, swap_other}
use Rattle.terms.specs.History.{History, after_store}
use Rattle.terms.proofs.Fills.{drained_byte}
use Rattle.terms.proofs.Alike.{Alike, alike_by}
use Rattle.terms.proofs.Passing.{Passes, plain_aborts, hit_answers, both_fault}
use Rattle.terms.proofs.LoadsAlike as loads
use Rattle.terms.proofs.StoresAlike as stores

module _ (n : ℕ) (m : Machine) (p : Plain) (h : History) (a : Access) (v : ℕ) (l : Place) (k : Passes n m p h a l) where
  abbrev after : History
  after = after_store h (plain_physical p) (cleared a) (Ok l)

  -- what a store leaves, with the word that the plain machine reads, where it answers
  both_alike : (y s : Stepped) (x : Answer) → s ≡ stepped_from y.machine x → aborts (plain_physical p) l.address ≡ false
      → x ≡ plain_loaded p a l → Alike n y (plain_store p a v l) after → Alike n s (plain_swap p a v l) after
  both_alike y s x e b f j =
      alike_by n s (stepped_from y.machine x) (plain_swap p a v l) (plain_stepped (plain_store p a v l).plain (plain_loaded p a l)) after e
      (swap_in p a l v b)
      (record {
        same_answer = f;
        registers = j.registers;
        calls = j.calls;
        long = j.long;
        same_map = j.same_map;
        side = j.side;
        tlb = j.tlb;
      })

  hit_alike : (i : ℕ) → find m.side.cache.lines (cleared a) ≡ Some i → Alike n (swap_hit m a v i) (plain_swap p a v l) after
  unfolding swap_hit
  hit_alike i e =
      both_alike (store_hit m a v i) (swap_hit m a v i) (load_hit m a i).answer refl (hit_answers n m p h a l k i e)
      (loads.hit_answer n m p h a l k i e) (stores.hit_alike n m p h a v l k i e)

  module _ (miss : find m.side.cache.lines (cleared a) ≡ None) where
    -- the value read once the buffer is drained is the plain machine's
    read_alike : value_at a.width (memory_of (drained_all m)) l.address.0 ≡ value_at a.width p.memory l.address.0
    read_alike =
        let pa = l.address.0 in
        let w = in_line a k.width in
        let q = k.within in
        same_bytes a.width (memory_of (drained_all m)) p.memory pa pa
        (λ j z.
        drained_byte n m.side k.shared.side_is p.memory h k.shared.side (cleared a) l.address k.here miss (pa + j) (omega arith))

    direct_alike : aborts (plain_physical p) l.address ≡ false → Alike n (swap_direct m a v l) (plain_swap p a v l) after
    unfolding swap_direct
    direct_alike b =
        let x = load_answer a.kind a.width (value_at a.width (memory_of (drained_all m)) l.address.0) in
        both_alike (store_direct m a v l) (swap_direct m a v l) x refl b
        (ap (load_answer a.kind a.width) read_alike)
        (stores.direct_alike n m p h a v l k b miss)

    miss_alike : Alike n (swap_miss m a v l) (plain_swap p a v l) after
    miss_alike =
        case (aborts (physical_of m) l.address)
        (λ t.
        let b = plain_aborts n m p h a l k ∙ t in
        subst (λ (f : History). Alike n (swap_miss m a v l) (plain_swap p a v l) f) (sym (stores.after_out n m p h a v l k b))
        (both_fault n m p h a l k (swap_miss m a v l) (plain_swap p a v l) (other_status l) (miss_faults m a v l t) (swap_other p a l v b)))
        (λ t.
        let b = plain_aborts n m p h a l k ∙ t in
        alike_by n (swap_miss m a v l) (swap_direct m a v l) (plain_swap p a v l) (plain_swap p a v l) after (miss_direct m a v l t) refl (direct_alike b))

  pub swap_alike : Alike n (swap m a v l) (plain_swap p a v l) (after_store h (plain_physical p) (cleared a) (Ok l))
  swap_alike = by (find m.side.cache.lines (cleared a)) refl
    where
      by : (x : Option ℕ) → find m.side.cache.lines (cleared a) ≡ x → Alike n (swap m a v l) (plain_swap p a v l) after
      by (Some i) e =
          alike_by n (swap m a v l) (swap_hit m a v i) (plain_swap p a v l) (plain_swap p a v l) after (swap_found_lem m a v l (cleared a) refl i e) refl
          (hit_alike i e)
      by None e =
          alike_by n (swap m a v l) (swap_miss m a v l) (plain_swap p a v l) (plain_swap p a v l) after (swap_none m a v l (cleared a) refl e) refl (miss_alike e)
