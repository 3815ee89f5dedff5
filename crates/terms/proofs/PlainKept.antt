-- What no call of the plain machine changes: memory's length, and the map.
use Rattle.std.specs.Prelude.{Result, Ok, Err}
use Prim.Native.Nat.{ℕ}
use mathlib.Core.Path.{◌≡◌, refl, ◌∙◌}
use mathlib.Core.List.{List, [], ◌∷◌}
use lib.Dec.{eqb}
use lib.ListN.{length}
use Rattle.values.specs.declared.Kind.{Kind}
use Rattle.values.specs.declared.Kind.TheVariants.{Load, SignedLoad, Store, Swap}
use Rattle.values.specs.declared.Access.{Access}
use Rattle.values.specs.declared.Call.{Call}
use Rattle.values.specs.declared.Call.TheVariants.{Read, Write}
use Rattle.values.specs.declared.Call.TheVariants as calls
use Rattle.values.proofs.Cases.{case}
use Rattle.words.proofs.Laws.{length_stored}
use Rattle.bus.specs.Physical.{aborts}
use Rattle.translation.specs.Faults.{buffers}
use Rattle.translation.specs.declared.Place.{Place}
use Rattle.trace.specs.Fold.{final_of}
use Rattle.plain.specs.Plain.{Plain, plain_physical, plain_faulted, plain_reach, plain_load_aborts, plain_load, plain_store, plain_swap, plain_passed, plain_at}
use Rattle.plain.specs.Plain.{plain_access, plain_read, plain_write, plain_done, plain_refusal, counted, plainly, plain_final}
use Rattle.values.specs.declared.Cause.{Cause}

pub record Same (p q : Plain) : Type 0 where
  pub long : length q.memory ≡ length p.memory
  pub map : q.bad ≡ p.bad

abbrev as_was : {p q : Plain} → length q.memory ≡ length p.memory → q.bad ≡ p.bad → Same p q
as_was e f = record { long = e; map = f }

module _ (p : Plain) (a : Access) (l : Place) where
  load_keeps : Same p (plain_load p a l).plain
  unfolding plain_load plain_faulted
  load_keeps = case (plain_load_aborts p l) (λ t. rw t (as_was refl refl)) (λ t. rw t (as_was refl refl))

  module _ (v : ℕ) where
    store_keeps : Same p (plain_store p a v l).plain
    unfolding plain_store plain_faulted
    store_keeps =
        case (aborts (plain_physical p) l.address)
        (λ t. case (buffers p.registers l) (λ u. rw (t, u) (as_was refl refl)) (λ u. rw (t, u) (as_was refl refl)))
        (λ t. rw t (as_was (length_stored a.width p.memory l.address.0 v) refl))

    swap_keeps : Same p (plain_swap p a v l).plain
    unfolding plain_swap plain_faulted
    swap_keeps = case (aborts (plain_physical p) l.address) (λ t. rw t (as_was refl refl)) (λ t. rw t store_keeps)

  passed_keeps : (k : Kind) → Same p (plain_passed p a l k).plain
  passed_keeps Load = load_keeps
  passed_keeps SignedLoad = load_keeps
  passed_keeps (Store v) = store_keeps v
  passed_keeps (Swap v) = swap_keeps v

at_keeps : (p : Plain) (a : Access) (c : Result Place Cause) → Same p (plain_at p a c).plain
unfolding plain_at plain_faulted
at_keeps p a (Err why) = as_was refl refl
at_keeps p a (Ok l) = passed_keeps p a l a.kind

done_keeps : (p : Plain) (c : Call) → Same p (plain_done p c).plain
unfolding plain_access plain_read plain_write
done_keeps p (calls.Access a) = at_keeps p a (plain_reach p a)
done_keeps p (Read t) = as_was refl refl
done_keeps p (Write t v) = as_was refl refl

-- a call
pub call_keeps : (p : Plain) (c : Call) → Same p (plainly p c).plain
unfolding plainly
call_keeps p c =
    case (eqb (plain_refusal p c) 0)
    (λ t. let k = done_keeps (counted p) c in rw t (as_was k.long k.map))
    (λ t. rw t (as_was refl refl))

-- a list of calls
pub plain_keeps : (cs : List Call) (p : Plain) → Same p (plain_final p cs)
unfolding final_of
plain_keeps [] p = as_was refl refl
plain_keeps (c ∷ cs) p =
    let k = call_keeps p c in
    let r = plain_keeps cs (plainly p c).plain in
    as_was (r.long ∙ k.long) (r.map ∙ k.map)
