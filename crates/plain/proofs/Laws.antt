-- The cases of the plain machine's step, and what each keeps.
use Rattle.std.specs.Prelude.{Result, Ok, Err}
use Prim.Native.Nat.{ℕ, ◌+◌, ◌≤◌}
use native.Mathlib.Omega.{arith}
use mathlib.Core.Bool.{Bool, true, false, not}
use mathlib.Core.Path.{◌≡◌, refl, sym, ◌∙◌, ap, subst}
use mathlib.Core.List.{List, [], ◌∷◌}
use mathlib.Core.Logic.{⊎_elim}
use lib.Dec.{eqb}
use lib.ListN.{length}
use denote.Enum.Declared.{tag_of}
use types.Run.{OneOf}
use borrow.Author.Tests.{ne_eqb}
use Rattle.values.specs.Control.{kept}
use Rattle.values.specs.Kinds.{is_store}
use Rattle.values.specs.declared.VirtualAddress.{VirtualAddress}
use Rattle.values.specs.declared.Registers.{Registers}
use Rattle.values.specs.declared.Kind.{Kind}
use Rattle.values.specs.declared.Kind.TheVariants.{Load, SignedLoad, Store, Swap}
use Rattle.values.specs.declared.Access.{Access}
use Rattle.values.specs.declared.Transfer.{Transfer}
use Rattle.values.specs.declared.Call.{Call}
use Rattle.values.specs.declared.Status.{Status}
use Rattle.values.specs.declared.Status.TheVariants.{Alignment}
use Rattle.values.specs.declared.Answer.TheVariants as answer
use Rattle.values.proofs.Cases.{case, clash}
use Rattle.values.specs.contracts.Kind as kinds
use Rattle.bus.specs.Physical.{aborts, wanted_aborts}
use Rattle.bus.proofs.Laws.{wanted_own}
use Rattle.translation.specs.Alignment.{alignment_faults, cleared}
use Rattle.translation.specs.Translation.{walked_only, checked, decision_from, decided}
use Rattle.translation.specs.Faults.{fills, buffers, fill_status, other_status, fault_set}
use Rattle.translation.specs.declared.Decision.{Decision}
use Rattle.translation.specs.declared.Translation.{Translation}
use Rattle.translation.specs.declared.Translation.TheVariants.{Flat}
use Rattle.translation.specs.declared.Place.{Place}
use Rattle.translation.proofs.Laws.{in_word}
use Rattle.registers.specs.Registers.{written_of}
use Rattle.refusals.specs.Refusals.{refuses, refusal_in, map_fits, row5, call_rows, call_refusal}
use Rattle.refusals.proofs.Rows.{row_passed}
use Rattle.plain.specs.Plain.{Plain, PlainStepped, plain_stepped, plain_physical, plain_faulted, plain_reach, plain_loaded, plain_load_aborts, plain_load}
use Rattle.plain.specs.Plain.{plain_store, plain_swap, plain_written, plain_passed, plain_at, plain_access}
use Rattle.plain.specs.Plain.{plain_write, plain_done, plain_by, plainly, plain_refusal, counted}
use Rattle.plain.specs.Code.{Kept, Steps, Inside}
use Rattle.values.specs.declared.Cause.{Cause}
use Rattle.values.specs.Causes.{cause_from}

-- ---- loads, stores and swaps that pass

-- which words a load reads: those of its line up to the wanted one where it may fill, else its own
module _ (p : Plain) (l : Place) where
  pub load_aborts_fill : fills p.registers l ≡ true → plain_load_aborts p l ≡ wanted_aborts (plain_physical p) l.address
  load_aborts_fill f = rw f

  pub load_aborts_other : fills p.registers l ≡ false → plain_load_aborts p l ≡ aborts (plain_physical p) l.address
  load_aborts_other f = rw f

  -- its own word is among them, and is the last
  pub load_answers : plain_load_aborts p l ≡ false → aborts (plain_physical p) l.address ≡ false
  load_answers h =
      case (fills p.registers l)
      (λ f. wanted_own (plain_physical p) l.address (sym (load_aborts_fill f) ∙ h))
      (λ f. sym (load_aborts_other f) ∙ h)

  pub load_wanted : wanted_aborts (plain_physical p) l.address ≡ false → plain_load_aborts p l ≡ false
  load_wanted h =
      case (fills p.registers l)
      (λ f. load_aborts_fill f ∙ h)
      (λ f. load_aborts_other f ∙ wanted_own (plain_physical p) l.address h)

module _ (p : Plain) (a : Access) (l : Place) where
  pub load_in : plain_load_aborts p l ≡ false → plain_load p a l ≡ plain_stepped p (plain_loaded p a l)
  unfolding plain_load
  load_in h = rw h

  module _ (h : plain_load_aborts p l ≡ true) where
    pub load_fill_lem : fills p.registers l ≡ true → plain_load p a l ≡ plain_faulted p (fill_status l) l.domain a.address
    unfolding plain_load
    load_fill_lem f = rw (h, f)

    pub load_other : fills p.registers l ≡ false → plain_load p a l ≡ plain_faulted p (other_status l) l.domain a.address
    unfolding plain_load
    load_other f = rw (h, f)

  module _ (v : ℕ) where
    pub store_in : aborts (plain_physical p) l.address ≡ false → plain_store p a v l ≡ plain_stepped (plain_written p a v l) (answer.Value 0)
    unfolding plain_store
    store_in h = rw h

    module _ (h : aborts (plain_physical p) l.address ≡ true) where
      pub store_drop : buffers p.registers l ≡ true → plain_store p a v l ≡ plain_stepped p (answer.Value 0)
      unfolding plain_store
      store_drop f = rw (h, f)

      pub store_other : buffers p.registers l ≡ false → plain_store p a v l ≡ plain_faulted p (other_status l) l.domain a.address
      unfolding plain_store
      store_other f = rw (h, f)

    pub swap_in : aborts (plain_physical p) l.address ≡ false → plain_swap p a v l ≡ plain_stepped (plain_store p a v l).plain (plain_loaded p a l)
    unfolding plain_swap
    swap_in h = rw h

    pub swap_other : aborts (plain_physical p) l.address ≡ true → plain_swap p a v l ≡ plain_faulted p (other_status l) l.domain a.address
    unfolding plain_swap
    swap_other h = rw h

-- ---- by the access's kind

-- a kind whose variant is the first or the second loads
pub loads : (k : Kind) → OneOf (0 ∷ 1 ∷ []) (tag_of kinds.the_type k) → is_store k ≡ false
loads Load h = refl
loads SignedLoad h = refl
loads (Store v) h = ⊎_elim (λ e. absurd (omega arith)) (λ e. absurd (omega arith)) h
loads (Swap v) h = ⊎_elim (λ e. absurd (omega arith)) (λ e. absurd (omega arith)) h

pub passed_load : (p : Plain) (a : Access) (l : Place) (k : Kind) → is_store k ≡ false → plain_passed p a l k ≡ plain_load p a l
passed_load p a l Load h = refl
passed_load p a l SignedLoad h = refl
passed_load p a l (Store v) h = clash {b = true} refl h
passed_load p a l (Swap v) h = clash {b = true} refl h

-- an access whose word lies in memory lies there whole: no access crosses a word
pub inside_fits : (memory : List ℕ) (a : Access) (l : Place) → Inside memory a l → l.address.0 + a.width ≤ length memory
inside_fits memory a l i =
    let h = i.inside in
    let k = in_word a l.address.0 i.placed.width i.placed.place.within in
    omega arith

-- ---- by what alignment, translation and rights give

module _ (r : Registers) (a : Access) (t : Result Translation Cause) where
  decided_misaligned : alignment_faults r a ≡ true → decided r a t ≡ decision_from (Ok Flat) (Err (cause_from Alignment 0))
  unfolding decided
  decided_misaligned h = rw h

  decided_aligned : alignment_faults r a ≡ false → decided r a t ≡ decision_from t (checked r a t)
  unfolding decided
  decided_aligned h = rw h

module _ (p : Plain) (a : Access) where
  abbrev walked : Result Translation Cause
  walked = walked_only p.registers (plain_physical p) (cleared a)

  pub reach_misaligned : alignment_faults p.registers a ≡ true → plain_reach p a ≡ Err (cause_from Alignment 0)
  unfolding plain_reach
  reach_misaligned h = ap (λ (d : Decision). d.checked) (decided_misaligned p.registers a walked h)

  pub reach_aligned : alignment_faults p.registers a ≡ false
      → plain_reach p a ≡ checked p.registers a (walked_only p.registers (plain_physical p) (cleared a))
  unfolding plain_reach
  reach_aligned h = ap (λ (d : Decision). d.checked) (decided_aligned p.registers a walked h)

  pub access_by : (c : Result Place Cause) → plain_reach p a ≡ c → plain_access p a ≡ plain_at p a c
  unfolding plain_access
  access_by c e = ap (plain_at p a) e

  pub at_passed : (l : Place) → plain_at p a (Ok l) ≡ plain_passed p a l a.kind
  unfolding plain_at
  at_passed l = refl

  pub at_denied : (s : Status) (d : ℕ) → plain_at p a (Err (cause_from s d)) ≡ plain_faulted p s d a.address
  unfolding plain_at
  at_denied s d = refl

-- ---- what is kept

module _ (p : Plain) (k : Kept p.registers) where
  pub keep_faulted : (s : Status) (d : ℕ) (va : VirtualAddress) → Kept (plain_faulted p s d va).plain.registers
  unfolding plain_faulted fault_set
  keep_faulted s d va = record { base = k.base; control = k.control }

  written_keeps : (n v : ℕ) → Kept (written_of p.registers n v)
  unfolding written_of kept
  written_keeps n v =
      case (eqb n 1) (λ e. rw e (record { base = k.base; control = omega arith }))
      (λ e1. case (eqb n 2) (λ e. rw (e1, e) (record { base = omega arith; control = k.control }))
      (λ e2. case (eqb n 3) (λ e. rw (e1, e2, e) (record { base = k.base; control = k.control }))
      (λ e3. case (eqb n 5) (λ e. rw (e1, e2, e3, e) (record { base = k.base; control = k.control }))
      (λ e5. case (eqb n 6) (λ e. rw (e1, e2, e3, e5, e) (record { base = k.base; control = k.control })) (λ e6. rw (e1, e2, e3, e5, e6) k)))))

  pub keep_written : (t : Transfer) (v : ℕ) → Kept (plain_write p t v).plain.registers
  unfolding plain_write
  keep_written t v = written_keeps t.register v

-- ---- one call

-- a call that is not refused is not refused by itself
pub accepted : (fits : Bool) (calls : ℕ) (c : Call) → 0 ≡ refusal_in (refuses 16 (not fits) ∷ row5 calls ∷ call_rows c) → call_refusal c ≡ 0
accepted fits calls c h =
    let k = row_passed (refuses 16 (not fits)) (row5 calls ∷ call_rows c) (omega arith) (sym h) in
    (row_passed (row5 calls) (call_rows c) (omega arith) k.1).1

module _ (p : Plain) (c : Call) (n : ℕ) (fits : Bool) (m : fits ≡ map_fits (length p.memory) p.bad)
    (e : n ≡ refusal_in (refuses 16 (not fits) ∷ row5 p.calls ∷ call_rows c)) where
  by_refusal : plainly p c ≡ plain_by p c n
  unfolding plainly plain_refusal
  by_refusal = rw (← m, e)

  pub refused : (n ≡ 0 → ⊥) → plainly p c ≡ plain_stepped p (answer.Refused n)
  refused z = by_refusal ∙ rw (ne_eqb n 0 z)

  pub not_refused : n ≡ 0 → plainly p c ≡ plain_done (counted p) c
  not_refused z = by_refusal ∙ rw z

-- ---- steps

pub steps_to : (x e : PlainStepped) → x ≡ e → Kept e.plain.registers → Steps x e
steps_to x e q k = record { same = q; kept = subst (λ (y : PlainStepped). Kept y.plain.registers) (sym q) k }

-- a step that ends in a fault
pub fault_steps : (p : Plain) → Kept p.registers → (x e : PlainStepped) (s t : Status) (d : ℕ) (va : VirtualAddress) → x ≡ plain_faulted p s d va
    → s ≡ t → e ≡ plain_faulted p t d va → Steps x e
fault_steps p k x e s t d va q r u =
    record {
      same = q ∙ ap (λ (y : Status). plain_faulted p y d va) r ∙ sym u;
      kept = subst (λ (y : PlainStepped). Kept y.plain.registers) (sym q) (keep_faulted p k s d va);
    }
