-- What a call and a start leave, by their refusal: a refused one changes nothing, any other call answers a value or a fault.
use Rattle.std.specs.Prelude.{Option, Some, None, Result, Ok, Err}
use Prim.Native.Nat.{ℕ}
use native.Mathlib.Omega.{arith}
use mathlib.Core.Bool.{true, false}
use mathlib.Core.Path.{◌≡◌, refl, sym, ◌∙◌, ap, subst}
use mathlib.Core.List.{List}
use lib.Dec.{eqb}
use borrow.Author.Tests.{eq-eqb, ne_eqb}
use Rattle.values.specs.Answers.{fsr_of}
use Rattle.values.specs.Counts.{counted}
use Rattle.values.specs.declared.VirtualAddress.{VirtualAddress}
use Rattle.values.specs.declared.Fault.{Fault}
use Rattle.values.specs.declared.Answer.{Answer}
use Rattle.values.specs.declared.Answer.TheVariants as answer
use Rattle.values.specs.declared.Kind.{Kind}
use Rattle.values.specs.declared.Kind.TheVariants.{Load, SignedLoad, Store, Swap}
use Rattle.values.specs.declared.Access.{Access}
use Rattle.values.specs.declared.Call.{Call}
use Rattle.values.specs.declared.Call.TheVariants.{Read, Write}
use Rattle.values.specs.declared.Call.TheVariants as calls
use Rattle.values.specs.declared.Status.{Status}
use Rattle.values.proofs.Cases.{case, clash}
use Rattle.words.specs.Words.{value_at}
use Rattle.words.specs.Signed.{load_answer}
use Rattle.bus.specs.Physical.{aborts, wanted_aborts, line_aborts}
use Rattle.bus.proofs.Laws.{line_wanted}
use Rattle.buffer.specs.Buffer.{drained}
use Rattle.cache.specs.Dcache.{Side, Sent, find, hit_load, gave_way}
use Rattle.cache.proofs.Sending.{fill_aborted}
use Rattle.translation.specs.Alignment.{cleared}
use Rattle.translation.specs.Translation.{translation}
use Rattle.translation.specs.Faults.{fills, buffers, fill_status, other_status, fault_set}
use Rattle.translation.specs.declared.Translation.{Translation}
use Rattle.translation.specs.declared.Place.{Place}
use Rattle.machine.specs.Machine.{Machine, memory_of, store_of, physical_of, with_counts, Stepped}
use Rattle.reach.specs.Reach.{decision, committed, faulted}
use Rattle.loads.specs.Loads.{load_hit, after_fill, load_fill, load_uncached, load_miss, load_found, load}
use Rattle.stores.specs.Stores.{store_hit, store_buffered, store_direct, store_miss, store_found, store}
use Rattle.swaps.specs.Swaps.{swap_hit, swap_direct, swap_miss, swap_found, swap}
use Rattle.access.specs.Access.{passed, access_at, access}
use Rattle.registers.specs.Registers.{read_of}
use Rattle.cp15.specs.Operations as cp15
use Rattle.step.specs.Meets.{start_refusal, refusal}
use Rattle.step.specs.Start.{started}
use Rattle.step.specs.Call.{done, served}
use Rattle.terms.specs.Callers.{on_fill, place_by, side_aborted}
use Rattle.terms.proofs.Judged.{Decides, decision_decides}
use Rattle.terms.specs.Term1.{ValueOrFault, Term1At, Term1Start}
use Rattle.values.specs.declared.Cause.{Cause}

-- ---- what an accepted call answers

-- A served access, over what it gets and the machine that it leaves: a load answers the number of bytes of memory or of the cache store that it leaves,
-- from some place on; a store answers 0; a swap answers the number of bytes that it gets, of the cache store, or of memory once the buffer is drained.
pub data Accessed (s : Side) (a : Access) (x : Stepped) : Type 0 where
  of_memory : (at : ℕ) → x.answer ≡ load_answer a.kind a.width (value_at a.width (memory_of x.machine) at) → Accessed s a x
  of_cache : (at : ℕ) → x.answer ≡ load_answer a.kind a.width (value_at a.width (store_of x.machine) at) → Accessed s a x
  stores : (v : ℕ) → a.kind ≡ Store v → x.answer ≡ answer.Value 0 → Accessed s a x
  swaps_cached : (at : ℕ) → x.answer ≡ load_answer a.kind a.width (value_at a.width s.cache.store at) → Accessed s a x
  swaps_memory : (at : ℕ)
      → x.answer ≡ load_answer a.kind a.width (value_at a.width (drained s.backing).memory at) → Accessed s a x

-- a served call: a CP15 read answers a register of the machine that it leaves, a CP15 write 0
abbrev pub Answers : Side → Call → Stepped → Type 0
Answers s (calls.Access a) x = Accessed s a x
Answers s (Read t) x = x.answer ≡ answer.Value (read_of x.machine.cp15.registers t.register)
Answers s (Write t v) x = x.answer ≡ answer.Value 0

-- ---- what holds of every fault, and of whatever answers a value, holds of every accepted call

module _ (P : Stepped → Type 0) where
  -- a fault before anything has given way
  module _ (m : Machine) (a : Access) (value : (x : Stepped) → Accessed m.side a x → P x)
      (fault : (s : Status) (d : ℕ) → on_fill s ≡ false → P (faulted m s d a.address)) where
    -- or a fill of which the wanted word or one before it aborts
    module _ (p : Place)
        (fill : wanted_aborts (physical_of m) p.address ≡ true → P (faulted (after_fill m a p) (fill_status p) p.domain a.address)) where
      other_fault : P (faulted m (other_status p) p.domain a.address)
      other_fault = fault (other_status p) p.domain (case p.page (λ t. rw t) (λ t. rw t))

      load_miss_by : P (load_miss m a p)
      unfolding load_miss load_fill load_uncached
      load_miss_by =
          case (fills m.cp15.registers p)
          (λ f.
          case (wanted_aborts (physical_of m) p.address) (λ h. rw (f, h) (fill h)) (λ h. rw (f, h) (value _ (of_memory _ refl))))
          (λ f.
          case (aborts (physical_of m) p.address) (λ h. rw (f, h) other_fault) (λ h. rw (f, h) (value _ (of_memory _ refl))))

      load_found_by : (x : Option ℕ) → P (load_found m a p x)
      unfolding load_hit hit_load
      load_found_by (Some i) = value _ (of_cache _ refl)
      load_found_by None = load_miss_by

      module _ (v : ℕ) (k : a.kind ≡ Store v) where
        store_miss_by : P (store_miss m a v p)
        unfolding store_miss store_buffered store_direct
        store_miss_by =
            case (buffers m.cp15.registers p) (λ f. rw f (value _ (stores v k refl)))
            (λ f.
            case (aborts (physical_of m) p.address) (λ h. rw (f, h) other_fault) (λ h. rw (f, h) (value _ (stores v k refl))))

        store_found_by : (x : Option ℕ) → P (store_found m a v p x)
        unfolding store_hit
        store_found_by (Some i) = value _ (stores v k refl)
        store_found_by None = store_miss_by

      module _ (v : ℕ) where
        swap_miss_by : P (swap_miss m a v p)
        unfolding swap_miss swap_direct
        swap_miss_by =
            case (aborts (physical_of m) p.address) (λ h. rw h other_fault) (λ h. rw h (value _ (swaps_memory _ refl)))

        swap_found_by : (x : Option ℕ) → P (swap_found m a v p x)
        unfolding swap_hit load_hit hit_load
        swap_found_by (Some i) = value _ (swaps_cached _ refl)
        swap_found_by None = swap_miss_by

      passed_by : (k : Kind) → a.kind ≡ k → P (passed m a p k)
      unfolding load store swap
      passed_by Load e = load_found_by (find m.side.cache.lines (cleared a))
      passed_by SignedLoad e = load_found_by (find m.side.cache.lines (cleared a))
      passed_by (Store v) e = store_found_by v e (find m.side.cache.lines (cleared a))
      passed_by (Swap v) e = swap_found_by v (find m.side.cache.lines (cleared a))

    at_by : (t : Result Translation Cause) (c : Result Place Cause) → Decides (cleared a) t c
        → ((p : Place) → p ≡ place_by (cleared a) t → wanted_aborts (physical_of m) p.address ≡ true
        → P (faulted (after_fill m a p) (fill_status p) p.domain a.address)) → P (access_at m a c)
    unfolding access_at
    at_by t (Err why) k fill = fault why.status why.domain k
    at_by t (Ok p) k fill = passed_by p (fill p k) a.kind refl

  pub done_by : (m : Machine) (c : Call) → ((x : Stepped) → Answers m.side c x → P x)
      → ((t : Result Translation Cause) (s : Status) (d : ℕ) (va : VirtualAddress) → on_fill s ≡ false → P (faulted (committed m t) s d va))
      → ((a : Access) → c ≡ calls.Access a → (t : Result Translation Cause) (p : Place)
      → p ≡ place_by (cleared a) (translation m.entries m.cp15.registers (physical_of m) (cleared a))
      → wanted_aborts (physical_of m) p.address ≡ true → P (faulted (after_fill (committed m t) a p) (fill_status p) p.domain a.address))
      → P (done m c)
  unfolding access committed cp15.read cp15.write
  done_by m (calls.Access a) value fault fill =
      let d = decision m a in
      at_by (committed m d.mapping) a value (λ s x k. fault d.mapping s x a.address k)
      (translation m.entries m.cp15.registers (physical_of m) (cleared a)) d.checked (decision_decides m a) (fill a refl d.mapping)
  done_by m (Read t) value fault fill = value _ refl
  done_by m (Write t v) value fault fill = value _ refl

-- an answer that is a value
abbrev IsValue : Answer → Type 0
IsValue (answer.Value v) = Unit {0}
IsValue (answer.Signed z) = Unit {0}
IsValue (answer.Fault f) = ⊥
IsValue (answer.Refused n) = ⊥

load_value : (k : Kind) (width v : ℕ) → IsValue (load_answer k width v)
load_value Load width v = tt
load_value SignedLoad width v = tt
load_value (Store x) width v = tt
load_value (Swap x) width v = tt

-- what an accepted call answers but for a fault is a value
answers_value : (s : Side) (c : Call) (x : Stepped) → Answers s c x → IsValue x.answer
answers_value s (calls.Access a) x (of_memory at e) = subst IsValue (sym e) (load_value a.kind a.width (value_at a.width (memory_of x.machine) at))
answers_value s (calls.Access a) x (of_cache at e) = subst IsValue (sym e) (load_value a.kind a.width (value_at a.width (store_of x.machine) at))
answers_value s (calls.Access a) x (stores v k e) = subst IsValue (sym e) tt
answers_value s (calls.Access a) x (swaps_cached at e) = subst IsValue (sym e) (load_value a.kind a.width (value_at a.width s.cache.store at))
answers_value s (calls.Access a) x (swaps_memory at e) =
    subst IsValue (sym e) (load_value a.kind a.width (value_at a.width (drained s.backing).memory at))
answers_value s (Read t) x e = subst IsValue (sym e) tt
answers_value s (Write t v) x e = subst IsValue (sym e) tt

-- ---- every accepted call answers a value or a fault

value_or_fault : (x : Stepped) → IsValue x.answer → ValueOrFault x.answer
value_or_fault x v = by x.answer v
  where
    by : (y : Answer) → IsValue y → ValueOrFault y
    by (answer.Value v) u = tt
    by (answer.Signed z) u = tt
    by (answer.Fault f) u = tt
    by (answer.Refused n) u = absurd u

done_answers : (m : Machine) (c : Call) → ValueOrFault (done m c).answer
unfolding faulted
done_answers m c = done_by (λ x. ValueOrFault x.answer) m c (λ x v. value_or_fault x (answers_value m.side c x v)) (λ t s d va k. tt) (λ a e t p q w. tt)

-- ---- what a fault leaves

-- "A fault sets FSR, and FAR to the address given. Of the rest only the TLB and counts may change"; but for a fill's abort
pub record FaultKeeps (m : Machine) (c : Call) (f : Fault) (x : Machine) : Type 0 where
  pub sets_fsr : x.cp15.registers.fsr ≡ fsr_of f
  pub sets_far : x.cp15.registers.far ≡ f.address.0
  pub side : on_fill f.status ≡ false → x.side ≡ m.side
  pub fill_side : on_fill f.status ≡ true → x.side ≡ side_aborted m c
  pub size : x.size ≡ m.size
  pub control : x.cp15.registers.control ≡ m.cp15.registers.control
  pub base : x.cp15.registers.base ≡ m.cp15.registers.base
  pub domains : x.cp15.registers.domains ≡ m.cp15.registers.domains

-- no value is a fault, and a fault is one fault
no_fault : (y : Answer) → IsValue y → (f : Fault) → y ≡ answer.Fault f → ⊥
no_fault (answer.Value v) u f e = let z : ◌≡◌ {A = ℕ} 0 1 = cc in absurd (omega arith)
no_fault (answer.Signed x) u f e = let z : ◌≡◌ {A = ℕ} 0 1 = cc in absurd (omega arith)
no_fault (answer.Fault g) u f e = u
no_fault (answer.Refused n) u f e = u

-- a fill whose wanted word or one before it aborts leaves an empty place
fill_gone : (m : Machine) (a : Access) (t : Result Translation Cause) (p : Place)
    → p ≡ place_by (cleared a) (translation m.entries m.cp15.registers (physical_of m) (cleared a))
    → wanted_aborts (physical_of m) p.address ≡ true → (after_fill (committed m t) a p).side ≡ side_aborted m (calls.Access a)
unfolding after_fill committed
fill_gone m a t p q w =
    ap (λ (x : Sent). x.side)
    (fill_aborted m.side (cleared a) p.address
    (case (line_aborts (physical_of m) p.address) (λ u. u) (λ u. clash w (line_wanted (physical_of m) p.address u))))
    ∙ ap (λ (x : Place). (gave_way m.side (cleared a) x.address).side) q

done_fault : (m : Machine) (c : Call) (f : Fault) → (done m c).answer ≡ answer.Fault f → FaultKeeps m c f (done m c).machine
unfolding faulted committed fault_set after_fill
done_fault m c =
    done_by (λ x. (f : Fault) → x.answer ≡ answer.Fault f → FaultKeeps m c f x.machine) m c
    (λ x v f e. absurd (no_fault x.answer (answers_value m.side c x v) f e))
    (λ t s d va k f e.
    let g : Fault = record { status = s; domain = d; address = va } in
    let q : g ≡ f = cc in
    subst (λ (y : Fault). FaultKeeps m c y (faulted (committed m t) s d va).machine) q
    (record {
      sets_fsr = refl;
      sets_far = refl;
      side = λ z. refl;
      fill_side = λ z. clash z k;
      size = refl;
      control = refl;
      base = refl;
      domains = refl;
    }))
    (λ a i t p j w f e.
    let g : Fault = record { status = fill_status p; domain = p.domain; address = a.address } in
    let q : g ≡ f = cc in
    subst (λ (y : Fault). FaultKeeps m c y (faulted (after_fill (committed m t) a p) (fill_status p) p.domain a.address).machine) q
    (subst (λ (y : Call). FaultKeeps m y g (faulted (after_fill (committed m t) a p) (fill_status p) p.domain a.address).machine) (sym i)
    (filled_keeps m a t p j w)))
  where
    filled_keeps : (m : Machine) (a : Access) (t : Result Translation Cause) (p : Place)
        → p ≡ place_by (cleared a) (translation m.entries m.cp15.registers (physical_of m) (cleared a))
        → wanted_aborts (physical_of m) p.address ≡ true
        → FaultKeeps m (calls.Access a) (record { status = fill_status p; domain = p.domain; address = a.address })
        (faulted (after_fill (committed m t) a p) (fill_status p) p.domain a.address).machine
    filled_keeps m a t p j w =
        record {
          sets_fsr = refl;
          sets_far = refl;
          side = λ z. clash (case p.page (λ u. rw u) (λ u. rw u)) z;
          fill_side = λ z. fill_gone m a t p j w;
          size = refl;
          control = refl;
          base = refl;
          domains = refl;
        }

-- ---- a call and a start, by their refusal

pub call_by_refusal : (m : Machine) (c : Call) → Term1At m c
unfolding served
call_by_refusal m c =
    record {
      refused = λ z. rw (ne_eqb (refusal m c) 0 z);
      answered = λ e. rw (eq-eqb (refusal m c) 0 e) (done_answers (with_counts m (counted m.counts)) c);
    }

pub start_by_refusal : (memory bad store : List ℕ) → Term1Start memory bad store
unfolding started
start_by_refusal memory bad store =
    record {
      refused = λ z. rw (ne_eqb (start_refusal memory store) 0 z);
      answered = λ e. rw e;
    }

-- counting the call changes nothing that a fill asks
counted_gone : (m : Machine) (c : Call) → side_aborted (with_counts m (counted m.counts)) c ≡ side_aborted m c
counted_gone m (calls.Access a) = refl
counted_gone m (Read t) = refl
counted_gone m (Write t v) = refl

-- a call that answers a fault
pub served_fault : (m : Machine) (c : Call) (f : Fault) → (served m c).answer ≡ answer.Fault f → FaultKeeps m c f (served m c).machine
unfolding served
served_fault m c f e =
    case (eqb (refusal m c) 0)
    (λ t.
    let e₁ : (done (with_counts m (counted m.counts)) c).answer ≡ answer.Fault f = rw t at e in
    let k = done_fault (with_counts m (counted m.counts)) c f e₁ in
    rw t
    (record {
      sets_fsr = k.sets_fsr;
      sets_far = k.sets_far;
      side = k.side;
      fill_side = λ z. k.fill_side z ∙ counted_gone m c;
      size = k.size;
      control = k.control;
      base = k.base;
      domains = k.domains;
    }))
    (λ t.
    let e₁ : answer.Refused (refusal m c) ≡ answer.Fault f = rw t at e in
    let z : ◌≡◌ {A = ℕ} 0 1 = cc in
    absurd (omega arith))
