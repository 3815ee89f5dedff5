-- Terms 1 and 2 for whoever calls the code, proved.
use Prim.Native.Nat.{ℕ, zero, suc, ◌<◌}
use native.Mathlib.Omega.{arith}
use mathlib.Core.Bool.{true, false}
use mathlib.Core.Path.{◌≡◌, refl, sym, ◌∙◌, ap}
use mathlib.Core.List.{List, [], ◌∷◌}
use lib.Dec.{eqb, ltb}
use lib.ListN.{get_or}
use borrow.Author.Tests.{eqb-true, eqb-false, ltb-true}
use Rattle.values.specs.Lists.{all}
use Rattle.values.specs.Registers.{zero_cp15}
use Rattle.values.specs.Rows.{Row, first_met}
use Rattle.values.specs.declared.Call.{Call}
use Rattle.values.specs.declared.Call.TheVariants.{Read, Write}
use Rattle.values.specs.declared.Call.TheVariants as calls
use Rattle.values.specs.declared.Answer.{Answer}
use Rattle.values.specs.declared.Answer.TheVariants as answer
use Rattle.values.proofs.Cases.{case, clash, and_left, and_right}
use Rattle.refusals.specs.Refusals.{refusal_in}
use Rattle.refusals.proofs.Rows.{Numbered}
use Rattle.trace.specs.Fold.{Left}
use Rattle.machine.specs.Machine.{Machine, Stepped}
use Rattle.step.specs.Meets.{start_meets, start_refusal, meets, refusal}
use Rattle.step.specs.Start as starts
use Rattle.sa110.specs.State.{machine_in}
use Rattle.state.specs.Held.{EightPlaces, zero_state}
use Rattle.state.proofs.Starts.{fresh_is}
use Rattle.state.proofs.Held.{side_same, held_same}
use Rattle.terms.specs.Term1.{ValueOrFault}
use Rattle.terms.specs.Callers.{RefusedCallWords, RefusedStartZeros, no_row, FirstRow, CallTable, StartTable, SameCalls, SameRuns, FaultLeaves, CodeTerm1}
use Rattle.terms.proofs.Answers.{call_by_refusal, start_by_refusal, served_fault}

-- ---- a refused call and a refused start

refused_call : RefusedCallWords
refused_call memory bad store s q c memory₁ store₁ r h z =
    let m = machine_in memory bad store s q in
    let e = h.calls ∙ (call_by_refusal m c).refused z in (
      held_same bad memory₁ store₁ r.state r.cp15 memory store s q h.places_after h.places (ap (λ (x : Stepped). x.machine) e),
      ap (λ (x : Stepped). x.answer) e,
    )

refused_start : RefusedStartZeros
refused_start memory store r h z =
    let e = h.starts [] ∙ (start_by_refusal memory [] store).refused z in
    let zeros = ap (λ (x : starts.Started). x.machine) e ∙ sym (fresh_is 0 memory [] store) in
    let eight : EightPlaces (zero_state 0) = record { words_long = refl; slots_long = refl } in
    let same = held_same [] memory store r.state r.cp15 memory store (zero_state 0) zero_cp15 h.places eight zeros in
    (same.same_state, same.same_cp15, ap (λ (x : starts.Started). x.refusal) e)

-- ---- the table

start_number : (memory bad store : List ℕ) → (starts.started memory bad store).refusal ≡ start_refusal memory store
unfolding starts.started
start_number memory bad store = refl

-- the number of the first row met
first_row : (rows : List (Row ℕ)) (n : ℕ) → (n ≡ 0 → ⊥) → refusal_in rows ≡ n → FirstRow rows n
unfolding first_met
first_row [] n z e = absurd (z (sym e))
first_row (r ∷ rs) n z e =
    case r.met
    (λ t. record { row = 0; is_met = t; gives_it = rw t at e; none_before = λ i h. absurd (omega arith) })
    (λ t. later t (first_row rs n z (rw t at e)))
  where
    later : r.met ≡ false → FirstRow rs n → FirstRow (r ∷ rs) n
    later t f = record { row = suc f.row; is_met = f.is_met; gives_it = f.gives_it; none_before = before }
      where
        before : (i : ℕ) → i < suc f.row → (get_or (r ∷ rs) i no_row).met ≡ false
        before zero h = t
        before (suc i) h = f.none_before i (omega arith)

row_first : (rows : List (Row ℕ)) (n : ℕ) → FirstRow rows n → refusal_in rows ≡ n
unfolding first_met
row_first rows n f = by rows f.row f.is_met f.none_before ∙ f.gives_it
  where
    by : (rows : List (Row ℕ)) (i : ℕ) → (get_or rows i no_row).met ≡ true
        → ((k : ℕ) → k < i → (get_or rows k no_row).met ≡ false)
        → refusal_in rows ≡ (get_or rows i no_row).gives
    by [] i e f = clash {b = false} e refl
    by (r ∷ rs) zero e f = rw e
    by (r ∷ rs) (suc i) e f = rw (f 0 (omega arith)) (by rs i e (λ k h. f (suc k) (omega arith)))

-- every row has a number above 0
above : (rows : List (Row ℕ)) → Numbered rows → (n : ℕ) → FirstRow rows n → n ≡ 0 → ⊥
unfolding all
above rows a n f z = by rows a f.row f.is_met (f.gives_it ∙ z)
  where
    by : (rows : List (Row ℕ)) → Numbered rows → (i : ℕ) → (get_or rows i no_row).met ≡ true
        → (get_or rows i no_row).gives ≡ 0 → ⊥
    by [] a i e z = clash {b = false} e refl
    by (r ∷ rs) a zero e z = let h = ltb-true 0 r.gives (and_left (ltb 0 r.gives) (all (λ (x : Row ℕ). ltb 0 x.gives) rs) a) in omega arith
    by (r ∷ rs) a (suc i) e z = by rs (and_right (ltb 0 r.gives) (all (λ (x : Row ℕ). ltb 0 x.gives) rs) a) i e z

meets_numbered : (m : Machine) (c : Call) → Numbered (meets m c)
unfolding all
meets_numbered m (calls.Access a) = refl
meets_numbered m (Read t) = refl
meets_numbered m (Write t v) = refl

start_numbered : (memory store : List ℕ) → Numbered (start_meets memory store)
unfolding all
start_numbered memory store = refl

refused_one : (y : Answer) (n : ℕ) → ValueOrFault y → y ≡ answer.Refused n → ⊥
refused_one (answer.Value v) n u e = let z : ◌≡◌ {A = ℕ} 0 1 = cc in absurd (omega arith)
refused_one (answer.Signed x) n u e = let z : ◌≡◌ {A = ℕ} 0 1 = cc in absurd (omega arith)
refused_one (answer.Fault f) n u e = let z : ◌≡◌ {A = ℕ} 0 1 = cc in absurd (omega arith)
refused_one (answer.Refused k) n u e = absurd u

call_table : CallTable
unfolding refusal
call_table memory bad store s q c memory₁ store₁ r h n =
    let m = machine_in memory bad store s q in
    let told = ap (λ (x : Stepped). x.answer) h.calls in (
      λ e.
          case (eqb (refusal m c) 0)
          (λ t. absurd (refused_one _ n ((call_by_refusal m c).answered (eqb-true (refusal m c) 0 t)) (sym told ∙ e)))
          (λ t.
          let z = eqb-false (refusal m c) 0 t in
          let k = sym (ap (λ (x : Stepped). x.answer) ((call_by_refusal m c).refused z)) ∙ sym told ∙ e in
          let g : refusal m c ≡ n = cc in
          first_row (meets m c) n (λ x. z (g ∙ x)) g),
      λ f.
          let g = row_first (meets m c) n f in
          let z = above (meets m c) (meets_numbered m c) n f in
          told ∙ ap (λ (x : Stepped). x.answer) ((call_by_refusal m c).refused (λ x. z (sym g ∙ x))) ∙ ap answer.Refused g,
    )

start_table : StartTable
unfolding start_refusal
start_table memory store r h n =
    let told : r.refusal ≡ start_refusal memory store = ap (λ (x : starts.Started). x.refusal) (h.starts []) ∙ start_number memory [] store in (
      λ e. first_row (start_meets memory store) n e.1 (sym told ∙ e.0),
      λ f. (told ∙ row_first (start_meets memory store) n f, above (start_meets memory store) (start_numbered memory store) n f),
    )

-- ---- the same for the same contents

same_calls : SameCalls
same_calls memory bad store s q c memory₁ store₁ r₁ h₁ memory₂ store₂ r₂ h₂ =
    let e = h₁.calls ∙ sym h₂.calls in (
      held_same bad memory₁ store₁ r₁.state r₁.cp15 memory₂ store₂ r₂.state r₂.cp15 h₁.places_after h₂.places_after
          (ap (λ (x : Stepped). x.machine) e),
      ap (λ (x : Stepped). x.answer) e,
    )

same_runs : SameRuns
same_runs memory bad store s q list answers memory₁ store₁ answers₁ r₁ h₁ memory₂ store₂ answers₂ r₂ h₂ =
    let e = h₁.runs ∙ sym h₂.runs in (
      held_same bad memory₁ store₁ r₁.state r₁.cp15 memory₂ store₂ r₂.state r₂.cp15 h₁.places_after h₂.places_after
          (ap (λ (x : Left Machine). x.machine) e),
      ap (λ (x : Left Machine). x.answers) e,
      ap (λ (x : Left Machine). x.made) e,
    )

pub code_term1 : CodeTerm1
code_term1 =
    record {
      refused_call = refused_call;
      refused_start = refused_start;
      call_table = call_table;
      start_table = start_table;
      same_calls = same_calls;
      same_runs = same_runs;
    }

-- ---- what a fault leaves

pub fault_leaves : FaultLeaves
fault_leaves memory bad store s q c memory₁ store₁ r h f e =
    let m = machine_in memory bad store s q in
    let left = ap (λ (x : Stepped). x.machine) h.calls in
    let k = served_fault m c f (sym (ap (λ (x : Stepped). x.answer) h.calls) ∙ e) in
    record {
      sets_fsr = ap (λ (x : Machine). x.cp15.registers.fsr) left ∙ k.sets_fsr;
      sets_far = ap (λ (x : Machine). x.cp15.registers.far) left ∙ k.sets_far;
      same_side = λ z.
          side_same bad memory₁ store₁ r.state r.cp15 memory store s q h.places_after h.places
          (ap (λ (x : Machine). x.side) left ∙ k.side z);
      fill_side = λ z. ap (λ (x : Machine). x.side) left ∙ k.fill_side z;
      same_size = ap (λ (x : Machine). x.size) left ∙ k.size;
      same_control = ap (λ (x : Machine). x.cp15.registers.control) left ∙ k.control;
      same_base = ap (λ (x : Machine). x.cp15.registers.base) left ∙ k.base;
      same_domains = ap (λ (x : Machine). x.cp15.registers.domains) left ∙ k.domains;
    }
