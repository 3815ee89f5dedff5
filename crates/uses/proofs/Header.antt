-- What the header says, proved.
use Prim.Native.Nat.{ℕ}
use mathlib.Core.Path.{◌≡◌, refl, sym, ◌∙◌, ap}
use mathlib.Core.List.{List, ◌++◌, map}
use lib.ListN.{length, drop}
use Rattle.values.specs.Registers.{zero_cp15}
use Rattle.values.specs.declared.Call.{Call}
use Rattle.trace.specs.Calls.{call_of}
use Rattle.trace.specs.Codes.{code_of}
use Rattle.trace.specs.Fold.{Left, left_of}
use Rattle.machine.specs.Machine.{Machine, fresh, bad_of}
use Rattle.step.specs.Meets.{start_refusal}
use Rattle.step.specs.Start as starts
use Rattle.step.specs.Run.{answers, final, run}
use Rattle.state.specs.Held.{EightPlaces, zero_state}
use Rattle.sa110.specs.State.{machine_in}
use Rattle.state.proofs.Starts.{fresh_is}
use Rattle.state.proofs.Held.{held_same}
use Rattle.lent.specs.Coded.{Coded, called_by, coded_of}
use Rattle.terms.specs.Corollaries.{calls_made}
use Rattle.terms.proofs.Answers.{call_by_refusal, start_by_refusal}
use Rattle.uses.specs.Uses.{Lent, machine, Starts, Use, one, many, Meets, Chain, calls_of, codes_of, last_of}
use Rattle.uses.specs.Header.{SameLent, Eight, HeaderStart, HeaderCall, HeaderRun, Header}
use Rattle.uses.proofs.Uses.{chain_is}

-- two machines that are the same are held alike
lent_same : (k l : Lent) → Eight k → Eight l → machine k ≡ machine l → SameLent k l
lent_same k l f g e =
    let same = ap bad_of e in
    let e₁ = ap (λ (x : List ℕ). machine_in k.memory x k.store k.state k.cp15) (sym same) ∙ e in
    (same, held_same l.bad k.memory k.store k.state k.cp15 l.memory l.store l.state l.cp15 f g e₁)

-- ---- the start

module _ (l : Lent) (n : ℕ) (eight : Eight l) (e : Starts l n) where
  -- a start that leaves a fresh machine of this size
  fresh_left : (size refusal : ℕ) → starts.started l.memory l.bad l.store ≡ starts.started_from (fresh size l.memory l.bad l.store) refusal
      → (l.state ≡ zero_state size) × (l.cp15 ≡ zero_cp15) × (n ≡ refusal)
  fresh_left size refusal f =
      let left = ap (λ (x : starts.Started). x.machine) (e l.bad ∙ f) ∙ sym (fresh_is size l.memory l.bad l.store) in
      let zeros : EightPlaces (zero_state size) = record { words_long = refl; slots_long = refl } in
      let same = held_same l.bad l.memory l.store l.state l.cp15 l.memory l.store (zero_state size) zero_cp15 eight zeros left in
      (same.same_state, same.same_cp15, ap (λ (x : starts.Started). x.refusal) (e l.bad ∙ f))

  header_start : HeaderStart l n
  header_start =
      let t = start_by_refusal l.memory l.bad l.store in
      record {
        served = λ z. fresh_left (length l.memory) 0 (t.answered z);
        refused = λ z. fresh_left 0 (start_refusal l.memory l.store) (t.refused z);
      }

-- ---- a call

header_call : (l : Lent) (kind privileged n a v code : ℕ) (k : Lent) → Eight l → Eight k → Meets l (one kind privileged n a v code k)
    → HeaderCall l kind privileged n a v code k
unfolding called_by
header_call l kind privileged n a v code k f g e =
    record {
      no_call_lem = λ t.
          let e₁ = rw t at e in
          (lent_same k l g f (ap (λ (x : Coded). x.machine) e₁), ap (λ (x : Coded). x.code) e₁);
      refused = λ t z.
          let e₁ = rw t at e in
          let e₂ = e₁ ∙ ap coded_of ((call_by_refusal (machine l) (call_of kind privileged n a v)).refused z) in
          (lent_same k l g f (ap (λ (x : Coded). x.machine) e₂), ap (λ (x : Coded). x.code) e₂);
    }

-- ---- a run

header_run : (l : Lent) (list others answers₁ : List ℕ) (made : ℕ) (k : Lent) → Eight k → Meets l (many list others answers₁ made k)
    → (us : List Use) → Eight (last_of l us) → Chain l us → calls_of us ≡ calls_made list others → HeaderRun us others answers₁ made l k
unfolding run left_of
header_run l list others answers₁ made k g e us f c s =
    let t = chain_is us l c in
    let m = machine l in
    let many-made = ap (λ (x : Left Machine). x.made) e ∙ ap (λ (x : List Call). length x) (sym s) in
    record {
      same_lent = lent_same k (last_of l us) g f
          (ap (λ (x : Left Machine). x.machine) e ∙ ap (λ (x : List Call). final m x) (sym s) ∙ sym t.1);
      same_answers = ap (λ (x : Left Machine). x.answers) e
          ∙ ap (λ (x : List Call). map code_of (answers m x) ++ drop (length x) others) (sym s)
          ∙ ap (λ (x : List ℕ). x ++ drop (length (calls_of us)) others) (sym t.0)
          ∙ ap (λ (x : ℕ). codes_of us ++ drop x others) (sym many-made);
      same_made = many-made;
    }

pub header : Header
header = record { start = header_start; call = header_call; run = header_run }
