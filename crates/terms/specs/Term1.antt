-- Term 1: "A call that meets a condition of document 01's list of refusals is refused by that number and changes nothing. Every other call, on
-- any bytes, ends with a value or a fault, always the same for the same contents." Document 02, Five, adds 16 to that list.
use Rattle.std.specs.Prelude.{ℕ, ◌≡◌, List, length}
use Rattle.values.specs.declared.Call.{Call}
use Rattle.values.specs.declared.Answer.{Answer}
use Rattle.values.specs.declared.Answer.TheVariants as answer
use Rattle.step.specs.Meets.{start_refusal, refusal}
use Rattle.step.specs.Start.{started_from, started}
use Rattle.terms.specs.Callers.{CodeTerm1}
use Rattle.step.specs.Call.{served}
use Rattle.machine.specs.Machine.{Machine, fresh}
use Rattle.machine.specs.Machine.{stepped_from}

-- an answer that is a value or a fault
abbrev pub ValueOrFault : Answer → Type 0
ValueOrFault (answer.Value v) = Unit {0}
ValueOrFault (answer.Signed z) = Unit {0}
ValueOrFault (answer.Fault f) = Unit {0}
ValueOrFault (answer.Refused n) = ⊥

-- `refusal` is the number of the first row met, of the rows that the call meets
pub record Term1At (m : Machine) (c : Call) : Type 0 where
  pub refused : (refusal m c ≡ 0 → ⊥) → served m c ≡ (stepped_from m (answer.Refused (refusal m c)))
  pub answered : refusal m c ≡ 0 → ValueOrFault (served m c).answer

-- the start: "The start meets 1 and 2"; it "writes to no lent bytes", and a refused one gives "a state all zeros"
pub record Term1Start (memory bad store : List ℕ) : Type 0 where
  pub refused : (start_refusal memory store ≡ 0 → ⊥) → started memory bad store ≡ started_from (fresh 0 memory bad store) (start_refusal memory store)
  pub answered : start_refusal memory store ≡ 0 → started memory bad store ≡ started_from (fresh (length memory) memory bad store) 0

pub record Term1 : Type 0 where
  pub start : (memory bad store : List ℕ) → Term1Start memory bad store
  pub call : (m : Machine) (c : Call) → Term1At m c
  -- of the code, in words and bytes
  pub code : CodeTerm1
