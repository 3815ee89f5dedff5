-- "A run is a list of accesses and CP15 calls, refused ones too, after a served start". R1: "each call gets state, record, memory and store
-- as the last left them, changed by these calls only": a run hands each call the machine that the call before it left.
use Rattle.std.specs.Prelude.{ℕ, ◌/◌, min, List, length}
use Rattle.values.specs.declared.Call.{Call}
use Rattle.values.specs.declared.Answer.{Answer}
use Rattle.values.specs.declared.Answer.TheVariants as answer
use Rattle.trace.specs.Fold.{calls_in, Left, answers_of, final_of, left_of}
use Rattle.machine.specs.Machine.{Machine}
use Rattle.step.specs.Call.{served}

-- the step of a run: the machine that a call leaves, and its answer
abbrev pub next : Machine → Call → Machine
next m c = (served m c).machine

abbrev pub answered : Machine → Call → Answer
answered m c = (served m c).answer

-- the answers of a list of calls
abbrev pub answers : Machine → List Call → List Answer
answers = answers_of next answered

-- the machine after them
abbrev pub final : Machine → List Call → Machine
final = final_of next answered

-- what they leave, over a lent list for the answers as numbers: the machine, that list, and the number of calls made
abbrev pub left_by : Machine → List Call → List ℕ → Left Machine
left_by = left_of next answered

-- a run over a lent list of calls, five numbers each: as many calls as both lists hold. The fold of `served`: a machine that 1 to 4 or 16
-- hold of refuses each of its calls.
unfoldable pub run : Machine → List ℕ → List ℕ → Left Machine
run m list answers = left_by m (calls_in (min (length list / 5) (length answers)) list 0) answers

-- what refusing every call of a list by a number leaves, beside any state
abbrev pub refused_all : {S : Type 0} → ℕ → S → List Call → List ℕ → Left S
refused_all {S} n = left_of (λ (s : S) (c : Call). s) (λ (s : S) (c : Call). answer.Refused n)
