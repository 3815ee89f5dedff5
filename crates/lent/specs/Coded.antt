-- An exported call: five numbers in, the answer as a number out.
use Rattle.std.specs.Prelude.{ℕ, cond, List}
use Rattle.trace.specs.Calls.{is_call, call_of}
use Rattle.trace.specs.Codes.{code_of, no_call}
use Rattle.step.specs.Call.{served}
use Rattle.sa110.specs.State.{machine_in}
use Rattle.lent.specs.declared.Answered.{Answered}
use Rattle.machine.specs.Machine.{Machine, Stepped}

-- what a call leaves, its answer as a number
pub record Coded : Type 0 where
  pub machine : Machine
  pub code : ℕ

abbrev pub coded_of : Stepped → Coded
coded_of s = record { machine = s.machine; code = code_of s.answer }

-- the call of five numbers; 3 × 2^32 for numbers that are no call, which change nothing
unfoldable pub called_by : Machine → ℕ → ℕ → ℕ → ℕ → ℕ → Coded
called_by m kind privileged n a v =
    cond (is_call kind privileged) (coded_of (served m (call_of kind privileged n a v))) (record { machine = m; code = no_call })

-- what the function answers, with the lent bytes
abbrev pub answered_of : List ℕ → List ℕ → List ℕ → Answered → Coded
answered_of memory bad store r = record { machine = machine_in memory bad store r.state r.cp15; code = r.code }
