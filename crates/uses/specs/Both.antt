-- One list of calls on the library, from a start, and on the plain machine: term 3's answers and settled memory, as the contract of a function that makes
-- both runs.
use Rattle.std.specs.Prelude.{ℕ, Bool, true, ◌≡◌, List}
use Rattle.trace.specs.Fold.{Left}
use Rattle.machine.specs.Machine.{Machine}
use Rattle.step.specs.Meets.{start_refusal}
use Rattle.step.specs.Start.{started}
use Rattle.step.specs.Run.{run}
use Rattle.terms.specs.Positions.{keeps_rules, settled}
use Rattle.terms.specs.Corollaries.{calls_made}

-- a start, and a run on what it gave
abbrev pub ran_from_start : List ℕ → List ℕ → List ℕ → List ℕ → List ℕ → Left Machine
ran_from_start memory bad store list answers = run (started memory bad store).machine list answers

-- the two runs begin alike: on a served start, and with a list whose calls keep the rules
pub record BeginAlike (memory bad store other list answers others : List ℕ) : Type 0 where
  pub same_memory : memory ≡ other
  pub same_answers : answers ≡ others
  pub served_start : start_refusal memory store ≡ 0
  pub keeps : keeps_rules memory bad (calls_made list answers) ≡ true

-- they end alike: with the same answers and as many calls made, and with the same memory where it is settled
pub record EndAlike (memory bad list answers memory₁ answers₁ other₁ others₁ : List ℕ) (same_made : Bool) : Type 0 where
  pub same_answers : answers₁ ≡ others₁
  pub as_many : same_made ≡ true
  pub same_memory : settled memory bad (calls_made list answers) ≡ true → memory₁ ≡ other₁
