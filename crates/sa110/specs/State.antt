-- What a call and a run leave: the machine of the state that a user holds, with the lent lists.
use Rattle.std.specs.Prelude.{ℕ, List}
use Rattle.trace.specs.Fold.{Left, leaves}
use Rattle.machine.specs.Machine.{Machine, Stepped, stepped_from}
use Rattle.sa110.specs.declared.Called.{Called}
use Rattle.sa110.specs.declared.Ran.{Ran}
pub use Rattle.state.specs.State.{bytes_of, machine_in, started_of}

-- what a call leaves, with the lent bytes
abbrev pub called_of : List ℕ → List ℕ → List ℕ → Called → Stepped
called_of memory bad store c = (stepped_from (machine_in memory bad store c.state c.cp15) c.answer)

-- what a run leaves, with the lent lists
abbrev pub ran_of : List ℕ → List ℕ → List ℕ → List ℕ → Ran → Left Machine
ran_of memory bad store answers r = leaves (machine_in memory bad store r.state r.cp15) answers r.made
