-- What the code leaves: the line of a line that departed, and replayed lines.
use Rattle.std.specs.Prelude.{ℕ, ◌+◌, ◌*◌, Bool, cond, ◌≡◌, List, [], eqb}
use Rattle.printed.specs.Printed.{printed}
use Rattle.printed.specs.Code.{Laid}
use Rattle.fields.specs.Parse.{parse, departing, verdict_number}
use Rattle.machine.specs.Machine.{Machine}
use Rattle.sa110.specs.State.{machine_in}
use Rattle.batch.specs.Batch.{refused13, machine_after, parsed_answers, stops}
use Rattle.batch.specs.declared.Batch.{Batch}

-- the line of a line that departed is laid behind the others, where one did
pub record Departed (before after : List ℕ) (at end line verdict : ℕ) : Type 0 where
  pub laid : Laid before after at end (stops verdict * 34) (printed line (cond (eqb verdict departing) refused13 []))

-- lines replayed: the machine behind them, what was parsed, and what they print
pub record Batched (m : Machine) (ends : Bool) (lines n : ℕ) (text out : List ℕ) (memory bad store after : List ℕ) (r : Batch) : Type 0 where
  pub machine : machine_in memory bad store r.state r.cp15 ≡ machine_after m (parse ends n text)
  pub made : r.made ≡ (parse ends n text).made
  pub end : r.end ≡ (parse ends n text).end
  pub verdict : verdict_number r.verdict ≡ (parse ends n text).verdict
  pub laid : Laid out after 0 r.written (n * 34) (printed (lines + 1) (parsed_answers m (parse ends n text)))
