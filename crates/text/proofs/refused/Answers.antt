use mathlib.Core.Path.{ap}
use Rattle.machine.specs.Machine.{Machine}
use Rattle.step.specs.Start.{started_from}
use Rattle.text.proofs.refused.Goals as goal

pub returns : goal.returns
returns c = λ m bad st. rw c.zero_cp15.ensures (ap (λ (x : Machine). started_from x c.args.n) (c.fresh.ensures m bad st))
