use mathlib.Core.Path.{◌∙◌, ap}
use Rattle.sa110.specs.State.{machine_in}
use Rattle.lent.proofs.Calls.{coded_left, one_call}
use Rattle.lent.proofs.call_numbers.Goals as goal

pub returns : goal.returns
returns c = let a = c.args in ap coded_left c.run-r.ensures ∙ one_call (machine_in a.memory.now a.bad.now a.store.now a.state a.cp15)
    a.kind a.privileged a.n a.a a.v
