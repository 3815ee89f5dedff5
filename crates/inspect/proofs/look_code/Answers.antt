use Rattle.look.proofs.Looks.{part_low}
use Rattle.sa110.specs.State.{machine_in}
use Rattle.inspect.proofs.look_code.Goals as goal

pub part_code-requires : goal.part_code-requires
part_code-requires c = let a = c.args in part_low (machine_in a.memory.now a.bad.now a.store.now a.state a.cp15) _ _ c.shown-p.ensures

pub returns : goal.returns
returns c = rw (← c.shown-p.ensures) c.part_code.ensures
