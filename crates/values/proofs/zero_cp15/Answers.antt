use Rattle.values.proofs.zero_cp15.Goals as goal

pub returns : goal.returns
returns c = rw c.zero_registers.ensures
