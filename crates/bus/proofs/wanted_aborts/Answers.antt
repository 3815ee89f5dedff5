use Rattle.bus.proofs.wanted_aborts.Goals as goal

pub returns : goal.returns
returns c = c.aborts_within.ensures
