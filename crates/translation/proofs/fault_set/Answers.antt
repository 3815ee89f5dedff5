use Rattle.translation.specs.Faults as faults
use Rattle.translation.proofs.fault_set.Goals as goal

pub returns : goal.returns
unfolding faults.fault_set
returns c = rw c.status_number.ensures.0
