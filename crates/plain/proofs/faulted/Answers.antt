use Rattle.plain.specs.Plain.{plain_faulted}
use Rattle.plain.proofs.faulted.Goals as goal

pub returns : goal.returns
unfolding plain_faulted
returns c = λ m bad. rw c.fault_set-after.ensures
