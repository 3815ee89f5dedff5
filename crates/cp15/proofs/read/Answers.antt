use Rattle.cp15.specs.Operations.{read}
use Rattle.cp15.proofs.read.Goals as goal

pub returns : goal.returns
unfolding read
returns c = λ l es n. rw c.read.ensures
