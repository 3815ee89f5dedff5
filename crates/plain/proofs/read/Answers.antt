use Rattle.plain.specs.Plain.{plain_read}
use Rattle.plain.proofs.read.Goals as goal

pub returns : goal.returns
unfolding plain_read
returns c = λ m bad. rw c.read.ensures
