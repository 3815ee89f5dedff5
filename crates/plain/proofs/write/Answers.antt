use Rattle.plain.specs.Plain.{plain_write}
use Rattle.plain.proofs.write.Goals as goal

pub returns : goal.returns
unfolding plain_write
returns c = λ m bad. rw c.written-after.ensures
