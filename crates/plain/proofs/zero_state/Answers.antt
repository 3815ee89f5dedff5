use Rattle.plain.specs.Plain.{plain_start}
use Rattle.plain.proofs.zero_state.Goals as goal

pub returns : goal.returns
unfolding plain_start
returns c = λ m bad. rw c.zero_registers-registers.ensures
