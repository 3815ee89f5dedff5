use Rattle.translation.specs.Alignment as aligned
use Rattle.translation.proofs.Laws.{low_le}
use Rattle.translation.proofs.cleared.Goals as goal

pub overflow_sub-result : goal.overflow_sub-result
overflow_sub-result c = let a = c.args in rw c.low_bits.ensures (low_le a.a.width a.a.address.0)

pub returns : goal.returns
unfolding aligned.cleared
returns c = rw c.low_bits.ensures
