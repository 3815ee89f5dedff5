use Rattle.translation.proofs.Laws.{low_masked, width_some}
use Rattle.translation.proofs.low_bits.Goals as goal

pub overflow_sub-result : goal.overflow_sub-result
overflow_sub-result c = width_some c.args.width c.requires

pub returns : goal.returns
returns c = low_masked c.args.width c.args.a c.requires
