use Rattle.tlb.specs.Packing.{word_of}
use Rattle.tlb.proofs.word_of.Goals as goal

pub returns : goal.returns
unfolding word_of
returns c = rw (c.bit_number-valid.ensures.0, c.bit_number-cacheable.ensures.0, c.bit_number-bufferable.ensures.0)
