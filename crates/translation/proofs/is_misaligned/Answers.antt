use Rattle.translation.proofs.is_misaligned.Goals as goal

pub returns : goal.returns
returns c = rw c.low_bits.ensures
