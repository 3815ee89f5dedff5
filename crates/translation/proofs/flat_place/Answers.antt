use Rattle.translation.proofs.flat_place.Goals as goal

pub returns : goal.returns
returns c = rw c.cleared-va.ensures
