use Rattle.translation.proofs.place_of.Goals as goal

pub returns : goal.returns
returns c = rw c.translated.ensures
