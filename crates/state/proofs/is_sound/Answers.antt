use Rattle.state.proofs.is_sound.Goals as goal

pub returns : goal.returns
returns c = let a = c.args in λ m bad st e. rw c.unpacked-bytes.ensures at (c.sound.ensures m bad st a.state.size e)
