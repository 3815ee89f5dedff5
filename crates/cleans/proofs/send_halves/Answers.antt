use Rattle.cache.specs.Dcache.{halves_sent}
use Rattle.cleans.proofs.send_halves.Goals as goal

pub returns : goal.returns
unfolding halves_sent
returns c = rw (← c.send_half-n.ensures.same) c.send_half.ensures
