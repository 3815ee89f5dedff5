use Rattle.sa110.specs.State.{started_of}
use Rattle.held.proofs.Keeping.{start_is}
use Rattle.held.proofs.replay_start.Goals as goal

pub returns : goal.returns
returns c = let a = c.args in
    let s = c.start-s in
    λ bad. start_is a.memory.now bad a.store.now (started_of a.memory.now bad a.store.now s.result) (s.ensures bad)
