use Rattle.text.proofs.store.Goals as goal

pub returns-in-Ok : goal.returns-in-Ok
returns-in-Ok c = λ bad st. c.in-Ok.ensures bad st

pub returns-in-Err : goal.returns-in-Err
returns-in-Err c = λ bad st. rw c.from.ensures (c.in-Err.ensures bad st)
