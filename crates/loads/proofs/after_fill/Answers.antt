use Rattle.loads.proofs.after_fill.Goals as goal

pub returns-then-aborts : goal.returns-then-aborts
returns-then-aborts c =
    rw (c.with_used-sent.ensures, c.sent.ensures, c.if-aborts.true)

pub filled-requires : goal.filled-requires
filled-requires c =
    rw (c.with_used-sent.ensures, c.sent.ensures) c.requires.0

pub returns : goal.returns
returns c =
    rw (c.filled.ensures, c.with_used-sent.ensures, c.sent.ensures, c.if-aborts.false)
