use borrow.Author.Tests.{lt-ltb, le-ltb}
use Rattle.look.proofs.memory_line.Goals as goal

pub returns-then-pa-n : goal.returns-then-pa-n
returns-then-pa-n c = let a = c.args in rw (lt-ltb a.pa.0 a.n c.if-pa-n.true)

pub returns : goal.returns
returns c = let a = c.args in rw (le-ltb a.pa.0 a.n c.if-pa-n.false)
