use borrow.Author.Tests.{lt-ltb, le-ltb}
use Rattle.host.proofs.sa110_right.Goals as goal

pub returns-then-index-lt256 : goal.returns-then-index-lt256
returns-then-index-lt256 c = rw (lt-ltb _ _ c.if-index-lt256.true) c.entry.ensures

pub returns-else-index-lt256 : goal.returns-else-index-lt256
returns-else-index-lt256 c = rw (le-ltb _ _ c.if-index-lt256.false)
