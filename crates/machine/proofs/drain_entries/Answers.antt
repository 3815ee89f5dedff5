use Rattle.buffer.specs.Buffer.{drained, leaving}
use mathlib.Core.Path.{refl}
use Rattle.machine.proofs.drain_entries.Goals as goal

pub returns-else-used-ne0 : goal.returns-else-used-ne0
unfolding drained leaving
returns-else-used-ne0 c =
    rw c.if-used-ne0.false (record { same = refl; fits = rw c.if-used-ne0.false at c.requires })
