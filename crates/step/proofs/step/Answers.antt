use mathlib.Core.Path.{refl}
use Rattle.step.proofs.Ready.{write_ready, control_low}
use Rattle.machine.proofs.Kept.{kept}
use Rattle.machine.specs.Lists.{lists_of}
use lib.ListN.{length}
use Rattle.step.proofs.step.Goals as goal

pub read_step-requires : goal.read_step-requires
read_step-requires c =
    let a = c.args in
    control_low (lists_of a.side.now)
    a.entries.now a.s (length a.side.now.memory.now) c.requires.3

pub write_step-requires : goal.write_step-requires
write_step-requires c =
    let a = c.args in
    write_ready (lists_of a.side.now)
    a.entries.now a.s (length a.side.now.memory.now) c.requires.3 c.requires.1 c.requires.2

pub returns-in-Access : goal.returns-in-Access
returns-in-Access c =
    ((rw c.in-Access.is c.access_step.ensures.0.0, c.access_step.ensures.0.1), c.access_step.ensures.1)

pub returns-in-Read : goal.returns-in-Read
returns-in-Read c =
    let a = c.args in (
      (rw c.in-Read.is (c.read_step.ensures (lists_of a.side.now) a.entries.now (length a.side.now.memory.now) c.requires.3), c.requires.2),
      kept refl refl refl refl refl refl,
    )

pub returns-in-Write : goal.returns-in-Write
returns-in-Write c =
    let a = c.args in (
      (rw c.in-Write.is (c.write_step.ensures.0 (length a.side.now.memory.now) c.requires.3), c.write_step.ensures.1),
      c.write_step.ensures.2,
    )
