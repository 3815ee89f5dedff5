use Rattle.refusals.proofs.Rows.{access_accepted}
use Rattle.plain.specs.Plain.{plain_read}
use Rattle.plain.specs.Code.{plain_of}
use Rattle.plain.proofs.Laws.{keep_written, steps_to}
use Rattle.plain.proofs.done.Goals as goal

pub access-requires : goal.access-requires
access-requires c =
    (c.requires.0, c.requires.1, (access_accepted c.in-Access.a (rw c.in-Access.is at c.requires.2)).0)

pub returns-in-Access : goal.returns-in-Access
returns-in-Access c =
    rw c.in-Access.is c.access.ensures

pub returns-in-Read : goal.returns-in-Read
unfolding plain_read
returns-in-Read c =
    rw c.in-Read.is (steps_to _ _ (c.read.ensures c.args.memory.now c.args.bad.now) c.requires.1)

pub returns-in-Write : goal.returns-in-Write
returns-in-Write c =
    let a = c.args in
    let m = a.memory.now in
    let bad = a.bad.now in
    rw c.in-Write.is (steps_to _ _ (c.write.ensures m bad) (keep_written (plain_of m bad a.s) c.requires.1 _ _))
