use Rattle.stores.proofs.Laws.{store_hit_left}
use Rattle.reach.proofs.Bounds.{in_line}
use Rattle.machine.specs.Lists.{lists}
use Rattle.stores.proofs.store_hit.Goals as goal

pub store-requires : goal.store-requires
store-requires c =
    (c.requires.0, c.requires.1, c.requires.2, c.requires.3, rw c.cleared-va.ensures (in_line c.args.a c.requires.3))

pub returns : goal.returns
returns c =
    let a = c.args in λ m bad ws bs ps es n. store_hit_left es a.s n a.a a.v (lists m bad ws bs a.lines.now ps a.store.now) _
    c.store.new.lines c.store.new.bytes a.i _ _ c.cleared-va.ensures (c.store.ensures ps)
    c.hit.ensures c.stored.ensures
