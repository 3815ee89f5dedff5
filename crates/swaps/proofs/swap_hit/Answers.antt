use Rattle.swaps.proofs.Laws.{hit_by}
use Rattle.machine.specs.Lists.{lists, machine_of, stepped_of}
use mathlib.Core.Path.{refl}
use Rattle.swaps.proofs.swap_hit.Goals as goal

pub returns : goal.returns
returns c =
    let a = c.args in
    λ m bad ws bs ps es n. let l = lists m bad ws bs a.lines.now ps a.store.now in
    hit_by (machine_of l es a.s n) a.a a.v a.i (stepped_of l es n c.load_hit-read.result)
    (stepped_of (lists m bad ws bs c.store_hit-written.new.lines ps c.store_hit-written.new.store) es n c.store_hit-written.result)
    (c.load_hit-read.ensures l es n refl) (c.store_hit-written.ensures m bad ws bs ps es n)
