use Rattle.cache.proofs.Sending.{way_left}
use mathlib.Core.Path.{refl}
use Prim.Native.Nat.{◌+◌, ◌*◌, ◌/◌, ◌%◌}
use lib.ListN.{get_or}
use Rattle.fills.proofs.give_way.Goals as goal

pub returns : goal.returns
returns c =
    let a = c.args in
    let ps = a.pointers.now in
    let i = a.va.0 / 32 % 16 * 32 + get_or ps (a.va.0 / 32 % 16) 0 in
    way_left a.memory.now a.bad.now a.words.now a.bytes.now a.used a.lines.now ps a.store.now a.va a.pa i refl
    c.line_of-l.result c.line_of-l.ensures _ refl _ _ _ _ c.send_out-n.ensures c.dirty_halves.result
    c.dirty_halves.ensures
