use Rattle.cache.proofs.Sending.{fill_aborted, fill_left}
use Rattle.bus.proofs.Laws.{line_inside}
use Rattle.bus.specs.Physical.{physical}
use Rattle.cache.specs.Packing.{side_of}
use Rattle.cache.specs.Dcache.{victim}
use mathlib.Core.Path.{refl, sym, ◌∙◌}
use native.Mathlib.Omega.{arith}
use Rattle.fills.proofs.fill.Goals as goal

pub returns-then-aborts : goal.returns-then-aborts
returns-then-aborts c =
    let a = c.args in
    let s = side_of a.memory.now a.bad.now a.words.now a.bytes.now a.used a.lines.now a.pointers.now a.store.now in
    rw (fill_aborted s a.va a.pa (sym c.requires.2 ∙ c.if-aborts.true)) c.give_way-sent.ensures

pub read_line-requires : goal.read_line-requires
read_line-requires c =
    let a = c.args in
    let k = c.requires.1 in
    let inside = line_inside (physical a.memory.now a.bad.now) a.pa (sym c.requires.2 ∙ c.if-aborts.false) in
    (omega (arith, k.pointer, k.store_long), omega (arith, inside, c.give_way-sent.auto.memory))

pub returns : goal.returns
returns c =
    let a = c.args in
    let s = side_of a.memory.now a.bad.now a.words.now a.bytes.now a.used a.lines.now a.pointers.now a.store.now in
    rw c.read_line.ensures
    (fill_left _ a.bad.now _ _ _ _ _ a.store.now s a.va a.pa _ c.give_way-sent.ensures (sym c.requires.2 ∙ c.if-aborts.false)
    (victim s.cache a.va) refl c.line_word.result c.line_word.ensures)
