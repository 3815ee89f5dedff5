use Rattle.swaps.proofs.Laws.{direct_left}
use Rattle.machine.specs.Lists.{lists}
use Rattle.reach.proofs.Bounds.{lies_inside}
use native.Mathlib.Omega.{arith}
use Rattle.swaps.proofs.swap_direct.Goals as goal

pub load-old-requires : goal.load-old-requires
load-old-requires c =
    let a = c.args in
    let h = lies_inside a.memory.now a.words.now a.bytes.now a.s.used a.a a.p c.requires.0 a.bad.now c.requires.1 in
    (c.requires.0.width, omega (arith, h, c.memory-1.given))

pub store-requires : goal.store-requires
store-requires c =
    let a = c.args in
    let h = lies_inside a.memory.now a.words.now a.bytes.now a.s.used a.a a.p c.requires.0 a.bad.now c.requires.1 in
    (c.requires.0.width, omega (arith, h, c.memory-1.given))

pub load_answer-requires : goal.load_answer-requires
load_answer-requires c =
    (c.requires.0.width, c.load-old.ensures.fits)

pub returns : goal.returns
returns c =
    let a = c.args in
    let d = c.drain-drained in
    λ ls ps st. record {
      same = λ es n. direct_left es a.s n a.a a.v (lists a.memory.now a.bad.now a.words.now a.bytes.now ls ps st) a.p _ _ _
          c.store.new.bytes d.new.memory d.new.words d.new.bytes d.ensures.0 d.ensures.1 c.load-old.ensures.value
          c.store.ensures c.load_answer.ensures;
      bytes_long = d.ensures.1.fits.bytes_long;
    }
