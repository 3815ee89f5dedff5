use Rattle.stores.proofs.Laws.{direct_left}
use Rattle.machine.specs.Lists.{lists}
use Rattle.reach.proofs.Bounds.{lies_inside}
use native.Mathlib.Omega.{arith}
use Rattle.stores.proofs.store_direct.Goals as goal

pub store-requires : goal.store-requires
store-requires c =
    let a = c.args in
    let h = lies_inside a.memory.now a.words.now a.bytes.now a.s.used a.a a.p c.requires.0 a.bad.now c.requires.1 in
    (c.requires.0.width, omega (arith, h, c.memory-1.given))

pub returns : goal.returns
returns c =
    let a = c.args in
    let drained = c.drain-drained in
    λ ls ps st. record {
      same = λ es n. direct_left es a.s n a.a a.v (lists a.memory.now a.bad.now a.words.now a.bytes.now ls ps st) _ a.p _
          c.store.new.bytes drained.new.memory drained.new.words drained.new.bytes
          drained.ensures.0 drained.ensures.1 c.store.ensures c.stored.ensures;
      bytes_long = drained.ensures.1.fits.bytes_long;
    }
