use Rattle.loads.proofs.Laws.{uncached_left}
use Rattle.machine.proofs.Kept.{kept}
use Rattle.machine.specs.Lists.{lists_of}
use Rattle.reach.proofs.Bounds.{in_block, lies_inside}
use mathlib.Core.Path.{refl}
use native.Mathlib.Omega.{arith}
use Rattle.loads.proofs.load_uncached.Goals as goal

pub ready_access-used-requires : goal.ready_access-used-requires
ready_access-used-requires c =
    (c.requires.0.fits, c.requires.0.width, in_block c.args.a c.args.p.address.0 c.requires.0.width c.requires.0.place.within)

pub load-v-requires : goal.load-v-requires
load-v-requires c =
    let a = c.args in
    let h = lies_inside a.side.now.memory.now a.side.now.words.now a.side.now.bytes.now a.s.used a.a a.p c.requires.0 a.side.now.bad.now c.requires.1 in
    (c.requires.0.width, omega (arith, h, c.ready_access-used.auto.memory))

pub load_answer-requires : goal.load_answer-requires
load_answer-requires c =
    (c.requires.0.width, c.load-v.ensures.fits)

pub returns : goal.returns
returns c =
    let a = c.args in (
      record {
        same = λ es n. uncached_left es a.s n a.a (lists_of a.side.now) _ a.p _ _ _ _
            c.ready_access-used.ensures refl refl refl refl c.load-v.ensures.value c.with_used.ensures
            c.load_answer.ensures;
        bytes_long = c.ready_access-used.ensures.fits.bytes_long;
      },
      kept refl c.ready_access-used.auto.memory c.ready_access-used.auto.words refl refl refl,
    )
