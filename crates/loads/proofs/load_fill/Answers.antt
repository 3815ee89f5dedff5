use Rattle.loads.proofs.Laws.{after_left, fill_faults, fill_serves, fills_line, fill_room}
use Rattle.reach.proofs.Bounds.{lies_inside}
use Rattle.bus.proofs.Laws.{wanted_own}
use Rattle.bus.specs.Physical.{physical}
use Rattle.machine.proofs.Kept.{kept}
use Rattle.machine.specs.Lists.{lists, lists_of}
use mathlib.Core.Path.{refl, sym, ◌∙◌}
use native.Mathlib.Omega.{arith}
use Rattle.loads.proofs.load_fill.Goals as goal

pub fill-sent-requires : goal.fill-sent-requires
fill-sent-requires c =
    let a = c.args in (
      c.requires.0.fits,
      fills_line (lists_of a.side.now) a.s c.requires.0 _,
      c.line_aborts-aborts.ensures,
    )

pub after_fill-after-requires : goal.after_fill-after-requires
after_fill-after-requires c =
    let a = c.args in (
      c.requires.0.fills,
      fill_room (lists_of a.side.now) a.s
          c.requires.0 _ a.p _ c.fill-sent.ensures.count,
    )

pub faulted-requires : goal.faulted-requires
faulted-requires c =
    c.requires.2.domain

pub returns-then-faults : goal.returns-then-faults
returns-then-faults c =
    let a = c.args in
    let l = lists_of a.side.now in
    let f = c.fill-sent.new in
    let k = lists f.memory a.side.now.bad.now f.words f.bytes f.lines f.pointers f.store in (
      record {
        same = λ es n.
            fill_faults es a.s n a.a l k a.p c.after_fill-after.result
            (after_left es a.s n a.a l _ a.p _ _ c.line_aborts-aborts.result _ _ c.cleared-va.ensures
            c.fill-sent.ensures c.line_aborts-aborts.ensures c.after_fill-after.ensures)
            (sym c.wanted-faults.ensures ∙ c.if-faults.true) _
            (rw (← c.fill_status.ensures) (c.faulted.ensures k es n));
        bytes_long = c.fill-sent.ensures.fits.bytes_long;
      },
      kept refl c.fill-sent.auto.memory c.fill-sent.auto.words c.fill-sent.auto.lines c.fill-sent.auto.pointers c.fill-sent.auto.store,
    )

pub load-v-requires : goal.load-v-requires
load-v-requires c =
    let a = c.args in
    let k = c.requires.0 in
    let m = physical a.side.now.memory.now a.side.now.bad.now in
    let g = wanted_own m a.p.address (sym c.wanted-faults.ensures ∙ c.if-faults.false) in
    let h = lies_inside a.side.now.memory.now a.side.now.words.now a.side.now.bytes.now a.s.used a.a a.p
    (record { fits = k.fits; whole = k.whole; width = c.requires.1; place = c.requires.2 }) a.side.now.bad.now g in
    (c.requires.1, omega (arith, h, c.fill-sent.auto.memory))

pub load_answer-requires : goal.load_answer-requires
load_answer-requires c =
    (c.requires.1, c.load-v.ensures.fits)

pub returns : goal.returns
returns c =
    let a = c.args in
    let l = lists_of a.side.now in
    let f = c.fill-sent.new in
    let k = lists f.memory a.side.now.bad.now f.words f.bytes f.lines f.pointers f.store in (
      record {
        same = λ es n.
            fill_serves es a.s n a.a l k a.p c.after_fill-after.result
            (after_left es a.s n a.a l _ a.p _ _ c.line_aborts-aborts.result _ _ c.cleared-va.ensures
            c.fill-sent.ensures c.line_aborts-aborts.ensures c.after_fill-after.ensures)
            (sym c.wanted-faults.ensures ∙ c.if-faults.false) _ _ c.load-v.ensures.value c.load_answer.ensures;
        bytes_long = c.fill-sent.ensures.fits.bytes_long;
      },
      kept refl c.fill-sent.auto.memory c.fill-sent.auto.words c.fill-sent.auto.lines c.fill-sent.auto.pointers c.fill-sent.auto.store,
    )
