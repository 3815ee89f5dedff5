use Rattle.access.proofs.Laws.{decision_is, access_passed, access_denied}
use Rattle.reach.proofs.Laws.{ready_kept}
use Rattle.machine.proofs.Kept.{kept}
use Rattle.machine.specs.Lists.{lists_of, machine_of}
use mathlib.Core.Path.{refl, sym, ◌∙◌}
use Rattle.access.proofs.serve.Goals as goal

pub commit-left-requires : goal.commit-left-requires
commit-left-requires c =
    (c.requires.1, c.decide-d.ensures.ranged)

pub passed-requires : goal.passed-requires
passed-requires c =
    let a = c.args in (
      ready_kept _ a.s (lists_of a.side.now)
          c.commit-left.ensures.1 c.requires.2,
      c.requires.3,
      rw c.in-Ok.is at c.decide-d.ensures.checked_ranged,
    )

pub faulted-requires : goal.faulted-requires
faulted-requires c =
    rw c.in-Err.is at c.decide-d.ensures.checked_ranged

pub returns-in-Ok : goal.returns-in-Ok
returns-in-Ok c =
    let a = c.args in
    let l = lists_of a.side.now in
    let es = c.commit-left.new.entries in (
      (λ n. c.passed.ensures.0.same es n ∙ sym
          (access_passed (machine_of l a.entries.now a.s n) (machine_of l es c.commit-left.result n) a.a c.decide-d.result
          (decision_is l a.entries.now a.s n a.a _ c.decide-d.ensures.same) (c.commit-left.ensures.0 l n) _
          c.in-Ok.is)),
      c.passed.ensures.0.bytes_long,
      c.passed.ensures.1,
    )

pub returns-in-Err : goal.returns-in-Err
returns-in-Err c =
    let a = c.args in
    let l = lists_of a.side.now in
    let es = c.commit-left.new.entries in (
      (λ n. c.faulted.ensures l es n ∙ sym
          (access_denied (machine_of l a.entries.now a.s n) (machine_of l es c.commit-left.result n) a.a c.decide-d.result
          (decision_is l a.entries.now a.s n a.a _ c.decide-d.ensures.same) (c.commit-left.ensures.0 l n) _ _
          c.in-Err.is)),
      c.requires.2.fits.bytes_long,
      kept refl refl refl refl refl refl,
    )
