use Rattle.plain.specs.Code.{plain_of}
use Rattle.plain.proofs.Laws.{access_by, at_passed, at_denied, fault_steps}
use mathlib.Core.Path.{refl, sym, ◌∙◌}
use Rattle.plain.proofs.access.Goals as goal

pub passed-requires : goal.passed-requires
passed-requires c =
    (c.requires.1, record { width = c.requires.2; place = rw c.in-Ok.is at c.reach-c.ensures.ranged })

pub faulted-requires : goal.faulted-requires
faulted-requires c =
    rw c.in-Err.is at c.reach-c.ensures.ranged

pub returns-in-Ok : goal.returns-in-Ok
returns-in-Ok c =
    let a = c.args in
    let p = plain_of a.memory.now a.bad.now a.s in
    let e = access_by p a.a _ (sym c.reach-c.ensures.same ∙ c.in-Ok.is) ∙ at_passed p a.a _ in
    record { same = c.passed.ensures.same ∙ sym e; kept = c.passed.ensures.kept }

pub returns-in-Err : goal.returns-in-Err
returns-in-Err c =
    let a = c.args in
    let p = plain_of a.memory.now a.bad.now a.s in
    let e = access_by p a.a _ (sym c.reach-c.ensures.same ∙ c.in-Err.is) ∙ at_denied p a.a _ _ in
    fault_steps p c.requires.1 _ _ _ _ _ a.a.address (c.faulted.ensures a.memory.now a.bad.now) refl e
