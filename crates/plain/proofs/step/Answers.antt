use mathlib.Core.Path.{refl, sym, ◌∙◌}
use Rattle.refusals.proofs.Numbers.{no_zero}
use Rattle.plain.specs.Code.{plain_of}
use Rattle.plain.proofs.Laws.{accepted, refused, not_refused}
use Rattle.plain.proofs.step.Goals as goal

pub returns-in-Err : goal.returns-in-Err
returns-in-Err c =
    let a = c.args in
    let n = c.from.ensures in
    let e = refused (plain_of a.memory.now a.bad.now a.s) a.c _ a.fits c.requires.2 (n ∙ c.in-Err.ensures.number) (λ z. no_zero c.in-Err.r (sym n ∙ z)) in
    record { same = sym e; kept = c.requires.1 }

pub done-requires : goal.done-requires
done-requires c = let a = c.args in
    (c.requires.0, c.requires.1, accepted a.fits a.s.calls a.c c.in_default.ensures.number)

pub returns : goal.returns
returns c =
    let a = c.args in
    let e = not_refused (plain_of a.memory.now a.bad.now a.s) a.c _ a.fits c.requires.2 c.in_default.ensures.number refl in
    record { same = c.done.ensures.same ∙ sym e; kept = c.done.ensures.kept }
