use Rattle.plain.specs.Code.{plain_of}
use Rattle.plain.proofs.Laws.{load_aborts_fill, load_aborts_other}
use mathlib.Core.Path.{sym, ◌∙◌}
use Rattle.plain.proofs.load_aborts.Goals as goal

pub returns-then-fills : goal.returns-then-fills
returns-then-fills c =
    let a = c.args in
    let p = plain_of a.memory.now a.bad.now a.s in
    c.wanted_aborts.ensures ∙ sym (load_aborts_fill p a.p (sym c.fills.ensures ∙ c.if-fills.true))

pub returns : goal.returns
returns c =
    let a = c.args in
    let p = plain_of a.memory.now a.bad.now a.s in
    c.aborts.ensures ∙ sym (load_aborts_other p a.p (sym c.fills.ensures ∙ c.if-fills.false))
