use Rattle.bus.proofs.Laws.{outside_aborts, inside_bad}
use mathlib.Core.Path.{sym, ◌∙◌}
use Rattle.bus.proofs.aborts.Goals as goal

pub returns-then-outside : goal.returns-then-outside
returns-then-outside c =
    let a = c.args in
    c.if-outside.true ∙ sym (outside_aborts _ a.at (sym (c.outside.ensures a.bad.now) ∙ c.if-outside.true))

pub returns-else-outside : goal.returns-else-outside
returns-else-outside c =
    let a = c.args in
    c.is_bad.ensures ∙ sym (inside_bad _ a.at (sym (c.outside.ensures a.bad.now) ∙ c.if-outside.false))
