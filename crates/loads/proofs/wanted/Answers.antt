use Rattle.bus.proofs.Laws.{line_wanted}
use Rattle.bus.specs.Physical.{physical}
use mathlib.Core.Path.{sym, ◌∙◌}
use Rattle.loads.proofs.wanted.Goals as goal

pub returns : goal.returns
returns c =
    let a = c.args in
    sym (line_wanted (physical a.memory.now a.bad.now) a.pa (sym c.requires ∙ c.if-aborts.false))
