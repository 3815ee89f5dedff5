use Rattle.refusals.proofs.Numbers.{no_zero}
use Rattle.step.proofs.StateRefusals.{state_refused}
use Rattle.sa110.specs.State.{machine_in}
use mathlib.Core.Path.{sym, ◌∙◌}
use Rattle.sa110.proofs.call.Goals as goal

pub returns-in-Err : goal.returns-in-Err
returns-in-Err c = let a = c.args in
    let n = c.from.ensures in
    sym (state_refused (machine_in a.memory.now a.bad.now a.store.now a.state a.cp15) a.c _ (n ∙ c.in-Err.ensures) (λ z. no_zero c.in-Err.r (sym n ∙ z)))
