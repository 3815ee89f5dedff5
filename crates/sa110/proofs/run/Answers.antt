use Rattle.refusals.proofs.Numbers.{no_zero}
use Rattle.step.proofs.Runs.{all_refused}
use Rattle.step.proofs.Runs.{run_as}
use Rattle.sa110.specs.State.{machine_in}
use mathlib.Core.Path.{sym, ◌∙◌}
use Rattle.sa110.proofs.run.Goals as goal

pub returns-in-Err : goal.returns-in-Err
returns-in-Err c =
    let a = c.args in
    let n = c.from.ensures in
    let m = (machine_in a.memory.now a.bad.now a.store.now a.state a.cp15) in
    all_refused m _ (n ∙ c.in-Err.ensures) (λ z. no_zero c.in-Err.r (sym n ∙ z)) _ a.answers.now _ _
    c.refuse_calls.ensures ∙ sym (run_as m a.calls.now a.answers.now _ c.calls_held-n.ensures)

pub returns : goal.returns
returns c = let a = c.args in
    let m = machine_in a.memory.now a.bad.now a.store.now a.state a.cp15 in
    c.run_served.ensures ∙ sym (run_as m a.calls.now a.answers.now _ c.calls_held-n.ensures)
