use mathlib.Core.Path.{◌∙◌, ap}
use Rattle.machine.specs.Machine.{Machine}
use Rattle.step.specs.Start.{Started}
use Rattle.step.specs.Run.{run}
use Rattle.uses.proofs.run_from_start.Goals as goal

pub returns : goal.returns
returns c =
    let a = c.args in
    let e = ap (λ (x : Started). x.machine) (c.start-s.ensures a.bad.now) in
    c.run.ensures ∙ ap (λ (m : Machine). run m a.calls.now a.answers.now) e
