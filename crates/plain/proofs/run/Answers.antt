use Rattle.plain.specs.Plain.{Plain}
use Rattle.plain.specs.Run.{with_refusal}
use Rattle.trace.specs.Fold.{leaves}
use Rattle.trace.proofs.Folds.{held_by}
use Rattle.plain.proofs.Runs.{run_refused, run_by}
use mathlib.Core.Path.{sym, ◌∙◌, ap}
use Rattle.plain.proofs.run.Goals as goal

pub run_calls-requires : goal.run_calls-requires
run_calls-requires c =
    let a = c.args in
    (c.table-table.ensures, held_by a.calls.now a.answers.now _ c.calls_held-n.ensures, c.map_fits-fits.ensures)

pub returns-then-not-length_fits : goal.returns-then-not-length_fits
returns-then-not-length_fits c =
    let a = c.args in
    let m = a.memory.now in
    let bad = a.bad.now in
    rw c.from.ensures (ap (λ (p : Plain). with_refusal (leaves p a.answers.now 0) 1) (c.zero_state.ensures m bad))
    ∙ sym (run_refused m bad a.calls.now a.answers.now (sym c.length_fits.ensures ∙ c.if-not-length_fits.true))

pub returns : goal.returns
returns c =
    let a = c.args in
    let h = sym c.length_fits.ensures ∙ c.if-not-length_fits.false in
    c.run_calls.ensures ∙ sym
    (run_by a.memory.now a.bad.now a.calls.now a.answers.now c.calls_held-n.result h c.calls_held-n.ensures)
