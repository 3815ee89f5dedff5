use mathlib.Core.Path.{ap}
use Rattle.fields.specs.Parse.{verdict_number}
use Rattle.fields.specs.declared.Verdict.TheVariants.{Departs}
use Rattle.fields.proofs.Verdicts.{same_verdict}
use Rattle.batch.proofs.Printing.{departed_line, departed_none}
use Rattle.batch.proofs.put_departed.Goals as goal

pub returns-in-Departs : goal.returns-in-Departs
returns-in-Departs c = let a = c.args in
    departed_line a.out.now _ a.at _ a.line _ (ap verdict_number c.in-Departs.is)
    (rw (c.code-code.ensures, c.from.ensures) at c.put_line.ensures)

pub returns-in_default : goal.returns-in_default
returns-in_default c = let a = c.args in
    departed_none a.out.now a.at a.line _ (λ e. c.in_default.not-Departs (same_verdict a.verdict Departs e))
