use Rattle.form.proofs.Ending.{Ending}
use Rattle.form.proofs.end_lines.Given as goal

abbrev pub invariant-loop : goal.invariant-loop
invariant-loop l = Ending l.initial.separators l.from l.lines l.fields l.separators l.at l.counter
