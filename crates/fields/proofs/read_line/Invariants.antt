use Rattle.fields.proofs.Scan.{Scanning}
use Rattle.fields.proofs.read_line.Given as goal

abbrev pub invariant-loop-i : goal.invariant-loop-i
invariant-loop-i l = Scanning l.text l.initial.calls l.from l.k l.calls l.at l.i
