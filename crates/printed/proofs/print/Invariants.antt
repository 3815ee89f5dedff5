use Rattle.printed.proofs.Steps.{Printing}
use Rattle.printed.proofs.print.Given as goal

abbrev pub invariant-loop-k : goal.invariant-loop-k
invariant-loop-k l = Printing l.initial.out l.calls l.answers l.n l.first l.out l.at l.k
