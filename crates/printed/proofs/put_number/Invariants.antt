use Rattle.printed.proofs.Steps.{Writing}
use Rattle.printed.proofs.put_number.Given as goal

abbrev pub invariant-loop-i : goal.invariant-loop-i
invariant-loop-i l = Writing l.initial.out l.at l.n l.out l.i l.rest
