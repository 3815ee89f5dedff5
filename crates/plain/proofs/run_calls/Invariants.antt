use Rattle.plain.proofs.Runs.{Going}
use Rattle.plain.proofs.run_calls.Given as goal

abbrev pub invariant-loop-i : goal.invariant-loop-i
invariant-loop-i l = Going l.initial.memory l.bad l.calls l.initial.answers l.n l.memory l.answers l.s l.i
