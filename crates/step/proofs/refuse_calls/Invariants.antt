use Rattle.step.proofs.Runs.{Refusing}
use Rattle.step.proofs.refuse_calls.Given as goal

abbrev pub invariant-loop-i : goal.invariant-loop-i
invariant-loop-i l = Refusing l.calls l.initial.answers l.n l.refusal l.answers l.i
