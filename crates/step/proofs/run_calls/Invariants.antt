use Rattle.step.proofs.Runs.{Going}
use Rattle.machine.specs.Lists.{lists_of, Kept}
use Rattle.step.proofs.run_calls.Given as goal

abbrev pub invariant-loop-i : goal.invariant-loop-i
invariant-loop-i l =
    Going (lists_of l.initial.side) l.initial.entries l.calls l.initial.answers l.initial.s l.n (lists_of l.side) l.entries l.answers l.s l.i
    × Kept l.initial.side l.side
