use Rattle.values.proofs.Toward.{Toward}
use Rattle.state.specs.State.{bytes_of}
use Rattle.state.proofs.unpacked.Given as goal

abbrev pub invariant-loop-i : goal.invariant-loop-i
invariant-loop-i l = Toward (bytes_of l.slots) l.initial.out l.out l.i
