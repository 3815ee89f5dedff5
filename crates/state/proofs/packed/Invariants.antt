use Rattle.values.proofs.Toward.{Toward}
use Rattle.state.specs.State.{bytes_of}
use Rattle.state.proofs.packed.Given as goal

abbrev pub invariant-loop-i : goal.invariant-loop-i
invariant-loop-i l = Toward l.bytes (bytes_of l.initial.out) (bytes_of l.out) l.i
