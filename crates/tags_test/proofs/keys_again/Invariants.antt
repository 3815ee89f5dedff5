use Rattle.soundness.proofs.Keys.{Told}
use Rattle.tags_test.proofs.keys_again.Given as goal

abbrev pub invariant-loop-j : goal.invariant-loop-j
invariant-loop-j l = Told l.keys l.i l.j l.again
