use Rattle.soundness.proofs.Keys.{Keyed}
use Rattle.tags_test.proofs.keys_of.Given as goal

abbrev pub invariant-loop-p : goal.invariant-loop-p
invariant-loop-p l = Keyed l.lines l.base l.p l.keys
