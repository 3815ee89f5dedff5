use Rattle.soundness.proofs.Slots.{Held}
use Rattle.buffer_test.proofs.buffer_sound.Given as goal

abbrev pub invariant-loop-i : goal.invariant-loop-i
invariant-loop-i l = Held l.n l.used l.words l.bytes l.i
