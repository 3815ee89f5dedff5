use lib.Dec.{eqb}
use Rattle.soundness.proofs.Lines.{whole, Joined}
use Rattle.lines_test.proofs.empties_sound.Given as goal

abbrev pub invariant-loop-w : goal.invariant-loop-w
invariant-loop-w l = Joined whole l.lines l.w-index (eqb l.stray 0)
