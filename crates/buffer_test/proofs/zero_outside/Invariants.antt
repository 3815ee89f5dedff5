use mathlib.Core.Path.{◌≡◌}
use lib.ListN.{drop}
use Rattle.soundness.specs.Soundness.{zero_outside}
use Rattle.buffer_test.proofs.zero_outside.Given as goal

abbrev pub invariant-loop-x : goal.invariant-loop-x
invariant-loop-x l = zero_outside l.rest (drop l.x-index l.x-items) ≡ zero_outside l.mask l.x-items
