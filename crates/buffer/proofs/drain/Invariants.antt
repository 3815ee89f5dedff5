use Rattle.buffer.specs.Buffer.{leaving}
use Rattle.buffer.specs.Packing.{backing_of}
use Rattle.buffer.specs.Ranges.{Fits}
use mathlib.Core.Path.{◌≡◌}
use Prim.Native.Nat.{◌-◌}
use lib.ListN.{length}
use Rattle.buffer.proofs.drain.Given as goal

abbrev pub invariant-loop-i : goal.invariant-loop-i
invariant-loop-i l = Fits l.memory l.words l.left (l.used - l.i) ×
    (leaving (l.used - l.i) (backing_of l.memory l.bad l.words l.left (l.used - l.i))
    ≡ leaving l.used (backing_of l.initial.memory l.bad l.initial.words l.initial.left l.used)) ×
    (length l.memory ≡ length l.initial.memory) × (length l.words ≡ length l.initial.words)
