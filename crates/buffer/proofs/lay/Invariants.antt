use Rattle.buffer.specs.Buffer.{laid}
use mathlib.Core.Path.{◌≡◌}
use Prim.Native.Nat.{◌+◌}
use lib.ListN.{length, drop}
use Rattle.buffer.proofs.lay.Given as goal

abbrev pub invariant-loop-i : goal.invariant-loop-i
invariant-loop-i l = (length l.memory ≡ length l.initial.memory) ×
    (laid l.memory (l.at + l.i) l.left (drop l.i l.byte-items) ≡ laid l.initial.memory l.at l.mask l.byte-items)
