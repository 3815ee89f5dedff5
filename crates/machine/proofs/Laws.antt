-- What the code of a drain leaves is the machine drained.
use Prim.Native.Nat.{ℕ}
use mathlib.Core.Path.{◌≡◌, ap}
use mathlib.Core.List.{List}
use Rattle.buffer.specs.Buffer.{drained}
use Rattle.buffer.specs.Packing.{backing_of}
use Rattle.buffer.specs.Ranges.{Left}
use Rattle.machine.specs.Machine.{with_backing, drained_all}
use Rattle.machine.specs.Scalars.{with_used}
use Rattle.machine.specs.Lists.{Lists, lists, machine_of}
use Rattle.machine.specs.declared.Scalars.{Scalars}

pub drain_left : (es : List ℕ) (s r : Scalars) (n : ℕ) (l : Lists) (m ws : List ℕ) (bs : List (List ℕ)) → r ≡ with_used s 0
    → Left m l.bad ws bs 0 (drained (backing_of l.memory l.bad l.words l.bytes s.used))
    → machine_of (lists m l.bad ws bs l.lines l.pointers l.store) es r n ≡ drained_all (machine_of l es s n)
drain_left es s r n l m ws bs g e = rw g (ap (with_backing (machine_of l es s n)) e.same)
