use mathlib.Core.Path.{◌≡◌}
use native.Mathlib.Omega.{arith}
use Prim.Native.Nat.{◌/◌, ◌%◌}
use Rattle.tlb.specs.Packing.{entry_of}
use Rattle.tlb.proofs.entry_of.Goals as goal

pub returns : goal.returns
unfolding entry_of
returns c = let w = c.args.w in let e : w / 1 % 2 ≡ w % 2 = omega arith in rw e
