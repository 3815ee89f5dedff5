use Rattle.cache.specs.Packing.{line_of}
use mathlib.Core.Path.{◌≡◌}
use native.Mathlib.Omega.{arith}
use Prim.Native.Nat.{◌/◌, ◌%◌}
use Rattle.cache.proofs.line_of.Goals as goal

pub returns : goal.returns
unfolding line_of
returns c = let w = c.args.w in let e : w / 1 % 2 ≡ w % 2 = omega arith in rw e
