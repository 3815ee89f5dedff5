use Prim.Native.Nat.{◌+◌, ◌-◌, ◌*◌}
use mathlib.Core.Path.{◌≡◌}
use native.Mathlib.Omega.{arith}
use Rattle.look.proofs.line_part.Goals as goal

pub returns : goal.returns
returns c = let a = c.args in let e : a.i * 32 + 32 - a.i * 32 ≡ 32 = omega arith in rw e
