use Prim.Native.Nat.{ℕ, ◌/◌, ◌<◌}
use mathlib.Core.Bool.{false}
use mathlib.Core.Path.{◌≡◌}
use lib.ListN.{get_or}
use Rattle.joins.proofs.may_hold.Given as goal

abbrev pub invariant-loop-w : goal.invariant-loop-w
invariant-loop-w l = l.found ≡ false → (j : ℕ) → j < l.w-index → get_or l.words j 0 / 0x100000000 ≡ l.block → ⊥
