use Prim.Native.Nat.{◌+◌, ◌*◌, ◌/◌, ◌%◌, ◌≤◌}
use mathlib.Core.Path.{◌≡◌}
use lib.ListN.{drop}
use Rattle.values.specs.Lists.{sum}
use Rattle.cache.specs.Dcache.{dirty_halves}
use Rattle.cache.specs.Packing.{lines_of}
use Rattle.lines_test.proofs.dirty_halves.Given as goal

abbrev pub invariant-loop-w : goal.invariant-loop-w
invariant-loop-w l = (l.low ≤ 2 * l.w-index) × (l.high ≤ 4 * l.w-index) × (l.low % 2 ≡ 0) × (l.high % 4 ≡ 0)
    × (l.low / 2 + l.high / 4 + sum dirty_halves (drop l.w-index (lines_of l.lines)) ≡ sum dirty_halves (lines_of l.lines))
