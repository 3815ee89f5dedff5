use Rattle.values.specs.Lists.{first_from}
use Rattle.cache.specs.Dcache.{has_tag}
use Rattle.cache.specs.Packing.{lines_of}
use mathlib.Core.Path.{◌≡◌}
use Prim.Native.Nat.{◌+◌, ◌-◌, ◌≤◌}
use lib.ListN.{take, drop}
use Rattle.cache.proofs.next_tag.Given as goal

abbrev pub invariant-loop-i : goal.invariant-loop-i
invariant-loop-i l =
    (l.from ≤ l.i) × (l.i ≤ 32)
    × (first_from (has_tag l.tag) (l.base + l.i) (drop l.i (take 32 (drop l.base (lines_of l.lines))))
    ≡ first_from (has_tag l.tag) (l.base + l.from) (drop l.from (take 32 (drop l.base (lines_of l.lines)))))

abbrev pub decreases-loop-i : goal.decreases-loop-i
decreases-loop-i l = 32 - l.i
