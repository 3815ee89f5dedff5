use Rattle.values.specs.Lists.{first_from}
use Rattle.cache.specs.Dcache.{has_tag}
use Rattle.cache.specs.Packing.{lines_of}
use mathlib.Core.Path.{◌≡◌}
use Prim.Native.Nat.{◌+◌, ◌-◌, ◌/◌, ◌<◌, ◌≤◌}
use lib.ListN.{get_or, take, drop}
use Rattle.cache.proofs.find.Given as goal

abbrev pub invariant-loop-i : goal.invariant-loop-i
invariant-loop-i l =
    (l.i ≤ 32) × (l.base ≤ 480) × (l.i < 32 → get_or l.lines (l.base + l.i) 0 / 0x100000000 ≡ l.tag)
    × (first_from (has_tag l.tag) (l.base + l.i) (drop l.i (take 32 (drop l.base (lines_of l.lines)))) ≡ first_from (has_tag l.tag) l.base (take 32 (drop l.base (lines_of l.lines))))

abbrev pub decreases-loop-i : goal.decreases-loop-i
decreases-loop-i l = 32 - l.i
