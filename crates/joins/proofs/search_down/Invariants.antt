use Rattle.buffer.specs.Buffer.{newest_of}
use Rattle.buffer.specs.Packing.{slots_of}
use mathlib.Core.Path.{◌≡◌}
use Prim.Native.Nat.{ℕ, ◌≤◌}
use lib.ListN.{length}
use mathlib.Core.List.{List}
use Rattle.joins.proofs.search_down.Given as goal

abbrev pub invariant-loop-n : goal.invariant-loop-n
invariant-loop-n l = (l.n ≤ l.used) × ((bytes : List (List ℕ)) → length bytes ≡ 8 →
    newest_of (slots_of l.words bytes) l.block l.n ≡ newest_of (slots_of l.words bytes) l.block l.used)
