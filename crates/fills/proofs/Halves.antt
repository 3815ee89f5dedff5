-- A line copied by its halves.
use Prim.Native.Nat.{ℕ, ◌+◌, ◌≤◌}
use native.Mathlib.Omega.{arith}
use mathlib.Core.List.{List, ◌++◌}
use mathlib.Core.Path.{◌≡◌, sym, ◌∙◌, ap}
use lib.ListN.{length, length-drop, take, drop}
use lib.Seq.{take-add, drop-drop, length-take-le}

module _ (m : List ℕ) (from : ℕ) where
  -- sixteen bytes of a list that is long enough
  pub half_long : from + 16 ≤ length m → 16 ≡ length (take 16 (drop from m))
  half_long h = let e = length-drop from m in sym (length-take-le 16 (drop from m) (omega arith))

  -- two halves, one behind the other, are a line
  pub whole_line : take 16 (drop from m) ++ take 16 (drop (from + 16) m) ≡ take 32 (drop from m)
  whole_line = ap (λ (x : List ℕ). take 16 (drop from m) ++ take 16 x) (sym (drop-drop 16 from m)) ∙ sym (take-add 16 16 (drop from m))
