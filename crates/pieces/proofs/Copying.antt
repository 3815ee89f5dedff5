-- Bytes laid into zeros, and looked through: what `padded` and `has_feed` leave.
use Prim.Native.Nat.{ℕ, ◌-◌, ◌≤◌}
use mathlib.Core.Bool.{Bool, ◌||◌}
use mathlib.Core.Path.{◌≡◌, refl, sym, ◌∙◌, ap}
use mathlib.Core.List.{List, [], ◌∷◌, ◌++◌}
use lib.ListN.{length, take, drop, replicate}
use lib.Seq.{length-take-le}
use Rattle.std.proofs.lemmas.List.{drop-replicate}
use Rattle.std.specs.List.{list_any}
use Rattle.values.specs.Lists.{any}
use Rattle.pieces.specs.Pieces.{padded}

-- bytes of a part, laid into zeros, are padded
pub padded_is : (bytes : List ℕ) (n : ℕ) → n ≤ length bytes → take n bytes ++ drop {A = ℕ} n (replicate 64 0) ≡ padded (take n bytes)
padded_is bytes n h =
    let e = length-take-le n bytes h in
    ap (λ (r : List ℕ). take n bytes ++ r) (drop-replicate n 64 0 ∙ ap (λ (k : ℕ). replicate {A = ℕ} (64 - k) 0) (sym e))

-- the library's test of some element
pub any_is : (p : ℕ → Bool) (xs : List ℕ) → list_any p xs ≡ any p xs
unfolding any
any_is p [] = refl
any_is p (x ∷ xs) = ap (λ (b : Bool). p x || b) (any_is p xs)
