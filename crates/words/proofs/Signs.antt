-- The signed meaning of a number, once over the width.
use Prim.Native.Nat.{ℕ, suc, ◌+◌, ◌-◌, ◌^◌, ◌<◌}
use native.Mathlib.Omega.{arith}
use mathlib.Core.Path.{◌≡◌, ◌∙◌, ap}
use lib.Dec.{ltb}
use mir.Syntax.{Width}
use mir.Val.{bits, hbits, to_z}
use mir.Facts.{to_z_pos, to_z-neg}
use borrow.Author.Tests.{ltb-true, ltb-false}
use Rattle.values.proofs.Cases.{case}
use Rattle.words.specs.Signed.{signed_by}

-- a number is read as signed by its sign bit's value
pub signed_cast : (w : Width) (half x : ℕ) → half ≡ 2 ^ hbits w → half + half ≡ 2 ^ bits w → x < half + half → to_z w x ≡ signed_by half x
unfolding signed_by
signed_cast w half x e f h =
    case (ltb x half)
    (λ t. rw t (to_z_pos w (let l = ltb-true x half t in omega (arith, e))))
    (λ t.
    let l = ltb-false x half t in
    let k = half + half - 1 - x in
    let g : x ≡ 2 ^ bits w - suc k = omega (arith, f) in
    rw t (ap (to_z w) g ∙ to_z-neg w k (omega (arith, e))))
