use mathlib.Core.Path.{◌≡◌}
use native.Mathlib.Omega.{arith}
use lib.Dec.{eqb}
use Prim.Native.Nat.{ℕ, ◌+◌, ◌-◌, ◌*◌, ◌%◌, ◌^◌, ◌<◌, ◌≤◌}
use mathlib.Core.Bool.{true}
use Rattle.values.proofs.Cases.{case}
use Rattle.words.specs.Words.{is_width}
use Rattle.words.proofs.Widths.{is_one}
use Rattle.buffer.specs.Buffer.{mask_of}
use Rattle.buffer.proofs.Holding.{shifted, power_low}
use borrow.Author.Tests.{eqb-true, eqb-false}
use Rattle.joins.proofs.mask_of.Goals as goal

-- the ones of a width, shifted by its place in the block
ones : (w o : ℕ) → is_width w ≡ true → o + w ≤ 16 → ((1 * 2 ^ w % 2 ^ 64 - 1) * 2 ^ o % 2 ^ 64 ≡ mask_of w o)
    × ((1 * 2 ^ w % 2 ^ 64 - 1) * 2 ^ o % 2 ^ 64 < 0x10000)
ones w o i h =
    case (eqb w 4)
    (λ t. let e = eqb-true w 4 t in rw e (shifted 15 o 0x1000 (power_low o 12 (omega (arith, e))) (omega arith)))
    (λ t.
    case (eqb w 2)
    (λ u. let e = eqb-true w 2 u in rw e (shifted 3 o 0x4000 (power_low o 14 (omega (arith, e))) (omega arith)))
    (λ u.
    let e = is_one w i (eqb-false w 4 t) (eqb-false w 2 u) in
    rw e (shifted 1 o 0x8000 (power_low o 15 (omega (arith, e))) (omega arith))))

pub returns : goal.returns
returns c = ones c.args.width c.args.offset c.requires.0 c.requires.1
