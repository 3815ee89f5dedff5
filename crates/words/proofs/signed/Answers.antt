use native.Mathlib.Omega.{arith}
use mathlib.Core.Path.{◌≡◌, refl, ◌∙◌}
use mir.Facts.{to_z-of_z}
use mir.Syntax.{w8, w16, w32}
use borrow.Author.Rules.{rules}
use Rattle.words.proofs.Signs.{signed_cast}
use Rattle.words.proofs.signed.Goals as goal

pub returns-in-4 : goal.returns-in-4
returns-in-4 c =
    rw c.in-4.is
    (to_z-of_z {w = w32} (search rules) ∙ c.cast_signed.ensures
    ∙ signed_cast w32 0x80000000 c.args.value refl refl (omega (arith, rw c.in-4.is at c.requires.1)))

pub returns-in-2 : goal.returns-in-2
returns-in-2 c =
    rw c.in-2.is
    (to_z-of_z {w = w32} (search rules) ∙ to_z-of_z {w = w16} (search rules) ∙ c.cast_signed-in-2.ensures
    ∙ signed_cast w16 0x8000 c.args.value refl refl (omega (arith, rw c.in-2.is at c.requires.1)))

pub returns-in_default : goal.returns-in_default
returns-in_default c =
    let e : c.args.width ≡ 1 = search rules in
    rw e
    (to_z-of_z {w = w32} (search rules) ∙ to_z-of_z {w = w8} (search rules) ∙ c.cast_signed-in_default.ensures
    ∙ signed_cast w8 0x80 c.args.value refl refl (omega (arith, rw e at c.requires.1)))
