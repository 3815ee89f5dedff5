use mathlib.Core.Bool.{◌&&◌}
use mathlib.Core.Path.{◌≡◌, refl, ◌∙◌}
use lib.Dec.{ltb}
use Rattle.trace.specs.Codes.{kind_unit}
use native.Mathlib.Omega.{arith}
use Rattle.printed.proofs.Decimal.{decimal_nineteen}
use Rattle.printed.proofs.Steps.{and_rest, laid_line}
use Rattle.printed.proofs.put_line.Goals as goal
use Rattle.printed.proofs.put_line.Goals.{then-signed, else-signed}

pub put_number-a-requires : goal.put_number-a-requires
put_number-a-requires c = let h = decimal_nineteen c.args.line c.requires.0 in (c.requires.0, omega (arith, c.requires.2, h))

pub returns : goal.returns
returns c = let a = c.args in
    let p₁ = c.put_number-a in
    let p₂ = c.put_byte-b in
    let p₃ = c.put_byte-c in
    let p₄ = c.put_byte-d in
    let sign = c.if-signed.sign in
    let signs : sign ≡ (a.signed && ltb a.code kind_unit) =
    elim c.if-signed.branch [
      | then-signed w ↦ w.sign-is ∙ and_rest _ _ w.if-signed.true
      | else-signed w ↦ w.sign-is ∙ rw w.if-signed.false refl
    ]
    in
    let p₅ = c.put_value-e in
    let p₆ = c.put_byte in
    laid_line a.out.now p₁.new.out p₂.new.out p₃.new.out p₄.new.out p₅.new.out p₆.new.out a.at p₁.result p₂.result
    p₃.result p₄.result p₅.result p₆.result _ _ _ a.line a.code a.signed sign c.requires.1 c.requires.2
    p₁.ensures p₂.ensures refl p₃.ensures p₄.ensures refl signs p₅.ensures p₆.ensures refl
