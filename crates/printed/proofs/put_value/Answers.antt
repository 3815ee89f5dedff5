use mathlib.Core.Path.{refl}
use Prim.Native.Nat.{◌-◌}
use native.Mathlib.Omega.{arith}
use Rattle.printed.proofs.Decimal.{decimal_ten}
use Rattle.printed.proofs.Steps.{value_low, value_plain, laid_digits, laid_minus}
use Rattle.printed.proofs.put_value.Goals as goal
use Rattle.printed.proofs.put_value.Goals.{else-signed-via-then-signed+else-value-ge2147483648, else-signed-via-else-signed}

pub put_number-requires : goal.put_number-requires
put_number-requires c = let h = decimal_ten (0x100000000 - c.args.value) (omega arith) in
    let e = c.put_byte-b.ensures.ends in
    (omega arith, omega (arith, c.requires.1, h, e))

pub returns-then-value-ge2147483648 : goal.returns-then-value-ge2147483648
returns-then-value-ge2147483648 c = let a = c.args in
    let q = c.put_byte-b in
    let p = c.put_number in
    laid_minus a.out.now p.new.out a.at p.result a.value a.signed c.requires.0 q.new.out q.result _ c.requires.1
    c.if-signed.true (omega (arith, c.if-value-ge2147483648.true)) q.ensures refl p.ensures

pub put_number-requires-2 : goal.put_number-requires-2
put_number-requires-2 c = let h = decimal_ten c.args.value (omega (arith, c.requires.0)) in (omega (arith, c.requires.0), omega (arith, c.requires.1, h))

pub returns : goal.returns
returns c = let a = c.args in
    laid_digits a.out.now _ a.at _ a.value a.signed c.requires.0
    (elim c.else-signed.branch [
      | else-signed-via-then-signed+else-value-ge2147483648 w ↦ value_low a.signed a.value w.if-value-ge2147483648.false
      | else-signed-via-else-signed w ↦ value_plain a.signed a.value w.if-signed.false
    ])
    c.put_number-2.ensures
