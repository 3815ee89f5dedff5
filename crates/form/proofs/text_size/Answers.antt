use native.Mathlib.Omega.{arith}
use Rattle.form.proofs.Sizes.{sizing_on, sizing_end}
use Rattle.form.proofs.text_size.Goals as goal

pub loop-n-preserved : goal.loop-n-preserved
loop-n-preserved c = let l = c.loop-n in
    let a = c.args in
    let small = c.type_inv.numbers l.n-index in
    sizing_on a.numbers.now l.size l.n-index l.invariant c.digits.result c.loop-n-test.true (omega (arith, small)) c.digits.ensures.0

pub returns : goal.returns
returns c = let l = c.loop-n in
    let a = c.args in
    sizing_end a.numbers.now l.size l.n-index l.invariant c.loop-n-test.false
