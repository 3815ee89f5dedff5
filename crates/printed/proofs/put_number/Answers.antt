use Rattle.std.proofs.Common.{refl, arith}
use Rattle.printed.proofs.Steps.{writing_start, writing_on, writing_end}
use Rattle.printed.proofs.put_number.Goals as goal

pub loop-i-init : goal.loop-i-init
loop-i-init c = let a = c.args in writing_start a.out.now a.at a.n _ c.digits.ensures.0

pub loop-i-preserved : goal.loop-i-preserved
loop-i-preserved c = let a = c.args in
    let l = c.loop-i in
    let long = l.auto.out in
    let low = c.loop-i-test.true in
    writing_on a.out.now a.at a.n l.out l.i l.rest l.invariant _ _ (omega arith) (omega (arith, c.requires.1)) low refl

pub returns : goal.returns
returns c = let l = c.loop-i in
    let a = c.args in
    writing_end a.out.now a.at a.n l.out l.i l.rest l.invariant _ c.digits.ensures.0
    c.digits.ensures.1 c.loop-i-test.false
