use Rattle.std.proofs.Common.{arith}
use Rattle.printed.proofs.Steps.{printing_start, printing_on, printing_end}
use Rattle.printed.proofs.print.Goals as goal

pub loop-k-init : goal.loop-k-init
loop-k-init c = let a = c.args in
    printing_start a.out.now a.calls.now a.answers.now a.n a.first

pub put_line-at-requires : goal.put_line-at-requires
put_line-at-requires c = let l = c.loop-k in
    let low = c.loop-k-test.true in
    let few = l.invariant.few in
    let long = l.invariant.laying.long in
    (omega (arith, c.requires.3, low), c.requires.4 l.k low, omega (arith, c.requires.2, low, few, long))

pub loop-k-preserved : goal.loop-k-preserved
loop-k-preserved c = let a = c.args in
    let l = c.loop-k in
    printing_on a.out.now a.calls.now a.answers.now a.n a.first l.out l.at l.k l.invariant _ _ c.requires.2
    c.loop-k-test.true c.put_line-at.ensures

pub returns : goal.returns
returns c = let a = c.args in
    let l = c.loop-k in
    printing_end a.out.now a.calls.now a.answers.now a.n a.first l.out l.at l.k l.invariant c.loop-k-test.false
