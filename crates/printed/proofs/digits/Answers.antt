use native.Mathlib.Omega.{arith}
use mathlib.Core.Path.{◌≡◌, sym, ◌∙◌}
use Rattle.printed.proofs.Decimal.{tens, counting_start, counting_fits, counting_on, counting_end}
use Rattle.printed.proofs.digits.Goals as goal

pub loop-k-init : goal.loop-k-init
loop-k-init c = counting_start _

pub returns-then-n-power : goal.returns-then-n-power
returns-then-n-power c = let l = c.loop-k in counting_end c.args.n l.k l.power l.invariant c.if-n-power.true

pub overflow_mul-power : goal.overflow_mul-power
overflow_mul-power c = let l = c.loop-k in let g = counting_fits c.args.n l.k l.power l.invariant c.requires c.if-n-power.false in omega arith

pub loop-k-preserved : goal.loop-k-preserved
loop-k-preserved c = let l = c.loop-k in counting_on c.args.n l.k l.power l.invariant c.requires c.if-n-power.false

pub returns : goal.returns
unfolding tens
returns c = let l = c.loop-k in
    let few = l.invariant.few in
    let e : l.k ≡ 19 = omega arith in
    let p = l.invariant.power in
    let d = counting_end c.args.n l.k l.power l.invariant (rw (p, e) c.requires) in
    (sym e ∙ d.0, omega arith)
