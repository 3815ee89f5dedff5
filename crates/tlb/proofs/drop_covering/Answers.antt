use Rattle.tlb.specs.Tlb.{kept_of}
use Rattle.tlb.proofs.Laws.{entries_step, drop_end}
use native.Mathlib.Omega.{arith}
use Rattle.tlb.proofs.drop_covering.Goals as goal

pub loop-w-preserved : goal.loop-w-preserved
loop-w-preserved c = let l = c.loop-w in
    let a = c.args in
    entries_step (kept_of a.va) a.entries.now l.w-items l.w-index c.kept.result l.invariant (omega (arith, c.loop-w-test.true, l.auto.w-items))
    c.kept.ensures

pub returns : goal.returns
returns c = let l = c.loop-w in
    let a = c.args in
    drop_end a.entries.now l.w-items a.va l.w-index l.invariant (omega (arith, c.loop-w-test.false, l.auto.w-items))
