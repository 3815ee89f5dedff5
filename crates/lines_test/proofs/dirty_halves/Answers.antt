use native.Mathlib.Omega.{arith}
use lib.ListN.{get_or}
use Rattle.values.specs.Empty.{empty_line}
use Rattle.values.proofs.Alls.{sum_on, sum_end}
use Rattle.cache.specs.Dcache.{dirty_halves}
use Rattle.cache.specs.Packing.{line_of}
use Rattle.cache.proofs.Lines.{line_zero}
use Rattle.soundness.proofs.Clauses.{halves_sum}
use Rattle.lines_test.proofs.dirty_halves.Goals as goal

pub loop-w-preserved : goal.loop-w-preserved
loop-w-preserved c = let a = c.args in
    let l = c.loop-w in
    let e = halves_sum (get_or a.lines.now l.w-index 0) in
    let s = sum_on dirty_halves line_of empty_line line_zero a.lines.now l.w-index (omega arith) in
    (omega arith, omega arith, omega arith, omega arith, omega arith)

pub returns : goal.returns
returns c = let a = c.args in
    let l = c.loop-w in
    let s = sum_end dirty_halves line_of empty_line line_zero a.lines.now l.w-index (omega arith) in
    (omega arith, omega arith)
