use Rattle.form.proofs.Ending.{ending_on, ending_end}
use Rattle.form.proofs.end_lines.Goals as goal

pub loop-preserved : goal.loop-preserved
loop-preserved c = let l = c.loop in
    let a = c.args in
    ending_on a.separators.now a.from a.lines a.fields l.separators l.at l.counter l.invariant c.loop-test.true c.requires.0
    c.requires.1

pub returns : goal.returns
returns c = let l = c.loop in
    let a = c.args in
    ending_end a.separators.now a.from a.lines a.fields l.separators l.at l.counter l.invariant c.loop-test.false
