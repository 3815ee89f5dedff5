use Rattle.form.proofs.Reading.{reading_bad, reading_on, reading_end}
use Rattle.form.proofs.read_numbers.Goals as goal

pub returns-in_default : goal.returns-in_default
returns-in_default c = let l = c.loop-k in
    let a = c.args in
    reading_bad a.separators.now a.text.now a.numbers.now l.numbers l.at l.k l.invariant c.loop-k-test.true c.in_default.ensures.0

pub loop-k-preserved : goal.loop-k-preserved
loop-k-preserved c = let l = c.loop-k in
    let a = c.args in
    let f = c.in-Some in
    reading_on a.separators.now a.text.now a.numbers.now l.numbers l.at l.k l.invariant c.loop-k-test.true f.f f.ensures.0 f.ensures.1 c.requires.0

pub returns : goal.returns
returns c = let l = c.loop-k in
    let a = c.args in
    reading_end a.separators.now a.text.now a.numbers.now l.numbers l.at l.k l.invariant c.loop-k-test.false c.requires.0
