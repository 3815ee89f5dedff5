use borrow.Author.Rules.{rules}
use Rattle.fields.proofs.Parsing.{parsing_end, parsing_stop, parsing_on}
use Rattle.fields.proofs.parse.Goals as goal

pub returns-in_default : goal.returns-in_default
returns-in_default c = let l = c.loop-k in
    let a = c.args in (
      parsing_stop a.ends a.n a.text.now a.calls.now l.calls l.at l.k l.invariant (search rules) c.read_line.new.calls c.verdict_at.result c.in_default.ensures.0 c.verdict_at.ensures,
      l.invariant.high,
      l.invariant.low,
    )

pub loop-k-preserved : goal.loop-k-preserved
loop-k-preserved c = let l = c.loop-k in
    let a = c.args in
    let r = c.read_line in
    let s = c.in-Some in
    let long = l.invariant.long in
    parsing_on a.ends a.n a.text.now a.calls.now l.calls l.at l.k l.invariant (search rules) r.new.calls s.size s.ensures.0 s.ensures.1 (search rules) r.auto.calls

pub returns : goal.returns
returns c = let l = c.loop-k in
    let a = c.args in
    (parsing_end a.ends a.n a.text.now a.calls.now l.calls l.at l.k l.invariant c.loop-k-test.false, l.invariant.high, search rules)
