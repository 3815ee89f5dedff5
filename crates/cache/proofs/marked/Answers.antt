use Rattle.cache.proofs.Lines.{marked_low, marked_high, mark_low, mark_high}
use Rattle.cache.proofs.marked.Goals as goal

pub returns-then-w-eq1 : goal.returns-then-w-eq1
returns-then-w-eq1 c = marked_low c.args.w c.args.offset c.if-offset-lt16.true c.if-w-eq1.true

pub returns-then-offset-lt16 : goal.returns-then-offset-lt16
returns-then-offset-lt16 c = mark_low c.args.w c.args.offset c.if-offset-lt16.true c.if-w-eq1.false

pub returns-then-w-eq1-2 : goal.returns-then-w-eq1-2
returns-then-w-eq1-2 c = marked_high c.args.w c.args.offset c.if-offset-lt16.false c.if-w-eq1-2.true

pub returns : goal.returns
returns c = mark_high c.args.w c.args.offset c.if-offset-lt16.false c.if-w-eq1-2.false
