use mathlib.Core.Path.{sym}
use Rattle.tlb.proofs.Laws.{covers_invalid, covers_section, covers_large, covers_small}
use Rattle.tlb.proofs.covers.Goals as goal

pub returns-then-w-eq0 : goal.returns-then-w-eq0
returns-then-w-eq0 c = sym (covers_invalid _ _ c.if-w-eq0.true)

pub returns-then-size-eq0 : goal.returns-then-size-eq0
returns-then-size-eq0 c = sym (covers_section c.args.va c.args.w c.if-w-eq0.false c.if-size-eq0.true)

pub returns-then-size-eq1 : goal.returns-then-size-eq1
returns-then-size-eq1 c = sym (covers_large c.args.va c.args.w c.if-w-eq0.false c.if-size-eq1.true)

pub returns : goal.returns
returns c = sym (covers_small c.args.va c.args.w c.if-w-eq0.false c.if-size-eq0.false c.if-size-eq1.false)
