use mathlib.Core.Path.{sym}
use Rattle.tlb.proofs.Laws.{ap_section, ap_large, ap_small}
use borrow.Author.Rules.{rules}
use Rattle.tlb.proofs.ap_of.Goals as goal

pub returns-then-e-eq0 : goal.returns-then-e-eq0
returns-then-e-eq0 c = (sym (ap_section _ c.args.va c.if-e-eq0.true), search rules)

pub returns-then-e-eq1 : goal.returns-then-e-eq1
returns-then-e-eq1 c = (sym (ap_large c.args.e c.args.va c.if-e-eq1.true), search rules)

pub returns : goal.returns
returns c = (sym (ap_small c.args.e c.args.va c.if-e-eq0.false c.if-e-eq1.false), search rules)
