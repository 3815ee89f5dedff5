use mathlib.Core.Path.{sym}
use native.Mathlib.Omega.{arith}
use Rattle.tlb.proofs.Laws.{translated_section, translated_large, translated_small}
use Rattle.tlb.proofs.translated.Goals as goal

pub overflow_add-result : goal.overflow_add-result
overflow_add-result c = omega (arith, c.requires.section c.if-e-eq0.true)

pub returns-then-e-eq0 : goal.returns-then-e-eq0
returns-then-e-eq0 c = sym (translated_section c.args.e c.args.va c.if-e-eq0.true)

pub overflow_add-result-then-e-eq1 : goal.overflow_add-result-then-e-eq1
overflow_add-result-then-e-eq1 c = omega (arith, c.requires.large c.if-e-eq1.true)

pub returns-then-e-eq1 : goal.returns-then-e-eq1
returns-then-e-eq1 c = sym (translated_large c.args.e c.args.va c.if-e-eq1.true)

pub overflow_add-result-2 : goal.overflow_add-result-2
overflow_add-result-2 c = omega (arith, c.requires)

pub returns : goal.returns
returns c = sym (translated_small c.args.e c.args.va c.if-e-eq0.false c.if-e-eq1.false)
