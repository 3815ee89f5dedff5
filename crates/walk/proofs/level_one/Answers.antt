use Rattle.walk.proofs.Ranges.{section_ranged}
use mathlib.Core.Path.{sym}
use Rattle.walk.proofs.Laws.{first_table, first_section, first_none}
use borrow.Author.Rules.{rules}
use Rattle.walk.proofs.level_one.Goals as goal

pub returns-then-kind-eq1 : goal.returns-then-kind-eq1
returns-then-kind-eq1 c = rw (first_table _ c.args.va _ c.if-kind-eq1.true) c.second_level.ensures

pub returns-then-kind-eq2 : goal.returns-then-kind-eq2
returns-then-kind-eq2 c = let a = c.args in
    record { same = sym (first_section _ a.va _ c.if-kind-eq2.true); ranged = section_ranged a.w a.va (search rules) (search rules) }

pub returns : goal.returns
returns c = rw c.new.ensures (record { same = sym (first_none _ c.args.va _ c.if-kind-eq1.false c.if-kind-eq2.false); ranged = search rules })
