use Rattle.walk.proofs.Ranges.{large_ranged, small_ranged}
use mathlib.Core.Path.{sym}
use Rattle.walk.proofs.Laws.{second_large, second_small, second_none}
use borrow.Author.Rules.{rules}
use Rattle.walk.proofs.level_two.Goals as goal

pub returns-then-kind-eq1 : goal.returns-then-kind-eq1
returns-then-kind-eq1 c = let a = c.args in
    record {
      same = sym (second_large _ a.va _ c.if-kind-eq1.true);
      ranged = large_ranged a.domain a.w a.va (search rules) (search rules) (search rules);
    }

pub returns-then-kind-eq2 : goal.returns-then-kind-eq2
returns-then-kind-eq2 c = let a = c.args in
    record {
      same = sym (second_small _ a.va _ c.if-kind-eq2.true);
      ranged = small_ranged a.domain a.w a.va (search rules) (search rules) (search rules);
    }

pub returns : goal.returns
returns c = rw c.new.ensures (record { same = sym (second_none _ c.args.va _ c.if-kind-eq1.false c.if-kind-eq2.false); ranged = search rules })
