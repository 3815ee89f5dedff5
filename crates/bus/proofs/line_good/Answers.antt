use mathlib.Core.Path.{refl}
use native.Mathlib.Omega.{arith}
use Rattle.bus.proofs.Laws.{line_answers_lem}
use Rattle.bus.proofs.line_good.Goals as goal

pub returns-then-four_good : goal.returns-then-four_good
returns-then-four_good c =
    λ t. line_answers_lem _ _ _ refl (omega (arith, c.if-memory-first.false)) (c.four_good.ensures c.if-four_good.true)
    (c.four_good-then-four_good.ensures t)
