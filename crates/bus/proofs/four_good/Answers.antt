use mathlib.Core.Path.{sym, ◌∙◌}
use borrow.Author.Tests.{eqb-true}
use Rattle.bus.proofs.Laws.{zero_good}
use Rattle.bus.proofs.four_good.Goals as goal

pub returns-then-w-bad : goal.returns-then-w-bad
returns-then-w-bad c = λ t. zero_good _ _ (sym c.word.ensures.value ∙ eqb-true c.word.result 0 t)
