use Rattle.std.proofs.Common.{rules, ◌∙◌, refl, arith}
use Rattle.std.proofs.lemmas.Iterator.{YieldsList-from_range}
use Rattle.std.proofs.lemmas.Iterator.Search.{any_from_yields_List}
use borrow.Author.Tests.{tests}
use Rattle.values.specs.Addresses.{word_of_line}
use Rattle.bus.specs.Physical.{physical, aborts}
use Rattle.bus.proofs.Laws.{within_any}
use Rattle.bus.proofs.aborts_within.Goals as goal

pub returns : goal.returns
returns c =
    let a = c.args in
    let m = physical a.memory.now a.bad.now in
    any_from_yields_List (λ i. aborts m (word_of_line a.at i)) _ _ c.any.result c.any.ensures.ran
    (YieldsList-from_range 0 a.n a.n refl (omega arith)) (λ x b q k. search (rules, tests))
    ∙ within_any m a.at a.n
