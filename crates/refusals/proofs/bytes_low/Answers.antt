use Rattle.std.proofs.Common.{rules, ◌∙◌, ap, max}
use Rattle.std.proofs.lemmas.Iterator.{YieldsList-from_slice}
use Rattle.std.proofs.lemmas.Iterator.Consumers.{fold_from_yields_List}
use borrow.Author.Tests.{tests}
use Rattle.refusals.proofs.MapBytes.{greatest_low, low}
use Rattle.refusals.proofs.bytes_low.Goals as goal

pub returns : goal.returns
returns c =
    let bad = c.args.bad.now in
    ap low (fold_from_yields_List _ max 0 c.fold.result c.fold.ensures.ran (YieldsList-from_slice bad cc) (λ a x b q k. search (rules, tests)))
    ∙ greatest_low 0 bad
