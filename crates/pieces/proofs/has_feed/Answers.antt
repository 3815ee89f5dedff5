use Rattle.std.proofs.Common.{◌∙◌}
use Rattle.pieces.proofs.Copying.{any_is}
use Rattle.pieces.proofs.has_feed.Goals as goal

pub returns : goal.returns
returns c = c.contains.ensures.value ∙ any_is _ _
