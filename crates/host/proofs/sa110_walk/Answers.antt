use Rattle.host.specs.Exports.{mapping_code}
use mathlib.Core.Path.{◌∙◌, ap}
use Rattle.host.proofs.sa110_walk.Goals as goal

pub returns : goal.returns
returns c = c.mapping_code.ensures ∙ ap mapping_code c.walk-m.ensures.same
