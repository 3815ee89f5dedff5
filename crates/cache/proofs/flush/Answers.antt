use mathlib.Core.Path.{◌∙◌, ap}
use Rattle.cache.specs.Packing.{lines_of}
use Rattle.cache.proofs.Lines.{flush_all}
use Rattle.cache.proofs.flush.Goals as goal

pub returns : goal.returns
returns c = ap lines_of (c.fill.ensures.after (λ y h. h)) ∙ flush_all _ c.requires
