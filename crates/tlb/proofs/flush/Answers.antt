use mathlib.Core.Path.{◌∙◌, ap}
use Rattle.tlb.specs.Packing.{entries_of}
use Rattle.tlb.proofs.Laws.{flush_all}
use Rattle.tlb.proofs.flush.Goals as goal

pub returns : goal.returns
returns c = ap entries_of (c.fill.ensures.after (λ y h. h)) ∙ flush_all _ c.requires
