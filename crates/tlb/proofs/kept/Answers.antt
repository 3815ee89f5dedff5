use mathlib.Core.Path.{◌∙◌}
use Rattle.tlb.proofs.Packing.{entry_zero}
use Rattle.tlb.proofs.kept.Goals as goal

pub returns-then-covers : goal.returns-then-covers
returns-then-covers c = let a = c.args in entry_zero ∙ rw (← c.covers.ensures, c.if-covers.true)

pub returns-else-covers : goal.returns-else-covers
returns-else-covers c = let a = c.args in rw (← c.covers.ensures, c.if-covers.false)
