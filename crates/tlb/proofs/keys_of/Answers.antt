use mathlib.Core.Path.{refl}
use Rattle.tlb.specs.Keyed.{keys_of}
use Rattle.tlb.proofs.keys_of.Goals as goal

pub returns : goal.returns
unfolding keys_of
returns c = refl
