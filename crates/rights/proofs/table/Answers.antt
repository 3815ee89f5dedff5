use Rattle.rights.specs.Rights.{rights_table, rights}
use mathlib.Core.Path.{refl}
use Rattle.rights.proofs.table.Goals as goal

pub returns : goal.returns
unfolding rights_table rights
returns c = refl
