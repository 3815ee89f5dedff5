use Rattle.values.specs.declared.Call.TheVariants as calls
use mathlib.Core.Path.{sym, ◌∙◌, ap}
use Rattle.trace.proofs.access_at.Goals as goal

pub returns : goal.returns
returns c = λ read write. c.kind_of-kind.ensures read write _ _ _ ∙ ap calls.Access (sym c.access_of.ensures)
