use native.Mathlib.Omega.{arith}
use mathlib.Core.Path.{sym, ◌∙◌}
use Rattle.soundness.proofs.Clauses.{entry_odd, entry_even}
use Rattle.soundness_test.proofs.entry_sound.Goals as goal

pub returns-then-w-eq1 : goal.returns-then-w-eq1
returns-then-w-eq1 c = let a = c.args in c.fields_sound.ensures ∙ sym (entry_odd a.w (omega arith) c.if-w-eq1.true)

pub returns-else-w-eq1 : goal.returns-else-w-eq1
returns-else-w-eq1 c = let a = c.args in sym (entry_even a.w (omega arith) c.if-w-eq1.false)
