use mathlib.Core.Path.{sym, ◌∙◌}
use Rattle.soundness.proofs.Slots.{empty_bytes}
use Rattle.buffer_test.proofs.slot_empty.Goals as goal

pub returns-then-w-eq0 : goal.returns-then-w-eq0
returns-then-w-eq0 c = let a = c.args in c.zero_outside.ensures ∙ sym (empty_bytes a.w a.b c.if-w-eq0.true)
