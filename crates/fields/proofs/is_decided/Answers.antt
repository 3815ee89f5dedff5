use mathlib.Core.Path.{◌∙◌}
use Rattle.fields.proofs.Within.{rest_long, rest_short}
use Rattle.fields.proofs.is_decided.Goals as goal

pub returns-then-rest-ge-LONGEST : goal.returns-then-rest-ge-LONGEST
returns-then-rest-ge-LONGEST c = rest_long c.args.text.now c.args.from c.if-rest-ge-LONGEST.true

pub returns-else-rest-ge-LONGEST : goal.returns-else-rest-ge-LONGEST
returns-else-rest-ge-LONGEST c = c.contains.ensures.value ∙ rest_short c.args.text.now c.args.from c.if-rest-ge-LONGEST.false
