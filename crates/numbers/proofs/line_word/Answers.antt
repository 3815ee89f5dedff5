use Rattle.std.proofs.Common.{rules, refl}
use Rattle.numbers.proofs.Lines.{line_row}
use Rattle.numbers.proofs.line_word.Goals as goal

pub returns : goal.returns
returns c = line_row c.args.row _ (search rules) refl
