use Rattle.numbers.proofs.Lines.{line_listed}
use Rattle.numbers.proofs.line_numbers.Goals as goal

pub returns : goal.returns
returns c = line_listed c.args.w
