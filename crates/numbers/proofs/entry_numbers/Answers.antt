use Rattle.numbers.proofs.Entries.{entry_listed}
use Rattle.numbers.proofs.entry_numbers.Goals as goal

pub returns : goal.returns
returns c = entry_listed c.args.w
