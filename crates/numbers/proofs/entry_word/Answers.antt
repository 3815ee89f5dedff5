use Rattle.std.proofs.Common.{rules, refl}
use Rattle.numbers.proofs.Entries.{entry_row}
use Rattle.numbers.proofs.entry_word.Goals as goal

pub returns : goal.returns
returns c = entry_row c.args.row _ (search rules) refl
