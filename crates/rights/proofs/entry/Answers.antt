use Rattle.rights.specs.Rights.{rights_at, rights}
use Rattle.rights.proofs.Tables.{entry}
use borrow.Author.Rules.{rules}
use Rattle.rights.proofs.entry.Goals as goal

pub returns : goal.returns
unfolding rights
returns c = entry rights_at 256 c.args.index (search rules)
