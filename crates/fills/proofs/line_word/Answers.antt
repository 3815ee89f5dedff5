use Rattle.cache.proofs.Lines.{fresh_word}
use Rattle.fills.proofs.line_word.Goals as goal

pub returns : goal.returns
returns c = fresh_word c.args.tag c.args.frame c.requires
