use Rattle.printed.proofs.Laying.{laid_byte}
use Rattle.printed.proofs.put_byte.Goals as goal

pub returns : goal.returns
returns c = let a = c.args in laid_byte a.out.now a.at a.b c.requires
