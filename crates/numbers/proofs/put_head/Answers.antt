use Rattle.numbers.specs.Fields.{head_from}
use Rattle.numbers.proofs.Heads.{head_laid}
use Rattle.numbers.proofs.put_head.Goals as goal

pub returns : goal.returns
returns c = let a = c.args in
    head_laid a.numbers.now _ _ _ (head_from a.cp15.registers a.size a.cp15.pointer a.pointers.now a.used a.counts)
    c.requires.0 c.requires.1 c.put.ensures c.put-2.ensures c.put-3.ensures
