use Rattle.rights.proofs.Tables.{right_by}
use borrow.Author.Rules.{rules}
use Rattle.rights.proofs.right.Goals as goal

pub returns : goal.returns
returns c = let a = c.args in
    let p = c.bit_number-p in
    let w = c.bit_number-w in
    rw c.requires.0
    (right_by a.value a.ap a.control p.result w.result a.privileged a.store (search rules) (search rules) p.ensures.0 w.ensures.0)
