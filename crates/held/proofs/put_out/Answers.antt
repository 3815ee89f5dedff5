use borrow.Author.Rules.{rules}
use Rattle.held.specs.Code.{held_of}
use Rattle.held.proofs.Keeping.{put_out_is}
use Rattle.held.proofs.put_out.Goals as goal

pub returns : goal.returns
returns c = let a = c.args in
    let cp = c.copy in
    let le = c.min-k in
    λ memory bad store. put_out_is (held_of memory bad store a.replay) a.bytes.now a.out.now _ _ a.n le.result a.taken (search rules) le.ensures cp.ensures c.padded-pending.ensures
