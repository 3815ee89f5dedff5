use Rattle.words.proofs.Bytes.{loaded}
use Rattle.words.proofs.get.Goals as goal

pub returns : goal.returns
returns n c = let a = c.args in
    loaded n.row.N a.bytes.now _ a.at c.requires.0 c.requires.1 c.copy_from_slice.ensures.after _ (λ i. (c.type_inv.bytes i).fits) c.from_le_bytes.ensures
