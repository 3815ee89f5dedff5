use Rattle.words.proofs.Bytes.{stored_copied}
use Rattle.words.proofs.put.Goals as goal

pub returns : goal.returns
returns n c = let a = c.args in
    stored_copied n.row.N a.bytes.now _ a.at a.value _ c.requires.0 c.requires.1 c.to_le_bytes.ensures c.copy_from_slice.ensures.after
