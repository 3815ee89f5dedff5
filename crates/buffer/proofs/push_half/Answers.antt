use Rattle.buffer.proofs.Joining.{half_left}
use Rattle.buffer.proofs.push_half.Goals as goal

pub returns : goal.returns
returns c = let a = c.args in
    half_left a.memory.now a.bad.now a.words.now a.bytes.now a.used a.block a.half _ _ _ _ c.push.ensures
