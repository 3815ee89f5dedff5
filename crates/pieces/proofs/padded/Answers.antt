use Rattle.std.proofs.Common.{ℕ, ◌-◌, List, ◌++◌, drop, replicate, length-drop, ◌∙◌, ap, arith}
use Rattle.pieces.proofs.Copying.{padded_is}
use Rattle.pieces.proofs.padded.Goals as goal

pub returns : goal.returns
returns c =
    let a = c.args in
    ap (λ (x : List ℕ). x ++ drop (a.end - a.from) (replicate 64 0)) c.copy_from_slice.ensures.after
    ∙ padded_is (drop a.from a.bytes.now) (a.end - a.from) (omega (arith, length-drop a.from a.bytes.now))
