use Rattle.buffer.proofs.Slots.{any_default}
use Rattle.buffer.proofs.Closing.{oldest_left_lem}
use mathlib.Core.Path.{refl, ◌∙◌, ap}
use Prim.Native.Nat.{ℕ, ◌*◌, ◌/◌}
use Rattle.buffer.specs.Buffer.{laid}
use native.Mathlib.Omega.{arith}
use lib.ListN.{get_or, replicate}
use mathlib.Core.List.{[]}
use Rattle.buffer.proofs.oldest_leaves.Goals as goal

pub returns : goal.returns
returns c = let a = c.args in
    let f = c.requires.0 in
    let bs = a.bytes.now in
    rw (c.close.ensures, c.close-2.ensures)
    (oldest_left_lem a.memory.now a.bad.now a.words.now bs a.used f c.requires.1 c.lay.new.memory (get_or a.words.now 0 0)
    (get_or bs 0 []) refl (any_default bs 0 [] (replicate 16 0) (omega (arith, f.bytes_long)))
    (c.lay.ensures ∙ ap (λ (k : ℕ). laid a.memory.now (get_or a.words.now 0 0 / 0x100000000 * 16) k (get_or bs 0 []))
    c.good_mask.ensures))
