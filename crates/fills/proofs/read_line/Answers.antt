use Rattle.std.proofs.lemmas.Slice.{put_mid-paste}
use Rattle.std.proofs.lemmas.List.Edits.{paste_all, paste-paste}
use lib.ListN.{length-append, take, drop}
use lib.Seq.{paste}
use mathlib.Core.List.{List, ◌++◌, append_assoc}
use mathlib.Core.Path.{sym, ◌∙◌, ap}
use native.Mathlib.Omega.{arith}
use Prim.Native.Nat.{ℕ, ◌+◌}
use Rattle.fills.proofs.Halves.{half_long, whole_line}
use Rattle.fills.proofs.read_line.Goals as goal

pub returns : goal.returns
returns c =
    let a = c.args in
    let s = a.store.now in
    let m = a.memory.now in
    let low = take 16 (drop a.from m) in
    let high = take 16 (drop (a.from + 16) m) in
    let k = half_long m a.from (omega (arith, c.requires.1)) in
    let l = half_long m (a.from + 16) (omega (arith, c.requires.1)) in
    let e = length-append low high in
    put_mid-paste (a.at + 16) _ _ _ high 16 (c.copy_from_slice-2.ensures.after ∙ c.half_at-high.ensures) (omega arith) l
    ∙ ap (λ (x : List ℕ). paste x (a.at + 16) high 16)
    (put_mid-paste a.at _ s _ low 16 (c.copy_from_slice.ensures.after ∙ c.half_at-low.ensures) (omega arith) k)
    ∙ paste-paste s a.at low high 16 16 k l (omega (arith, c.requires.0))
    ∙ paste_all s a.at (low ++ high) 32 (omega (arith, e, k, l))
    ∙ ap (λ (x : List ℕ). take a.at s ++ (x ++ drop (a.at + 32) s)) (whole_line m a.from)
    ∙ sym (append_assoc (take a.at s) (take 32 (drop a.from m)) (drop (a.at + 32) s))
