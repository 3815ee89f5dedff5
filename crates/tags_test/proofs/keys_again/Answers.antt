use Rattle.std.proofs.Common.{◌≡◌, ℕ, subst, arith}
use Rattle.soundness.proofs.Keys.{Told, none_told, told_on}
use Rattle.tags_test.proofs.keys_again.Goals as goal

pub loop-j-init : goal.loop-j-init
loop-j-init c = let a = c.args in none_told a.keys.now a.i

pub loop-j-preserved : goal.loop-j-preserved
loop-j-preserved c = let a = c.args in
    let l = c.loop-j in
    told_on a.keys.now a.i l.j l.again c.key_again-again.result l.invariant c.key_again-again.ensures

pub returns : goal.returns
returns c = let a = c.args in
    let l = c.loop-j in
    let e : l.j ≡ 8 = omega arith in
    let t = subst (λ (j : ℕ). Told a.keys.now a.i j l.again) e l.invariant in
    (λ f. (t.none f).each, λ f. t.so (record { each = f }))
