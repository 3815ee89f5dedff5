use Rattle.std.proofs.Common.{◌≡◌, ℕ, refl, subst, arith}
use Rattle.soundness.proofs.Keys.{Keyed, none_keyed, keyed_on, keyed_round}
use Rattle.tags_test.proofs.keys_of.Goals as goal

pub loop-p-init : goal.loop-p-init
loop-p-init c = let a = c.args in none_keyed a.lines.now a.base _ refl

pub loop-p-preserved : goal.loop-p-preserved
loop-p-preserved c = let a = c.args in
    let l = c.loop-p in
    keyed_on a.lines.now a.base l.p c.key_of-k.result l.keys (omega arith) l.invariant c.key_of-k.ensures

pub returns : goal.returns
returns c = let a = c.args in
    let k = c.loop-p in
    let e : k.p ≡ 32 = omega arith in
    (keyed_round a.lines.now a.base k.keys (subst (λ (x : ℕ). Keyed a.lines.now a.base x k.keys) e k.invariant)).key
