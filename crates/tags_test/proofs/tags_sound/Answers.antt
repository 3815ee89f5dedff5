use Rattle.std.proofs.Common.{◌≡◌, ℕ, ◌*◌, ◌≤◌, sym, refl, ◌∙◌, subst, arith, rules}
use Rattle.cache.specs.Packing.{lines_of}
use Rattle.soundness.proofs.Tags.{set_apart, set_bad, set_good, sets_end}
use Rattle.soundness.proofs.Keys.{Round, Alone, none_alone, alone_join, alone_apart, again_twice}
use Rattle.tags_test.proofs.tags_sound.Goals as goal

pub sets-init : goal.sets-init
sets-init c = (refl, refl)

pub keys_of-keys-requires : goal.keys_of-keys-requires
keys_of-keys-requires c = (c.requires, omega arith)

pub loop-p-init : goal.loop-p-init
loop-p-init c = (c.sets.invariant.0, search rules, search rules, search rules, none_alone c.keys_of-keys.result 0)

pub keys_again-requires : goal.keys_again-requires
keys_again-requires c = (c.loop-p.invariant.3, omega arith)

pub loop-p-preserved : goal.loop-p-preserved
loop-p-preserved c = let l = c.loop-p in
    let k = c.keys_of-keys.result in
    (l.invariant.0, omega arith, omega arith, l.invariant.3, alone_join k l.p 8 l.invariant.4 (c.keys_again.ensures.0 c.if-keys_again.false))

pub sets-preserved : goal.sets-preserved
sets-preserved c = let a = c.args in
    let long = c.requires in
    let t = c.sets in
    let k = c.keys_of-keys in
    let l = c.loop-p in
    let e : l.p ≡ 32 = omega arith in
    let alone = subst (λ (x : ℕ). Alone k.result 0 x) e l.invariant.4 in
    let base : t.s * 32 ≤ 480 = omega arith in
    let apart = alone_apart a.lines.now (t.s * 32) k.result l.invariant.3 (record { key = k.ensures }) alone in
    let good = set_apart a.lines.now (t.s * 32) long base apart in
    (l.invariant.0, sym (set_good (lines_of a.lines.now) t.s (omega arith) good) ∙ t.invariant.1)

pub returns-after-sets : goal.returns-after-sets
returns-after-sets c = let a = c.args in
    let t = c.sets in
    λ n e. t.invariant.0 ∙ sym (sets_end (lines_of a.lines.now) t.s (omega arith)) ∙ t.invariant.1

pub returns-then-keys_again : goal.returns-then-keys_again
returns-then-keys_again c = let a = c.args in
    let long = c.requires in
    let t = c.sets in
    let k = c.keys_of-keys in
    let l = c.loop-p in
    let r = c.keys_again in
    let base : t.s * 32 ≤ 480 = omega arith in
    let low : l.p ≤ 24 = omega arith in
    λ n e.
    let keyed : Round a.lines.now (t.s * 32) k.result = record { key = k.ensures } in
    let bad = again_twice a.lines.now (t.s * 32) k.result n l.p r.result long base l.invariant.3 keyed e low r.ensures.1 c.if-keys_again.true in
    sym (set_bad (lines_of a.lines.now) t.s (omega arith) bad) ∙ t.invariant.1
