use mathlib.Core.Path.{refl, sym, ◌∙◌}
use native.Mathlib.Omega.{arith}
use Rattle.tlb.specs.Tlb as spec
use Rattle.tlb.proofs.Laws.{lookup_hit, lookup_on, lookup_end}
use Rattle.tlb.proofs.lookup.Goals as goal

pub loop-i-init : goal.loop-i-init
unfolding spec.lookup
loop-i-init c = λ va e. refl

pub loop-i-preserved : goal.loop-i-preserved
loop-i-preserved c = let a = c.args in
    let l = c.loop-i in
    λ va e. sym (lookup_on a.entries.now va l.i (omega arith)
    (sym (c.has_key.ensures va e (c.requires.1 l.i (omega arith)).size) ∙ c.if-has_key.false)) ∙ l.invariant va e

pub returns : goal.returns
returns c = let a = c.args in
    let l = c.loop-i in
    sym (lookup_end a.entries.now a.va l.i (omega arith)) ∙ l.invariant a.va c.keys_of-k.ensures

pub returns-then-has_key : goal.returns-then-has_key
returns-then-has_key c = let a = c.args in
    let l = c.loop-i in
    let e = c.keys_of-k.ensures in
    sym (lookup_hit a.entries.now a.va l.i (omega arith) (sym
    (c.has_key.ensures a.va e (c.requires.1 l.i (omega arith)).size) ∙ c.if-has_key.true)) ∙ l.invariant a.va e
