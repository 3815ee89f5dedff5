use Rattle.buffer.specs.Packing.{slots_of}
use Rattle.buffer.proofs.NewestOf.{newest_hit, newest_on, newest_none}
use mathlib.Core.Path.{refl, sym, ◌∙◌}
use native.Mathlib.Omega.{arith}
use borrow.Author.Rules.{rules}
use Rattle.joins.proofs.search_down.Goals as goal

pub loop-n-init : goal.loop-n-init
loop-n-init c = (search rules, λ bytes h. refl)

pub loop-n-preserved : goal.loop-n-preserved
loop-n-preserved c = let a = c.args in
    let l = c.loop-n in
    (omega arith, λ bytes h. sym (newest_on a.words.now bytes (omega arith) a.block l.n (omega arith) c.if-words-n.false) ∙ l.invariant.1 bytes h)

pub returns : goal.returns
returns c = let a = c.args in
    let l = c.loop-n in
    λ bytes h. sym (newest_none (slots_of a.words.now bytes) a.block l.n (omega arith)) ∙ l.invariant.1 bytes h

pub returns-then-words-n : goal.returns-then-words-n
returns-then-words-n c = let a = c.args in
    let l = c.loop-n in
    λ bytes h. sym (newest_hit a.words.now bytes (omega arith) a.block l.n (omega arith) c.if-words-n.true) ∙ l.invariant.1 bytes h
