use Rattle.cache.proofs.Lines.{tag_other, find_on}
use mathlib.Core.Path.{refl, sym, ◌∙◌}
use native.Mathlib.Omega.{arith}
use Rattle.cache.proofs.next_tag.Goals as goal

pub loop-i-init : goal.loop-i-init
loop-i-init c = (omega arith, omega arith, refl)

pub loop-i-preserved : goal.loop-i-preserved
loop-i-preserved c = let a = c.args in
    let l = c.loop-i in (
      omega arith,
      omega arith,
      sym (find_on a.lines.now a.tag a.base l.i c.requires.0 c.requires.1 (omega arith) (tag_other a.tag _ c.if-lines-base.false))
          ∙ l.invariant.2,
    )

pub returns-then-i-eq32 : goal.returns-then-i-eq32
returns-then-i-eq32 c = let l = c.loop-i in
    (l.invariant.0, l.invariant.1, (λ h. absurd (omega arith)), l.invariant.2)

pub returns-then-lines-base : goal.returns-then-lines-base
returns-then-lines-base c =
    let l = c.loop-i in
    (l.invariant.0, l.invariant.1, (λ h. c.if-lines-base.true), l.invariant.2)
