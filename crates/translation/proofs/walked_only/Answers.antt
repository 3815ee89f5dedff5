use mathlib.Core.Path.{sym, ◌∙◌, ap}
use Rattle.bus.specs.Physical.{physical}
use Rattle.translation.specs.Translation as spec
use Rattle.translation.proofs.Laws.{walked_set, walked_clear}
use borrow.Author.Rules.{rules}
use Rattle.translation.proofs.walked_only.Goals as goal

pub of_walk-requires : goal.of_walk-requires
of_walk-requires c = c.walk.ensures.ranged

pub returns-then-mmu : goal.returns-then-mmu
returns-then-mmu c = let a = c.args in
    let e = walked_set a.r (physical a.memory.now a.bad.now) a.va (sym c.mmu.ensures ∙ c.if-mmu.true) in
    record { same = c.of_walk.ensures.same ∙ ap spec.of_walk c.walk.ensures.same ∙ sym e; ranged = c.of_walk.ensures.ranged }

pub returns-else-mmu : goal.returns-else-mmu
returns-else-mmu c = let a = c.args in
    record {
      same = sym (walked_clear a.r (physical a.memory.now a.bad.now) a.va
          (sym c.mmu.ensures ∙ c.if-mmu.false));
      ranged = search rules;
    }
