use mathlib.Core.Path.{ap}
use Rattle.translation.specs.Translation.{of_walk}
use Rattle.reach.proofs.Laws.{lookup_low, held, walked, not_mapped}
use mathlib.Core.Path.{sym, ◌∙◌, subst}
use native.Mathlib.Omega.{arith}
use Rattle.bus.specs.Physical.{physical}
use Rattle.walk.specs.Ranges.{InRange}
use Rattle.reach.proofs.translate.Goals as goal

pub offset_bounds-entries-i : goal.offset_bounds-entries-i
offset_bounds-entries-i c = let h = lookup_low c.args.entries.now c.args.va _ c.requires.0
    (sym c.lookup-found.ensures ∙ c.in-Some.is) in omega (arith, h)

pub bounds-entries-i : goal.bounds-entries-i
bounds-entries-i c = let h = lookup_low c.args.entries.now c.args.va _ c.requires.0
    (sym c.lookup-found.ensures ∙ c.in-Some.is) in omega (arith, h, c.requires.0)

pub returns-in-Some : goal.returns-in-Some
returns-in-Some c = let a = c.args in
    let ws = a.entries.now in
    let e = sym c.lookup-found.ensures ∙ c.in-Some.is in
    let h = lookup_low ws a.va _ c.requires.0 e in
    record {
      same = held ws a.va a.r (physical a.memory.now a.bad.now) _ _ (sym c.mmu.ensures ∙ c.if-mmu.true) (sym e)
          c.entry_of.ensures;
      ranged = subst InRange (sym c.entry_of.ensures) (c.requires.1 _ h);
    }

pub returns-in-None : goal.returns-in-None
returns-in-None c = let a = c.args in
    record {
      same = walked a.entries.now a.va a.r (physical a.memory.now a.bad.now) _ (sym c.mmu.ensures ∙ c.if-mmu.true)
          (sym c.in-None.is ∙ c.lookup-found.ensures)
          (c.of_walk.ensures.same ∙ ap of_walk c.walk.ensures.same);
      ranged = c.of_walk.ensures.ranged;
    }

pub returns-else-mmu : goal.returns-else-mmu
returns-else-mmu c = let a = c.args in
    record {
      same = not_mapped a.entries.now a.va a.r (physical a.memory.now a.bad.now) (sym c.mmu.ensures ∙ c.if-mmu.false);
      ranged = _;
    }
