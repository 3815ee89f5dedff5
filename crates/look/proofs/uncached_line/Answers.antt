use Rattle.values.specs.Control.{mmu}
use mathlib.Core.Bool.{true, false}
use mathlib.Core.Path.{◌≡◌, sym, ◌∙◌}
use Rattle.look.proofs.uncached_line.Goals as goal

pub returns-then-mmu : goal.returns-then-mmu
returns-then-mmu c =
    let f : mmu c.args.r ≡ true = sym c.mmu.ensures ∙ c.if-mmu.true in
    rw (f, ← c.walk-m.ensures.same) c.mapped_line.ensures

pub returns : goal.returns
returns c =
    let f : mmu c.args.r ≡ false = sym c.mmu.ensures ∙ c.if-mmu.false in rw f c.memory_line.ensures
