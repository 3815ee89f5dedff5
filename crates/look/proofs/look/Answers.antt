use native.Mathlib.Omega.{arith}
use Rattle.look.proofs.Looks.{part_inside, look_of}
use Rattle.state.specs.State.{machine_in}
use mathlib.Core.Path.{sym, ◌∙◌}
use Rattle.look.proofs.look.Goals as goal

pub line_part-requires : goal.line_part-requires
line_part-requires c = let a = c.args in let m = machine_in a.memory.now a.bad.now a.store.now a.state a.cp15 in
    let h = part_inside m a.va _ (sym c.in-OfStore.is ∙ c.shown-place.ensures) in omega (arith, h)

pub line_part-requires-in-OfMemory : goal.line_part-requires-in-OfMemory
line_part-requires-in-OfMemory c = let a = c.args in let m = machine_in a.memory.now a.bad.now a.store.now a.state a.cp15 in
    let h = part_inside m a.va _ (sym c.in-OfMemory.is ∙ c.shown-place.ensures) in omega (arith, h)

pub returns-in-OfStore : goal.returns-in-OfStore
returns-in-OfStore c = let a = c.args in let m = machine_in a.memory.now a.bad.now a.store.now a.state a.cp15 in
    c.line_part.ensures ∙ look_of m a.va _ (sym c.in-OfStore.is ∙ c.shown-place.ensures)

pub returns-in-OfMemory : goal.returns-in-OfMemory
returns-in-OfMemory c = let a = c.args in let m = machine_in a.memory.now a.bad.now a.store.now a.state a.cp15 in
    c.line_part-in-OfMemory.ensures ∙ look_of m a.va _ (sym c.in-OfMemory.is ∙ c.shown-place.ensures)

pub returns-in-Empty : goal.returns-in-Empty
returns-in-Empty c = let a = c.args in let m = machine_in a.memory.now a.bad.now a.store.now a.state a.cp15 in
    look_of m a.va _ (sym c.in-Empty.is ∙ c.shown-place.ensures)
