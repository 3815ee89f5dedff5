use Rattle.look.proofs.mapped_line.Goals as goal

pub translated-requires : goal.translated-requires
translated-requires c = rw c.in-Ok.is at c.requires

pub returns-in-Ok : goal.returns-in-Ok
returns-in-Ok c = rw (c.in-Ok.is, ← c.translated.ensures) c.memory_line.ensures
