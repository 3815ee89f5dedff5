use mathlib.Core.Path.{sym, ◌∙◌}
use Rattle.walk.specs.Walk.{first}
use Rattle.walk.proofs.Laws.{walk_by}
use borrow.Author.Rules.{rules}
use Rattle.walk.proofs.walk.Goals as goal

pub returns-in-Some : goal.returns-in-Some
returns-in-Some c = rw (walk_by _ _ c.args.va _ (sym c.descriptor_of-d.ensures ∙ c.in-Some.is)) c.level_one.ensures

pub returns-in-None : goal.returns-in-None
unfolding first
returns-in-None c = rw c.new.ensures (record { same = sym (walk_by _ _ c.args.va _ (sym c.descriptor_of-d.ensures ∙ c.in-None.is)); ranged = search rules })
