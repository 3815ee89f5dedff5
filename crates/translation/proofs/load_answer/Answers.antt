use mir.Syntax.{w32}
use Rattle.values.specs.declared.Answer.TheVariants.{Signed}
use mir.Facts.{to_z-of_z}
use mathlib.Core.Path.{◌∙◌, ap}
use borrow.Author.Rules.{rules}
use Rattle.translation.proofs.load_answer.Goals as goal

pub returns-in-Load : goal.returns-in-Load
returns-in-Load c = rw c.in-Load.is

pub returns-in-SignedLoad : goal.returns-in-SignedLoad
returns-in-SignedLoad c = rw c.in-SignedLoad.is (ap Signed (to_z-of_z {w = w32} (search rules) ∙ c.signed.ensures))

pub returns-in-Store : goal.returns-in-Store
returns-in-Store c = rw c.in-Store.is

pub returns-in-Swap : goal.returns-in-Swap
returns-in-Swap c = rw c.in-Swap.is
