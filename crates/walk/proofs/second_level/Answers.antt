use Rattle.walk.specs.Walk.{second}
use borrow.Author.Rules.{rules}
use Rattle.walk.proofs.second_level.Goals as goal

pub returns-in-Some : goal.returns-in-Some
returns-in-Some c = rw (← c.descriptor_of-d.ensures, c.in-Some.is) c.level_two.ensures

pub returns-in-None : goal.returns-in-None
unfolding second
returns-in-None c =
    rw c.new.ensures (record { same = rw (← c.descriptor_of-d.ensures, c.in-None.is); ranged = search rules })
