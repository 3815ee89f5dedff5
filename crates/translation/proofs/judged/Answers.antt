use Rattle.std.specs.Prelude.{Ok}
use Rattle.translation.proofs.Laws.{translated_within}
use mathlib.Core.Path.{ap}
use Rattle.translation.proofs.judged.Goals as goal

pub returns-then-right-eq0 : goal.returns-then-right-eq0
returns-then-right-eq0 c = let a = c.args in
    record {
      same = rw c.if-right-eq0.true (ap Ok c.place_of.ensures);
      ranged = rw c.place_of.ensures (record { domain = c.requires.domain; within = translated_within a.e a.va c.requires });
    }
