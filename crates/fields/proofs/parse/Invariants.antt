use Rattle.fields.proofs.Parsing.{Parsing}
use Rattle.fields.proofs.parse.Given as goal

abbrev pub invariant-loop-k : goal.invariant-loop-k
invariant-loop-k l = Parsing l.ends l.n l.text l.initial.calls l.calls l.at l.k
