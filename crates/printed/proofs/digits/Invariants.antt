use Rattle.printed.proofs.Decimal.{Counting}
use Rattle.printed.proofs.digits.Given as goal

abbrev pub invariant-loop-k : goal.invariant-loop-k
invariant-loop-k l = Counting l.n l.k l.power
