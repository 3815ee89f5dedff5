use Rattle.form.specs.Code.{places_of}
use Rattle.form.proofs.Putting.{Putting}
use Rattle.form.proofs.put_numbers.Given as goal

abbrev pub invariant-loop-k : goal.invariant-loop-k
invariant-loop-k l = Putting (places_of l.separators) l.numbers l.initial.out l.out l.at l.k
