use Rattle.form.specs.Code.{places_of}
use Rattle.form.proofs.Reading.{Reading}
use Rattle.form.proofs.read_numbers.Given as goal

abbrev pub invariant-loop-k : goal.invariant-loop-k
invariant-loop-k l = Reading (places_of l.separators) l.text l.initial.numbers l.numbers l.at l.k
