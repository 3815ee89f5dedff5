use Rattle.form.proofs.Sizes.{Sizing}
use Rattle.form.proofs.text_size.Given as goal

abbrev pub invariant-loop-n : goal.invariant-loop-n
invariant-loop-n l = Sizing l.numbers l.size l.n-index
