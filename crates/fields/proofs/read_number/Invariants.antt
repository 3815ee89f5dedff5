use Rattle.fields.proofs.Digits.{Numbering}
use Rattle.fields.proofs.read_number.Given as goal

abbrev pub invariant-loop-i : goal.invariant-loop-i
invariant-loop-i l = Numbering l.text l.from l.value l.i
