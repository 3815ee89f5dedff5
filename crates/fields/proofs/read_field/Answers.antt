use native.Mathlib.Omega.{arith}
use borrow.Author.Rules.{rules}
use Rattle.fields.proofs.FieldAt.{field_above, field_none, field_other, field_end, field_good, number_ends}
use Rattle.fields.proofs.read_field.Goals.{then-end-from-via-then-end-from, then-end-from-via-else-end-from+then-end-text, then-end-from-via-else-end-from+else-end-text+then-text-end}
use Rattle.fields.proofs.read_field.Goals as goal

pub returns-in_err-n : goal.returns-in_err-n
returns-in_err-n c = let a = c.args in
    rw c.from_residual.ensures (field_above a.text.now a.from a.by c.in_err-n.ensures.0, tt)

pub returns-then-end-from : goal.returns-then-end-from
returns-then-end-from c = let a = c.args in
    let n = c.in_ok-n.n in
    let m = c.in_ok-n.ensures in (
      elim c.then-end-from.branch [
        | then-end-from-via-then-end-from w ↦ field_none a.text.now a.from a.by n m.0 w.if-end-from.true
        | then-end-from-via-else-end-from+then-end-text w ↦ field_end a.text.now a.from a.by n m.0 w.if-end-text.true (search rules)
        | then-end-from-via-else-end-from+else-end-text+then-text-end w ↦ field_other a.text.now a.from a.by n m.0 w.if-text-end.true
      ],
      tt,
    )

pub returns : goal.returns
returns c = let a = c.args in
    let n = c.in_ok-n.n in
    let m = c.in_ok-n.ensures in
    (field_good a.text.now a.from a.by n m.0 c.if-end-from.false c.if-text-end.false, let h = number_ends a.text.now a.from a.by n m.0 in omega arith)
