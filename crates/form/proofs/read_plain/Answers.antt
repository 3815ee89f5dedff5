use Rattle.form.proofs.Plain.{plain_none, plain_zero, plain_other, plain_short}
use Rattle.form.proofs.read_plain.Goals.{else-f-ge3-via-then-f-ge3+else-text-from-eq-ZERO, else-f-ge3-via-else-f-ge3}
use Rattle.form.proofs.read_plain.Goals as goal

pub returns-in_err-f : goal.returns-in_err-f
returns-in_err-f c = let a = c.args in
    rw c.from_residual.ensures (plain_none a.text.now a.from a.by c.in_err-f.ensures.0, tt)

pub returns-then-text-from-eq-ZERO : goal.returns-then-text-from-eq-ZERO
returns-then-text-from-eq-ZERO c = let a = c.args in
    let f = c.in_ok-f in
    (plain_zero a.text.now a.from a.by f.f f.ensures.0 c.if-f-ge3.true c.if-text-from-eq-ZERO.true, tt)

pub returns : goal.returns
returns c = let a = c.args in
    let f = c.in_ok-f in (
      elim c.else-f-ge3.branch [
        | else-f-ge3-via-then-f-ge3+else-text-from-eq-ZERO w ↦ plain_other a.text.now a.from a.by f.f f.ensures.0 w.if-text-from-eq-ZERO.false
        | else-f-ge3-via-else-f-ge3 w ↦ plain_short a.text.now a.from a.by f.f f.ensures.0 w.if-f-ge3.false
      ],
      f.ensures.1,
    )
