use mathlib.Core.Path.{sym, ◌∙◌}
use Rattle.std.proofs.lemmas.Bool.{eqb-true, eqb-false}
use Rattle.refusals.proofs.MapBytes.{quarter_fits, other_length, no_quarter}
use Rattle.refusals.proofs.map_fits.Goals as goal
use Rattle.refusals.proofs.map_fits.Goals.{then-n-eq0, else-n-eq0}

pub returns-then-bad-n : goal.returns-then-bad-n
returns-then-bad-n c =
    let a = c.args in
    elim c.if-n-eq0.branch [
      | then-n-eq0 w ↦ c.bytes_low.ensures ∙ quarter_fits a.n a.bad.now w.if-n-eq0.true (eqb-true _ _ (sym w.value-is ∙ c.if-bad-n.true))
      | else-n-eq0 w ↦ absurd (w.if-n-eq0.false (eqb-true _ _ (sym w.value-is ∙ c.if-bad-n.true)))
    ]

pub returns-else-bad-n : goal.returns-else-bad-n
returns-else-bad-n c =
    let a = c.args in
    elim c.if-n-eq0.branch [
      | then-n-eq0 w ↦ c.if-bad-n.false ∙ other_length a.n a.bad.now (eqb-false _ _ (sym w.value-is ∙ c.if-bad-n.false))
      | else-n-eq0 w ↦ c.if-bad-n.false ∙ no_quarter a.n a.bad.now w.if-n-eq0.false
    ]
