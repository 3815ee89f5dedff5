use mathlib.Core.Logic.{inl, inr}
use Rattle.fields.proofs.Verdicts.{verdict_long, verdict_ends, verdict_nothing, verdict_open}
use Rattle.fields.proofs.verdict_at.Goals.{then-is_decided-via-then-is_decided, then-is_decided-via-else-is_decided+then-ends}
use Rattle.fields.proofs.verdict_at.Goals as goal

pub returns-then-is_decided : goal.returns-then-is_decided
returns-then-is_decided c = let a = c.args in
    elim c.then-is_decided.branch [
      | then-is_decided-via-then-is_decided w ↦ verdict_long a.text.now a.from _ c.is_decided.ensures a.ends w.if-is_decided.true
      | then-is_decided-via-else-is_decided+then-ends w ↦ verdict_ends a.text.now a.from _ c.is_decided.ensures w.if-is_decided.false a.ends w.if-ends.true.1 w.if-ends.true.0
    ]

pub returns : goal.returns
returns c = let a = c.args in
    elim c.if-ends.either [
      | inl h ↦ verdict_open a.text.now a.from _ c.is_decided.ensures c.if-is_decided.false a.ends h.1
      | inr h ↦ verdict_nothing a.text.now a.from _ c.is_decided.ensures c.if-is_decided.false a.ends h
    ]
