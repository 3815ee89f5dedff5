use borrow.Author.Rules.{rules}
use Prim.Native.Nat.{ℕ}
use mathlib.Core.Path.{sym, ◌∙◌, ap}
use lib.ListN.{drop}
use Rattle.fields.specs.Code.{field_at}
use Rattle.fields.proofs.Scan.{scanning_bad, scanning_on}
use Rattle.fields.proofs.LineRead.{read_bad, read_long, read_no_call, read_whole}
use Rattle.fields.proofs.read_line.Goals.{else-at-from-le-LONGEST-via-then-at-from-le-LONGEST+else-is_text_call_at, else-at-from-le-LONGEST-via-else-at-from-le-LONGEST}
use Rattle.fields.proofs.read_line.Goals as goal

pub returns-in_err-f : goal.returns-in_err-f
returns-in_err-f c = let l = c.loop-i in
    let a = c.args in
    let e = c.in_err-f.ensures.0 ∙ ap (λ (b : ℕ). field_at b (drop l.at a.text.now)) c.behind.ensures in
    rw c.from_residual.ensures
    (read_bad a.text.now a.calls.now a.from a.k l.calls l.invariant.front (scanning_bad a.text.now a.calls.now a.from a.k l.calls l.at l.i l.invariant (search rules) e), tt)

pub loop-i-preserved : goal.loop-i-preserved
loop-i-preserved c = let l = c.loop-i in
    let a = c.args in
    let f = c.in_ok-f.ensures in
    let e = f.0 ∙ ap (λ (b : ℕ). field_at b (drop l.at a.text.now)) c.behind.ensures in
    scanning_on a.text.now a.calls.now a.from a.k l.calls l.at l.i l.invariant (search rules) c.in_ok-f.f e f.1

pub returns-then-is_text_call_at : goal.returns-then-is_text_call_at
returns-then-is_text_call_at c = let l = c.loop-i in
    let a = c.args in (
      read_whole a.text.now a.calls.now a.from a.k l.calls l.at l.i l.invariant c.loop-i-test.false (search rules)
          c.if-at-from-le-LONGEST.true (sym c.is_text_call_at.ensures ∙ c.if-is_text_call_at.true),
      search rules,
    )

pub returns : goal.returns
returns c = let l = c.loop-i in
    let a = c.args in (
      elim c.else-at-from-le-LONGEST.branch [
        | else-at-from-le-LONGEST-via-then-at-from-le-LONGEST+else-is_text_call_at w ↦ read_no_call a.text.now a.calls.now a.from a.k l.calls l.at l.i l.invariant c.loop-i-test.false (search rules) (sym w.is_text_call_at.ensures ∙ w.if-is_text_call_at.false)
        | else-at-from-le-LONGEST-via-else-at-from-le-LONGEST w ↦ read_long a.text.now a.calls.now a.from a.k l.calls l.at l.i l.invariant c.loop-i-test.false w.if-at-from-le-LONGEST.false
      ],
      tt,
    )
