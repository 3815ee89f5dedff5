use Rattle.step.proofs.Runs.{refusing_start, refusing_on, refusing_stop, refusing_end}
use mathlib.Core.Path.{◌≡◌, sym, ◌∙◌, ap}
use Prim.Native.Nat.{ℕ}
use Rattle.trace.specs.Fold.{leaves}
use native.Mathlib.Omega.{arith}
use Rattle.step.proofs.refuse_calls.Goals as goal

pub loop-i-init : goal.loop-i-init
loop-i-init c = let a = c.args in refusing_start a.calls.now a.answers.now a.n a.refusal c.requires

pub is_call_at-requires : goal.is_call_at-requires
is_call_at-requires c = omega (arith, c.requires.calls_hold)

pub shape_of-answers-then-not-is_call_at : goal.shape_of-answers-then-not-is_call_at
shape_of-answers-then-not-is_call_at c = c.loop-i.invariant.long

pub returns-then-not-is_call_at : goal.returns-then-not-is_call_at
returns-then-not-is_call_at c = let a = c.args in let l = c.loop-i in refusing_stop a.calls.now a.answers.now a.n a.refusal c.requires l.answers
    l.i l.invariant c.loop-i-test.true (sym c.is_call_at.ensures ∙ c.if-not-is_call_at.true)

pub offset_bounds-answers-i : goal.offset_bounds-answers-i
offset_bounds-answers-i c = omega (arith, c.well_formed.1.0, c.requires.answers_hold)

pub bounds-answers-i : goal.bounds-answers-i
bounds-answers-i c = omega (arith, c.requires.answers_hold, c.loop-i.invariant.long)

pub loop-i-preserved : goal.loop-i-preserved
loop-i-preserved c = let a = c.args in let l = c.loop-i in refusing_on a.calls.now a.answers.now a.n a.refusal c.requires l.answers
    l.i l.invariant c.code.result c.loop-i-test.true (sym c.is_call_at.ensures ∙ c.if-not-is_call_at.false)
    c.code.ensures

pub shape_of-answers : goal.shape_of-answers
shape_of-answers c = c.loop-i.invariant.long

pub returns : goal.returns
returns c = let a = c.args in let l = c.loop-i in
    let e : l.i ≡ a.n = omega arith in
    ap (λ (k : ℕ). leaves {S = Unit {0}} tt l.answers k) (sym e) ∙ refusing_end a.calls.now a.answers.now a.n a.refusal c.requires l.answers
    l.i l.invariant c.loop-i-test.false
