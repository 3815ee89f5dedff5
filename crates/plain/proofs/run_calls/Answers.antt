use Rattle.refusals.specs.Refusals.{map_fits}
use Rattle.plain.proofs.Runs.{going_start, going_on, going_stop, going_end}
use mathlib.Core.Path.{◌≡◌, sym, ◌∙◌, ap}
use native.Mathlib.Omega.{arith}
use Prim.Native.Nat.{ℕ}
use Rattle.plain.specs.Code.{plain_left}
use Rattle.plain.proofs.run_calls.Goals as goal

pub loop-i-init : goal.loop-i-init
loop-i-init c =
    let a = c.args in
    let m = a.memory.now in
    let bad = a.bad.now in
    going_start m bad a.calls.now a.answers.now a.n c.requires.1 c.zero_state-s.result (c.zero_state-s.ensures m bad)

pub is_call_at-requires : goal.is_call_at-requires
is_call_at-requires c =
    omega (arith, c.requires.1.calls_hold)

pub shape_of-memory-then-not-is_call_at : goal.shape_of-memory-then-not-is_call_at
shape_of-memory-then-not-is_call_at c = c.loop-i.invariant.memory_long

pub shape_of-answers-then-not-is_call_at : goal.shape_of-answers-then-not-is_call_at
shape_of-answers-then-not-is_call_at c = c.loop-i.invariant.long

pub returns-then-not-is_call_at : goal.returns-then-not-is_call_at
returns-then-not-is_call_at c =
    let a = c.args in
    let l = c.loop-i in
    let t = sym c.is_call_at.ensures ∙ c.if-not-is_call_at.true in
    going_stop a.memory.now a.bad.now a.calls.now a.answers.now a.n l.memory l.answers l.s l.i l.invariant
    c.loop-i-test.true t

pub call_at-c-requires : goal.call_at-c-requires
call_at-c-requires c =
    omega (arith, c.requires.1.calls_hold)

pub step-o-requires : goal.step-o-requires
step-o-requires c =
    let l = c.loop-i.invariant in
    (c.requires.0, l.kept, c.requires.2 ∙ ap (λ (k : ℕ). map_fits k c.args.bad.now) (sym l.memory_long))

pub offset_bounds-answers-i : goal.offset_bounds-answers-i
offset_bounds-answers-i c =
    omega (arith, c.well_formed.1.1.1.1.0, c.requires.1.answers_hold)

pub bounds-answers-i : goal.bounds-answers-i
bounds-answers-i c =
    omega (arith, c.requires.1.answers_hold, c.loop-i.invariant.long)

pub loop-i-preserved : goal.loop-i-preserved
loop-i-preserved c =
    let a = c.args in
    let l = c.loop-i in
    let st = c.step-o in
    let t = sym c.is_call_at.ensures ∙ c.if-not-is_call_at.false in
    going_on a.memory.now a.bad.now a.calls.now a.answers.now a.n l.memory l.answers l.s l.i l.invariant
    st.new.memory st.result c.call_at-c.result c.code.result
    c.loop-i-test.true t c.call_at-c.ensures st.ensures st.auto.memory c.code.ensures

pub shape_of-memory : goal.shape_of-memory
shape_of-memory c = c.loop-i.invariant.memory_long

pub shape_of-answers : goal.shape_of-answers
shape_of-answers c = c.loop-i.invariant.long

pub returns : goal.returns
returns c =
    let a = c.args in
    let l = c.loop-i in
    let e : l.i ≡ a.n = omega arith in
    ap (λ (k : ℕ). plain_left l.memory a.bad.now l.answers (record { state = l.s; made = k; refusal = 0 })) (sym e) ∙ going_end a.memory.now a.bad.now a.calls.now a.answers.now a.n l.memory l.answers l.s l.i l.invariant
    c.loop-i-test.false
