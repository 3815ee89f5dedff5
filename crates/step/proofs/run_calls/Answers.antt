use Prim.Native.Nat.{ℕ, ◌+◌, ◌*◌, ◌≤◌}
use lib.ListN.{length}
use Rattle.step.proofs.Runs.{SameLengths, going_start, going_on, going_stop, going_end, serves_now, numbers_of_lem}
use mathlib.Core.Path.{◌≡◌, refl, sym, ◌∙◌, ap}
use native.Mathlib.Omega.{arith}
use borrow.Author.Rules.{rules}
use Rattle.machine.proofs.Kept.{kept}
use Rattle.machine.specs.Lists.{lists_of, machine_of}
use Rattle.trace.specs.Fold.{leaves}
use Rattle.trace.specs.Calls.{call_at}
use Rattle.step.proofs.run_calls.Goals as goal

pub loop-i-init : goal.loop-i-init
loop-i-init c = let a = c.args in (
  going_start (lists_of a.side.now) a.entries.now a.calls.now a.answers.now a.first a.n
      c.requires.1 c.requires.0.1 c.requires.0.2 c.requires.0.3,
  kept refl refl refl refl refl refl,
)

pub is_call_at-requires : goal.is_call_at-requires
is_call_at-requires c =
    omega (arith, c.requires.1.calls_hold)

pub shape_of-entries-then-not-is_call_at : goal.shape_of-entries-then-not-is_call_at
shape_of-entries-then-not-is_call_at c = c.loop-i.invariant.0.same.entries

pub shape_of-answers-then-not-is_call_at : goal.shape_of-answers-then-not-is_call_at
shape_of-answers-then-not-is_call_at c = c.loop-i.invariant.0.long

pub returns-then-not-is_call_at : goal.returns-then-not-is_call_at
returns-then-not-is_call_at c = let a = c.args in
    let l = c.loop-i in (
      going_stop (lists_of a.side.now)
          a.entries.now
          a.calls.now a.answers.now a.first a.n c.requires.1
          (lists_of l.side) l.entries l.answers l.s l.i l.invariant.0
          c.loop-i-test.true (sym c.is_call_at.ensures ∙ c.if-not-is_call_at.true),
      l.invariant.1,
    )

pub step_at-o-requires : goal.step_at-o-requires
step_at-o-requires c =
    let a = c.args in
    let l = c.loop-i in
    let room : l.i * 5 + 5 ≤ length a.calls.now = omega (arith, c.requires.1.calls_hold, c.loop-i-test.true) in
    let serves = serves_now
    (lists_of a.side.now) a.entries.now
    a.calls.now a.answers.now a.first a.n c.requires.1
    (lists_of l.side) l.entries l.answers l.s l.i l.invariant.0 in
    ((c.requires.0.0, l.invariant.0.words_long, l.invariant.0.bytes_long, serves), room)

pub offset_bounds-answers-i : goal.offset_bounds-answers-i
offset_bounds-answers-i c =
    let small = c.well_formed.1.1.1.1.1.0 in
    let hold = c.requires.1.answers_hold in
    omega (arith, small, hold)

pub bounds-answers-i : goal.bounds-answers-i
bounds-answers-i c =
    let hold = c.requires.1.answers_hold in
    let long = c.loop-i.invariant.0.long in
    omega (arith, hold, long)

pub loop-i-preserved : goal.loop-i-preserved
loop-i-preserved c = let a = c.args in
    let l = c.loop-i in
    let st = c.step_at-o in
    let k = st.ensures.1 in
    let g = l.invariant.1 in
    let y : SameLengths (lists_of l.side) (lists_of st.new.side) l.entries
    st.new.entries = record { memory = k.memory_long; words = k.words_long; entries = st.auto.entries } in (
      going_on (lists_of a.side.now) a.entries.now
          a.calls.now a.answers.now a.first a.n c.requires.1
          (lists_of l.side) l.entries l.answers l.s l.i l.invariant.0 (lists_of st.new.side)
          st.new.entries st.result (call_at a.calls.now l.i) c.code.result c.loop-i-test.true
          (sym c.is_call_at.ensures ∙ c.if-not-is_call_at.false) refl
          (numbers_of_lem _ _ _ _ _ (search rules)
          (search rules)) st.ensures.0.0 y st.ensures.0.1 c.code.ensures,
      record {
        memory = k.memory ∙ g.memory;
        bad = k.bad ∙ g.bad;
        words = k.words ∙ g.words;
        bytes = k.bytes ∙ g.bytes;
        lines = k.lines ∙ g.lines;
        pointers = k.pointers ∙ g.pointers;
        store = k.store ∙ g.store;
        memory_long = k.memory_long ∙ g.memory_long;
        words_long = k.words_long ∙ g.words_long;
        lines_long = k.lines_long ∙ g.lines_long;
        pointers_long = k.pointers_long ∙ g.pointers_long;
        store_long = k.store_long ∙ g.store_long;
      },
    )

pub shape_of-entries : goal.shape_of-entries
shape_of-entries c = c.loop-i.invariant.0.same.entries

pub shape_of-answers : goal.shape_of-answers
shape_of-answers c = c.loop-i.invariant.0.long

pub returns : goal.returns
returns c = let a = c.args in
    let l = c.loop-i in
    let e : l.i ≡ a.n = omega arith in (
      ap (λ (k : ℕ). leaves (machine_of (lists_of l.side) l.entries l.s (length a.side.now.memory.now)) l.answers k) (sym e)
          ∙ going_end (lists_of a.side.now) a.entries.now a.calls.now a.answers.now a.first a.n c.requires.1
          (lists_of l.side) l.entries l.answers l.s l.i l.invariant.0 c.loop-i-test.false,
      l.invariant.1,
    )
