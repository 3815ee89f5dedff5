use native.Mathlib.Omega.{arith}
use mathlib.Core.Path.{◌≡◌, sym, ◌∙◌}
use lib.ListN.{length}
use Rattle.replay.specs.Code.{held_of, flag}
use Rattle.held.proofs.Keeping.{kept_means}
use Rattle.replay.proofs.Parting.{part_refused, part_waits, part_stopped, part_lines}
use Rattle.replay.proofs.replay_part.Goals as goal

pub put_out-requires : goal.put_out-requires
put_out-requires c = let a = c.args in
    let r = a.replay in
    let h = held_of a.memory.now a.bad.now a.store.now r in
    let long : length r.pending ≡ 64 = c.well_formed.0.1.1.1.1.1.1.1.1.1.0.1.0.1 in
    let t = sym c.is_kept.ensures ∙ c.if-not-is_kept.false in
    let k = kept_means r.lines r.held r.waiting r.begun t in
    let low = k.waiting_low in
    (omega arith, low)

pub returns-then-replay-ne0 : goal.returns-then-replay-ne0
returns-then-replay-ne0 c = let a = c.args in
    let r = a.replay in
    let h = held_of a.memory.now a.bad.now a.store.now r in
    c.put_out.ensures a.memory.now a.bad.now a.store.now ∙ part_waits (flag a.ends) h a.text.now a.out.now (sym
    c.is_kept.ensures ∙ c.if-not-is_kept.false) c.if-replay-ne0.true

pub returns-then-replay-ne0-2 : goal.returns-then-replay-ne0-2
returns-then-replay-ne0-2 c = let a = c.args in
    let r = a.replay in
    let h = held_of a.memory.now a.bad.now a.store.now r in
    c.passed-then-replay-ne0-2.ensures a.memory.now a.bad.now a.store.now a.out.now ∙ part_stopped (flag a.ends) h a.text.now a.out.now (sym
    c.is_kept.ensures ∙ c.if-not-is_kept.false) c.if-replay-ne0.false c.if-replay-ne0-2.true

pub replay_text-requires : goal.replay_text-requires
replay_text-requires c = sym c.is_kept.ensures ∙ c.if-not-is_kept.false

pub returns : goal.returns
returns c = let a = c.args in
    let r = a.replay in
    let h = held_of a.memory.now a.bad.now a.store.now r in
    c.replay_text.ensures ∙ part_lines (flag a.ends) h a.text.now a.out.now (sym c.is_kept.ensures ∙
    c.if-not-is_kept.false) c.if-replay-ne0.false c.if-replay-ne0-2.false

pub returns-then-not-is_kept : goal.returns-then-not-is_kept
returns-then-not-is_kept c = let a = c.args in
    let r = a.replay in
    let h = held_of a.memory.now a.bad.now a.store.now r in
    rw c.from.ensures at (c.passed.ensures a.memory.now a.bad.now a.store.now a.out.now) ∙ part_refused (flag a.ends) h a.text.now a.out.now (sym
    c.is_kept.ensures ∙ c.if-not-is_kept.true)
