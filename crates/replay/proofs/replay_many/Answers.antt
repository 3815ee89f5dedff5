use native.Mathlib.Omega.{arith}
use Prim.Native.Nat.{ℕ}
use mathlib.Core.Path.{sym, ◌∙◌, ap}
use Rattle.fields.proofs.First.{parse_within, parse_few}
use Rattle.fields.proofs.Calls.{parse_open}
use Rattle.replay.specs.Code.{held_of}
use Rattle.replay.specs.Parts.{replayed}
use Rattle.replay.proofs.Wholes.{many_is}
use Rattle.replay.proofs.replay_many.Goals as goal

pub settled-after-requires : goal.settled-after-requires
settled-after-requires c = let a = c.args in
    let b = c.replay_lines-b.ensures in
    let n = c.min-n.result in
    let w = parse_within a.ends n a.text.now in
    let f = parse_few a.ends n a.text.now in
    let e = b.end in
    let m = b.made in
    let k = c.min-n.ensures in (
      rw e w,
      c.requires.0,
      omega arith,
      λ v. let s = parse_open a.ends n a.text.now (sym b.verdict ∙ v) in
          rw e s,
    )

pub returns : goal.returns
returns c = let a = c.args in
    let b = c.replay_lines-b in
    let k = c.min-n in
    let h = held_of a.memory.now a.bad.now a.store.now a.replay in
    let e = k.ensures in
    let room = c.requires.2 in
    many_is a.ends k.result h a.text.now a.out.now b.new.memory a.bad.now b.new.store _ b.result b.ensures
    c.requires.1
    (omega arith) _ (c.settled-after.ensures b.new.memory a.bad.now b.new.store) _ c.taken_by.ensures
    ∙ ap (λ (n : ℕ). replayed a.ends n h a.text.now a.out.now) e
