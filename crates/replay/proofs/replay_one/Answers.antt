use native.Mathlib.Omega.{arith}
use borrow.Author.Rules.{rules}
use Prim.Native.Nat.{◌+◌}
use mathlib.Core.Path.{◌≡◌, sym, ◌∙◌}
use lib.ListN.{length, take}
use Rattle.fields.proofs.First.{parse_within, parse_few}
use Rattle.fields.proofs.Calls.{parse_open}
use Rattle.replay.specs.Code.{held_of}
use Rattle.held.proofs.Keeping.{kept_means}
use Rattle.replay.proofs.OnePart.{one_is}
use Rattle.replay.proofs.replay_one.Goals as goal

pub join-taken-requires : goal.join-taken-requires
join-taken-requires c = let a = c.args in
    let r = a.replay in
    let k = kept_means r.lines r.held r.waiting r.begun c.requires in
    let long : length r.begun ≡ 64 = c.well_formed.0.1.1.1.1.1.1.1.1.0.1.0.1 in
    (long, k.held_low)

pub replay_lines-b-requires : goal.replay_lines-b-requires
replay_lines-b-requires c = let a = c.args in
    let r = a.replay in
    let k = kept_means r.lines r.held r.waiting r.begun c.requires in
    let long : length r.begun ≡ 64 = c.well_formed.0.1.1.1.1.1.1.1.1.0.1.0.1 in
    (search rules, search rules, k.lines_low)

pub settled-after-requires : goal.settled-after-requires
settled-after-requires c = let a = c.args in
    let r = a.replay in
    let k = kept_means r.lines r.held r.waiting r.begun c.requires in
    let long : length r.begun ≡ 64 = c.well_formed.0.1.1.1.1.1.1.1.1.0.1.0.1 in
    let b = c.replay_lines-b.ensures in
    let j = c.join-taken in
    let last = c.is_last-last.result in
    let whole = take (r.held + j.result) j.new.line in
    let w = parse_within last 1 whole in
    let f = parse_few last 1 whole in
    let e = b.end in
    let m = b.made in (
      rw e w,
      k.lines_low,
      omega arith,
      λ v. let s = parse_open last 1 whole (sym b.verdict ∙ v) in
          rw e s,
    )

pub returns : goal.returns
returns c = let a = c.args in
    let r = a.replay in
    let k = kept_means r.lines r.held r.waiting r.begun c.requires in
    let long : length r.begun ≡ 64 = c.well_formed.0.1.1.1.1.1.1.1.1.0.1.0.1 in
    let b = c.replay_lines-b in
    let j = c.join-taken in
    let p = c.put_out in
    let s = c.settled-after in
    p.ensures b.new.memory a.bad.now b.new.store
    ∙ one_is a.ends (held_of a.memory.now a.bad.now a.store.now r) k long a.text.now a.out.now _ _ b.new.memory a.bad.now b.new.store _ j.result _ b.result j.ensures.0 j.ensures.1 c.is_last-last.ensures b.ensures _ (s.ensures b.new.memory a.bad.now b.new.store) _ c.taken_by.ensures
