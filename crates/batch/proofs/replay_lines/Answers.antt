use native.Mathlib.Omega.{arith}
use mathlib.Core.Path.{◌≡◌}
use lib.ListN.{length, replicate}
use Rattle.sa110.specs.State.{machine_in, ran_of}
use Rattle.answers.proofs.States.{formed_typed}
use Rattle.batch.proofs.Printing.{calls_made_lem, departed_room, ran_machine, ran_told, codes_low, batch_laid}
use Rattle.batch.proofs.replay_lines.Goals as goal

pub print-written-requires : goal.print-written-requires
print-written-requires c = let a = c.args in
    let p = c.parse-p in
    let ran = c.run-r in
    let m = machine_in a.memory.now a.bad.now a.store.now a.state a.cp15 in
    let f = formed_typed a.memory.now a.bad.now a.store.now a.state a.cp15 _ c.well_formed.0 (λ i h. omega (
      arith,
      c.slice_known-1.given i,
    )) (λ i h. omega (arith, c.slice_known-2-1.given i)) in
    let few = p.ensures.2 in
    let small = c.requires.0 in
    let r = ran_of ran.new.memory a.bad.now ran.new.store ran.new.answers ran.result in
    let e = ran.ensures in
    let t = ran_told m a.ends a.n a.text.now p.new.calls p.result p.ensures.0 (replicate 1024 0) r (omega arith) e f in
    let long : length p.new.calls ≡ 5120 = p.auto.calls in
    let wide = c.requires.1 in
    let count = c.requires.2 in
    let room : length ran.new.answers ≡ 1024 = ran.auto.answers in
    let made = calls_made_lem m a.ends a.n a.text.now p.new.calls p.result p.ensures.0 in
    (omega arith, omega arith, omega arith, omega arith, λ k h. codes_low _ _ _ t k (omega arith))

pub put_departed-requires : goal.put_departed-requires
put_departed-requires c = let a = c.args in
    let p = c.parse-p in
    let few = p.ensures.2 in
    let small = c.requires.0 in
    let wide = c.requires.1 in
    let count = c.requires.2 in
    let pr = c.print-written in
    let laid = pr.ensures in
    let long : length pr.new.out ≡ length a.out.now = pr.auto.out in (
      omega arith,
      λ v. departed_room (machine_in a.memory.now a.bad.now a.store.now a.state a.cp15) a.ends a.n a.text.now p.new.calls p.result p.ensures.0 _ _ _ _ laid (rw long wide) v,
    )

pub returns : goal.returns
returns c = let a = c.args in
    let p = c.parse-p in
    let ran = c.run-r in
    let m = machine_in a.memory.now a.bad.now a.store.now a.state a.cp15 in
    let f = formed_typed a.memory.now a.bad.now a.store.now a.state a.cp15 _ c.well_formed.0 (λ i h. omega (
      arith,
      c.slice_known-1.given i,
    )) (λ i h. omega (arith, c.slice_known-2-1.given i)) in
    let few = p.ensures.2 in
    let small = c.requires.0 in
    let r = ran_of ran.new.memory a.bad.now ran.new.store ran.new.answers ran.result in
    let e = ran.ensures in
    let t = ran_told m a.ends a.n a.text.now p.new.calls p.result p.ensures.0 (replicate 1024 0) r (omega arith) e f in
    let pr = c.print-written in
    let pd = c.put_departed in
    record {
      machine = ran_machine m a.ends a.n a.text.now p.new.calls p.result p.ensures.0 (replicate 1024 0) r (omega
          arith) e;
      made = p.ensures.0.made;
      end = p.ensures.0.end;
      verdict = p.ensures.0.verdict;
      laid = batch_laid m a.ends a.n a.text.now p.new.calls p.result p.ensures.0 (replicate 1024 0) r (omega arith) e t a.lines a.out.now _ _ _ _ c.requires.1
          few pr.ensures pd.ensures;
    }
