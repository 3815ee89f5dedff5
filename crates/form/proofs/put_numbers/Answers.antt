use native.Mathlib.Omega.{arith}
use Rattle.form.proofs.Putting.{putting_room, putting_byte, putting_on, putting_end}
use Rattle.form.proofs.put_numbers.Goals as goal

pub put_number-end-requires : goal.put_number-end-requires
put_number-end-requires c = let l = c.loop-k in
    let a = c.args in
    let small = c.type_inv.numbers l.k in
    let room = putting_room a.separators.now a.numbers.now a.out.now l.out l.at l.k l.invariant c.requires.1 c.loop-k-test.true in
    (omega (arith, small), omega (arith, room))

pub put_byte-at-requires : goal.put_byte-at-requires
put_byte-at-requires c = let l = c.loop-k in
    let a = c.args in
    let m = c.put_number-end in
    putting_byte a.separators.now a.numbers.now a.out.now l.out l.at l.k l.invariant c.requires.1 c.loop-k-test.true m.new.out m.result m.ensures

pub loop-k-preserved : goal.loop-k-preserved
loop-k-preserved c = let l = c.loop-k in
    let a = c.args in
    let m = c.put_number-end in
    let b = c.put_byte-at in
    putting_on a.separators.now a.numbers.now a.out.now l.out l.at l.k l.invariant c.requires.1 c.loop-k-test.true m.new.out m.result m.ensures c.requires.0 b.new.out b.result b.ensures

pub returns : goal.returns
returns c = let l = c.loop-k in
    let a = c.args in
    putting_end a.separators.now a.numbers.now a.out.now l.out l.at l.k l.invariant c.requires.1 c.requires.0 c.loop-k-test.false
