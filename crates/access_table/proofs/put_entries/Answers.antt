use Rattle.std.proofs.Common.{arith}
use Rattle.access_table.proofs.Listing.{listing_start, listing_on, listing_end}
use Rattle.access_table.proofs.put_entries.Goals as goal

pub loop-i-init : goal.loop-i-init
loop-i-init c = let a = c.args in listing_start a.out.now a.table.now

pub put_entry-at-requires : goal.put_entry-at-requires
put_entry-at-requires c = let l = c.loop-i in
    let low = c.loop-i-test.true in
    let few = l.invariant.few in
    let long = l.invariant.laying.long in
    (omega (arith, c.requires.0, low), omega (arith, c.requires.0, c.requires.1, low, few, long))

pub loop-i-preserved : goal.loop-i-preserved
loop-i-preserved c = let a = c.args in
    let l = c.loop-i in
    listing_on a.out.now a.table.now l.out l.at l.i l.invariant _ _ (omega (arith, c.requires.0, c.requires.1)) c.loop-i-test.true
    c.put_entry-at.ensures

pub returns : goal.returns
returns c = let a = c.args in
    let l = c.loop-i in
    listing_end a.out.now a.table.now l.out l.at l.i l.invariant c.loop-i-test.false 2048 (omega (arith, c.requires.0))
