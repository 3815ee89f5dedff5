-- `unfolding computing computing_plainly computing_positions` opens every definition that the tests over positions, the library and the plain machine
-- compute with.
use Rattle.walk.specs.Reads.{second_reads, words_read}
use Rattle.terms.specs.Positions as positions

unfoldable pub computing_positions : Unit {0}
unfolding second_reads words_read positions.each positions.some positions.served positions.reaches positions.virtual_at positions.address_at
    positions.stores positions.translates positions.reads_word positions.through positions.cleans positions.covers positions.r2_physical
    positions.r2_virtual positions.r3_by positions.r4_by positions.r5 positions.of_group positions.keeps_rules positions.settled_by positions.all_settled_by
computing_positions = tt
