-- `unfolding computing` opens every definition that a call of the library computes with; `unfolding computing computing_plainly`, also those of a
-- call of the plain machine.
use Rattle.values.specs.Control.{kept, listed, control_read}
use Rattle.values.specs.Lists.{all, any, sum, first_from}
use Rattle.words.specs.Words.{stored, value_at}
use Rattle.words.specs.Signed.{signed_by}
use Rattle.rights.specs.Rights.{rights}
use Rattle.walk.specs.Walk.{first, second, walk}
use Rattle.tlb.specs.Tlb.{covers, lookup, translated, ap_of, placed, flushed, dropped}
use Rattle.buffer.specs.Buffer as buffer
use Rattle.cache.specs.Dcache as cache
use Rattle.soundness.specs.Soundness.{sound, tags_sound, tag_twice, entry_sound, line_sound, slot_sound, buffer_sound, registers_sound, counts_sound, zero_outside}
use Rattle.translation.specs.Alignment.{cleared}
use Rattle.translation.specs.Translation.{translation, walked_only, checked_by, decided}
use Rattle.translation.specs.Faults.{fault_set}
use Rattle.values.specs.Rows.{first_met}
use Rattle.bus.specs.Physical.{is_bad, aborts, aborts_within}
use Rattle.refusals.specs.Refusals.{map_fits}
use Rattle.reach.specs.Reach as reach
use Rattle.loads.specs.Loads as loads
use Rattle.stores.specs.Stores as stores
use Rattle.swaps.specs.Swaps as swaps
use Rattle.access.specs.Access as access
use Rattle.registers.specs.Registers.{read_of, written_of}
use Rattle.cp15.specs.Operations as cp15
use Rattle.step.specs.Meets.{start_refusal, state_refusal, refusal}
use Rattle.step.specs.Start.{started}
use Rattle.step.specs.Call.{served}
use Rattle.trace.specs.Fold.{answers_of, final_of}
use Rattle.bus.specs.Reader.{descriptor_at}
use Rattle.machine.specs.Machine.{fresh}
use Rattle.plain.specs.Plain as plain

unfoldable pub computing : Unit {0}
unfolding kept listed control_read all any sum first_from stored value_at signed_by rights descriptor_at first second walk covers lookup translated ap_of
    placed flushed dropped buffer.laid buffer.good_words buffer.oldest_left buffer.leaving buffer.drained buffer.behind buffer.pushed buffer.half_pushed
    buffer.newest_of buffer.joined buffer.buffered buffer.meets buffer.holds buffer.ready cache.find cache.hit_load cache.hit_store cache.halves_sent
    cache.gave_way cache.line_read cache.filled cache.cleaned_at cache.cleaned cache.flushed_at cache.line_flushed cache.all_flushed fresh sound tags_sound
    tag_twice entry_sound line_sound slot_sound buffer_sound registers_sound counts_sound zero_outside cleared translation walked_only checked_by fault_set decided
    is_bad aborts aborts_within map_fits first_met reach.decision reach.committed reach.faulted loads.load_hit loads.after_fill loads.load_fill
    loads.load_uncached loads.load_miss loads.load stores.store_hit stores.store_buffered stores.store_direct stores.store_miss stores.store swaps.swap_hit
    swaps.swap_direct swaps.swap_miss swaps.swap access.access_at access.access read_of written_of cp15.operated cp15.read cp15.write refusal state_refusal
    start_refusal started served answers_of final_of
computing = tt

unfoldable pub computing_plainly : Unit {0}
unfolding plain.plain_start plain.plain_faulted plain.plain_reach plain.plain_load plain.plain_store plain.plain_swap plain.plain_at plain.plain_access plain.plain_read
    plain.plain_write plain.plain_refusal plain.plainly
computing_plainly = tt
