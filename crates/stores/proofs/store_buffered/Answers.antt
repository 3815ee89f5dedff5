use Rattle.stores.proofs.Laws.{buffered_left}
use Rattle.machine.specs.Lists.{lists}
use Rattle.stores.proofs.store_buffered.Goals as goal

pub returns : goal.returns
returns c =
    let a = c.args in
    λ ls ps st. record {
      same = λ es n. buffered_left es a.s n a.a a.v (lists a.memory.now a.bad.now a.words.now a.bytes.now ls ps st) _ a.p _
          c.buffer_or_drop-used.new.memory c.buffer_or_drop-used.new.words c.buffer_or_drop-used.new.bytes c.buffer_or_drop-used.result c.buffer_or_drop-used.ensures
          c.with_used.ensures c.stored.ensures;
      bytes_long = c.buffer_or_drop-used.ensures.fits.bytes_long;
    }
