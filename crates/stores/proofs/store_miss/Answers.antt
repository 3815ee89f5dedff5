use Rattle.stores.proofs.Laws.{miss_buffered, miss_direct, miss_faults}
use Rattle.translation.specs.Faults.{buffers}
use Rattle.machine.specs.Lists.{lists, machine_of}
use mathlib.Core.Bool.{true, false}
use mathlib.Core.Path.{◌≡◌, sym, ◌∙◌}
use Rattle.stores.proofs.store_miss.Goals as goal

pub returns-then-buffers : goal.returns-then-buffers
returns-then-buffers c =
    let a = c.args in
    let f : buffers a.s.cp15.registers a.p ≡ true = sym c.buffers.ensures ∙ c.if-buffers.true in
    λ ls ps st. record {
      same = λ es n. (c.store_buffered.ensures ls ps st).same es n
          ∙ sym (miss_buffered (machine_of (lists a.memory.now a.bad.now a.words.now a.bytes.now ls ps st) es a.s n) a.a a.v
          a.p f);
      bytes_long = (c.store_buffered.ensures ls ps st).bytes_long;
    }

pub faulted-requires : goal.faulted-requires
faulted-requires c =
    c.requires.place.domain

pub returns-then-aborts : goal.returns-then-aborts
returns-then-aborts c =
    let a = c.args in
    let f : buffers a.s.cp15.registers a.p ≡ false = sym c.buffers.ensures ∙ c.if-buffers.false in
    λ ls ps st. record {
      same = λ es n. rw (
        c.faulted.ensures (lists a.memory.now a.bad.now a.words.now
            a.bytes.now ls ps st) es n,
        c.other_status.ensures,
      )
          (sym (miss_faults (machine_of (lists a.memory.now a.bad.now a.words.now a.bytes.now ls ps st) es a.s n) a.a a.v
          a.p f (sym c.aborts.ensures ∙ c.if-aborts.true)));
      bytes_long = c.requires.fits.bytes_long;
    }

pub store_direct-requires : goal.store_direct-requires
store_direct-requires c =
    (c.requires, sym c.aborts.ensures ∙ c.if-aborts.false)

pub returns : goal.returns
returns c =
    let a = c.args in
    let f : buffers a.s.cp15.registers a.p ≡ false = sym c.buffers.ensures ∙ c.if-buffers.false in
    λ ls ps st. record {
      same = λ es n. (c.store_direct.ensures ls ps st).same es n
          ∙ sym (miss_direct (machine_of (lists a.memory.now a.bad.now a.words.now a.bytes.now ls ps st) es a.s n) a.a a.v
          a.p f (sym c.aborts.ensures ∙ c.if-aborts.false));
      bytes_long = (c.store_direct.ensures ls ps st).bytes_long;
    }
