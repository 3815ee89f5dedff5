use Rattle.swaps.proofs.Laws.{miss_direct, miss_faults}
use Rattle.reach.specs.Reach as reaches
use Rattle.machine.specs.Lists.{lists, machine_of}
use Rattle.values.specs.declared.Status.{Status}
use mathlib.Core.Path.{sym, ◌∙◌, ap}
use Rattle.swaps.proofs.swap_miss.Goals as goal

pub returns-then-aborts : goal.returns-then-aborts
returns-then-aborts c =
    let a = c.args in
    λ ls ps st. let l = lists a.memory.now a.bad.now a.words.now a.bytes.now ls ps st in record {
      same = λ es n. let m = machine_of l es a.s n in c.faulted.ensures l es n
          ∙ ap (λ (x : Status). reaches.faulted m x a.p.domain a.a.address) c.other_status.ensures
          ∙ sym (miss_faults m a.a a.v a.p (sym c.aborts.ensures ∙ c.if-aborts.true));
      bytes_long = c.requires.fits.bytes_long;
    }

pub swap_direct-requires : goal.swap_direct-requires
swap_direct-requires c =
    (c.requires, sym c.aborts.ensures ∙ c.if-aborts.false)

pub returns : goal.returns
returns c =
    let a = c.args in
    λ ls ps st. let k = c.swap_direct.ensures ls ps st in record {
      same = λ es n. k.same es n
          ∙ sym (miss_direct (machine_of (lists a.memory.now a.bad.now a.words.now a.bytes.now ls ps st) es a.s n) a.a a.v a.p
          (sym c.aborts.ensures ∙ c.if-aborts.false));
      bytes_long = k.bytes_long;
    }
