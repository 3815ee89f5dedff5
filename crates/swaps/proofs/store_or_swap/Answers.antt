use Rattle.swaps.proofs.Laws.{found_swap, found_store, none_swap, none_store}
use Rattle.reach.proofs.Bounds.{find_low}
use Rattle.machine.specs.Lists.{lists, machine_of}
use mathlib.Core.Path.{sym, ◌∙◌}
use Rattle.swaps.proofs.store_or_swap.Goals as goal

pub swap_hit-requires : goal.swap_hit-requires
swap_hit-requires c = (
  c.requires.1,
  c.requires.2,
  find_low c.args.lines.now _ _ c.requires.1 (sym c.find-found.ensures ∙ c.in-Some.is),
  c.requires.0.width,
  c.requires.3,
)

pub returns-then-swaps : goal.returns-then-swaps
returns-then-swaps c =
    let a = c.args in
    λ ps. let l = lists a.memory.now a.bad.now a.words.now a.bytes.now a.lines.now ps a.cached.now in record {
      same = λ es n. c.swap_hit.ensures a.memory.now a.bad.now a.words.now a.bytes.now ps es n
          ∙ sym (found_swap (machine_of l es a.s n) a.a a.v a.p _ c.cleared-va.ensures _
          (sym c.is_swap-swaps.ensures ∙ c.if-swaps.true) (sym c.find-found.ensures ∙ c.in-Some.is));
      bytes_long = c.requires.0.fits.bytes_long;
    }

pub store_hit-requires : goal.store_hit-requires
store_hit-requires c = (
  c.requires.1,
  c.requires.2,
  find_low c.args.lines.now _ _ c.requires.1 (sym c.find-found.ensures ∙ c.in-Some.is),
  c.requires.0.width,
  c.requires.3,
)

pub returns-then-swaps-2 : goal.returns-then-swaps-2
returns-then-swaps-2 c =
    let a = c.args in
    λ ps. let l = lists a.memory.now a.bad.now a.words.now a.bytes.now a.lines.now ps a.cached.now in
    let k = c.swap_miss.ensures a.lines.now ps a.cached.now in record {
      same = λ es n. k.same es n
          ∙ sym (none_swap (machine_of l es a.s n) a.a a.v a.p _ c.cleared-va.ensures
          (sym c.is_swap-swaps.ensures ∙ c.if-swaps-2.true) (sym c.find-found.ensures ∙ c.in-None.is));
      bytes_long = k.bytes_long;
    }

pub returns-else-swaps : goal.returns-else-swaps
returns-else-swaps c =
    let a = c.args in
    λ ps. let l = lists a.memory.now a.bad.now a.words.now a.bytes.now a.lines.now ps a.cached.now in record {
      same = λ es n. c.store_hit.ensures a.memory.now a.bad.now a.words.now a.bytes.now ps es n
          ∙ sym (found_store (machine_of l es a.s n) a.a a.v a.p _ c.cleared-va.ensures _
          (sym c.is_swap-swaps.ensures ∙ c.if-swaps.false) (sym c.find-found.ensures ∙ c.in-Some.is));
      bytes_long = c.requires.0.fits.bytes_long;
    }

pub returns-else-swaps-2 : goal.returns-else-swaps-2
returns-else-swaps-2 c =
    let a = c.args in
    λ ps. let l = lists a.memory.now a.bad.now a.words.now a.bytes.now a.lines.now ps a.cached.now in
    let k = c.store_miss.ensures a.lines.now ps a.cached.now in record {
      same = λ es n. k.same es n
          ∙ sym (none_store (machine_of l es a.s n) a.a a.v a.p _ c.cleared-va.ensures
          (sym c.is_swap-swaps.ensures ∙ c.if-swaps-2.false) (sym c.find-found.ensures ∙ c.in-None.is));
      bytes_long = k.bytes_long;
    }
