use Rattle.refusals.proofs.Numbers.{err_numbered, ok_zero}
use Rattle.look.proofs.Looks.{shown_refused, shown_by, base_whole}
use Rattle.state.specs.State.{machine_in}
use Rattle.cache.specs.Packing.{line_of}
use mathlib.Core.Path.{◌≡◌, sym, ◌∙◌}
use lib.ListN.{length, length-map}
use borrow.Author.Rules.{rules}
use Rattle.look.proofs.shown.Goals as goal

pub returns-then-is_err : goal.returns-then-is_err
returns-then-is_err c = let a = c.args in shown_refused (machine_in a.memory.now a.bad.now a.store.now a.state a.cp15) a.va _
    c.state_refusal.ensures (err_numbered _ (sym c.is_err.ensures.value ∙ c.if-is_err.true))

pub uncached_line-requires : goal.uncached_line-requires
uncached_line-requires c =
    let good = c.well_formed.0 in
    let a = c.args in
    let m = machine_in a.memory.now a.bad.now a.store.now a.state a.cp15 in
    let ls : length a.state.lines ≡ 512 = search (rules, good) in
    base_whole m a.va _ c.state_refusal.ensures (ok_zero _ (sym c.is_err.ensures.value ∙ c.if-is_err.false)) (length-map a.state.lines line_of ∙ ls)

pub returns-in-Some : goal.returns-in-Some
returns-in-Some c = let a = c.args in
    let m = machine_in a.memory.now a.bad.now a.store.now a.state a.cp15 in
    sym (shown_by m a.va _ c.state_refusal.ensures (ok_zero _ (sym c.is_err.ensures.value ∙ c.if-is_err.false)) _
    (sym c.in-Some.is ∙ c.find-found.ensures))

pub returns-in-None : goal.returns-in-None
returns-in-None c = let a = c.args in
    let m = machine_in a.memory.now a.bad.now a.store.now a.state a.cp15 in
    c.uncached_line.ensures ∙ sym (shown_by m a.va _ c.state_refusal.ensures (ok_zero _ (sym c.is_err.ensures.value ∙ c.if-is_err.false)) _
    (sym c.in-None.is ∙ c.find-found.ensures))
