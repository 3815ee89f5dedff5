use Rattle.cp15.proofs.Laws.{eight_flush, eight_drop, eight_nothing}
use Rattle.machine.specs.Lists.{machine_of}
use Rattle.machine.specs.Machine.{with_entries}
use Rattle.values.specs.declared.Entry.{Entry}
use mathlib.Core.List.{List}
use Rattle.registers.specs.Pairs.{is_pair}
use mathlib.Core.Bool.{true, false, ◌||◌}
use mathlib.Core.Path.{◌≡◌, sym, ◌∙◌, ap}
use Rattle.cp15.proofs.operate_eight.Goals as goal

pub returns-then-is_flush : goal.returns-then-is_flush
returns-then-is_flush c =
    let a = c.args in
    let f : (is_pair a.t 0 7 || is_pair a.t 0 6) ≡ true = sym c.is_flush.ensures ∙ c.if-is_flush.true in
    λ l s n. ap (λ (x : List Entry). with_entries (machine_of l a.entries.now s n) x) c.flush.ensures
    ∙ sym (eight_flush (machine_of l a.entries.now s n) a.t a.va c.requires.0 f)

pub returns-then-is_pair : goal.returns-then-is_pair
returns-then-is_pair c =
    let a = c.args in
    let f : (is_pair a.t 0 7 || is_pair a.t 0 6) ≡ false = sym c.is_flush.ensures ∙ c.if-is_flush.false in
    let g : is_pair a.t 1 6 ≡ true = sym c.is_pair.ensures ∙ c.if-is_pair.true in
    λ l s n. ap (λ (x : List Entry). with_entries (machine_of l a.entries.now s n) x) c.drop_covering.ensures
    ∙ sym (eight_drop (machine_of l a.entries.now s n) a.t a.va c.requires.0 f g)

pub returns-else-is_pair : goal.returns-else-is_pair
returns-else-is_pair c =
    let a = c.args in
    let f : (is_pair a.t 0 7 || is_pair a.t 0 6) ≡ false = sym c.is_flush.ensures ∙ c.if-is_flush.false in
    let g : is_pair a.t 1 6 ≡ false = sym c.is_pair.ensures ∙ c.if-is_pair.false in
    λ l s n. sym (eight_nothing (machine_of l a.entries.now s n) a.t a.va c.requires.0 f g)
