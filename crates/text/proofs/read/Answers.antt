use borrow.Author.Rules.{rules}
use mathlib.Core.Path.{refl, sym, ◌∙◌, ap, subst}
use lib.ListN.{length}
use Rattle.form.specs.Code.{NoZero}
use Rattle.step.proofs.StateRefusals.{fitting}
use Rattle.text.proofs.Places.{separators_long, separators_no_zero}
use Rattle.text.proofs.Reading.{read_by_lem, read_one, read_fourteen, read_formed}
use Rattle.text.proofs.read.Goals as goal

pub returns-then-not-length_fits : goal.returns-then-not-length_fits
returns-then-not-length_fits c = let a = c.args in
    λ bad st. rw c.from.ensures at (c.refused.ensures a.memory.now bad st)
    ∙ read_one a.memory.now bad st a.text.now (sym c.length_fits.ensures ∙ c.if-not-length_fits.true)

pub read_numbers-requires : goal.read_numbers-requires
read_numbers-requires c = let e = c.separators-behind.ensures in
    (ap length e ∙ separators_long, subst NoZero (sym e) separators_no_zero)

pub returns-then-not-read_numbers : goal.returns-then-not-read_numbers
returns-then-not-read_numbers c = let a = c.args in
    let n = read_by_lem _ a.text.now _ _ c.separators-behind.ensures c.read_numbers.ensures in
    λ bad st. rw c.from-then-not-read_numbers.ensures at (c.refused-then-not-read_numbers.ensures a.memory.now bad st)
    ∙ read_fourteen a.memory.now bad st a.text.now (sym c.length_fits.ensures ∙ c.if-not-length_fits.false)
    (sym n.0 ∙ c.if-not-read_numbers.true)

pub read_state-requires : goal.read_state-requires
read_state-requires c = let f = fitting (length c.args.memory.now) (sym c.length_fits.ensures ∙ c.if-not-length_fits.false) in
    (search rules, f.short)

pub returns : goal.returns
returns c = let a = c.args in
    let n = read_by_lem _ a.text.now _ _ c.separators-behind.ensures c.read_numbers.ensures in
    λ bad st. c.read_state.ensures a.memory.now bad st refl
    ∙ read_formed a.memory.now bad st a.text.now (sym c.length_fits.ensures ∙ c.if-not-length_fits.false) _ (n.1 c.if-not-read_numbers.false)
    (sym n.0 ∙ c.if-not-read_numbers.false)
