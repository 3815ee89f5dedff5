use borrow.Author.Rules.{rules}
use mathlib.Core.Path.{sym, ◌∙◌}
use Rattle.fields.proofs.Digits.{numbering_stop, numbering_end, numbering_on, numbering_above, digits_stop}
use Rattle.fields.proofs.read_number.Goals as goal

pub returns-then-not-is_ascii_digit : goal.returns-then-not-is_ascii_digit
returns-then-not-is_ascii_digit c = let l = c.loop-i in
    let a = c.args in
    let d = sym c.is_ascii_digit.ensures.value ∙ c.if-not-is_ascii_digit.true in
    (numbering_stop a.text.now a.from l.value l.i l.invariant (digits_stop a.text.now l.i (search rules) d), l.invariant.high)

pub returns-then-value-gt-GREATEST : goal.returns-then-value-gt-GREATEST
returns-then-value-gt-GREATEST c = let l = c.loop-i in
    let a = c.args in
    let d = sym c.is_ascii_digit.ensures.value ∙ c.if-not-is_ascii_digit.false in
    (numbering_above a.text.now a.from l.value l.i l.invariant (search rules) d c.digit.result c.digit.ensures c.if-value-gt-GREATEST.true, tt)

pub loop-i-preserved : goal.loop-i-preserved
loop-i-preserved c = let l = c.loop-i in
    let a = c.args in
    let d = sym c.is_ascii_digit.ensures.value ∙ c.if-not-is_ascii_digit.false in
    numbering_on a.text.now a.from l.value l.i l.invariant (search rules) d c.digit.result c.digit.ensures c.if-value-gt-GREATEST.false

pub returns : goal.returns
returns c = let l = c.loop-i in
    let a = c.args in
    (numbering_end a.text.now a.from l.value l.i l.invariant c.loop-i-test.false, search rules)
