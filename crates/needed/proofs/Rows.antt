-- What a row of the table shows: that two answers, or two bytes, differ; and that term 3 does not hold with what the row leaves of a rule.
use Prim.Native.Nat.{ℕ}
use mathlib.Core.Bool.{false}
use mathlib.Core.Path.{◌≡◌, sym, ◌∙◌, ap}
use mathlib.Core.List.{List}
use lib.Dec.{eqb}
use lib.ListN.{get_or}
use borrow.Author.Tests.{eqb-false}
use Rattle.values.specs.declared.Answer.{Answer}
use Rattle.trace.specs.Codes.{code_of}
use Rattle.needed.specs.Calls.{zero_store, last}
use Rattle.needed.specs.Needed.{Refutes, RefutesAtEnd}

pub bytes_differ : {a b : ℕ} → eqb a b ≡ false → a ≡ b → ⊥
bytes_differ {a} {b} = eqb-false a b

-- two answers differ where their numbers do
pub answers_differ : {x y : Answer} → eqb (code_of x) (code_of y) ≡ false → x ≡ y → ⊥
answers_differ {x} {y} e q = eqb-false (code_of x) (code_of y) e (ap code_of q)

pub refutes : Refutes
refutes rule left memory list library plain d term =
    d.differ (sym d.library_last ∙ ap last (term memory zero_store list d.run) ∙ d.plain_last)

pub refutes_at_end : RefutesAtEnd
refutes_at_end left memory list address library plain d term =
    let e = term memory zero_store list d.run d.settled_but_lem in
    d.differ (sym d.library_has ∙ ap (λ (m : List ℕ). get_or m address 0) e ∙ d.plain_has)
