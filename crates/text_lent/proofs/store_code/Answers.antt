use mathlib.Core.Path.{ap}
use Rattle.trace.specs.Codes.{code_of}
use Rattle.text.specs.Store.{Stored}
use Rattle.text_lent.specs.Codes.{stored_code}
use Rattle.text_lent.proofs.store_code.Goals as goal

pub returns : goal.returns
returns c = λ bad store. rw c.code.ensures
    (ap (λ (d : Stored). stored_code d.slice (code_of d.answer)) (c.store.ensures bad store))
