-- What `a && b` answers where its branches join: p is the answer of a, and v that of both.
use mathlib.Core.Bool.{Bool, true, false, ◌&&◌}
use mathlib.Core.Path.{◌≡◌, sym, ◌∙◌}

pub and_then : {p a b v : Bool} → p ≡ a → p ≡ true → v ≡ b → v ≡ (a && b)
and_then e t q = rw (sym e ∙ t) q

pub and_else : {p a v : Bool} (b : Bool) → p ≡ a → p ≡ false → v ≡ p → v ≡ (a && b)
and_else b e f q = rw (sym e ∙ f) (q ∙ f)
