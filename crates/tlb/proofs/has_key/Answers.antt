use mathlib.Core.Path.{sym, ◌∙◌}
use Rattle.tlb.proofs.Keyed.{key_section, key_large, key_small, key_none}
use Rattle.tlb.proofs.has_key.Goals as goal

pub returns-then-n-k : goal.returns-then-n-k
returns-then-n-k c = let a = c.args in λ va e s. sym (key_section va a.w a.k e (sym c.key-n.ensures ∙ c.if-n-k.true))

pub returns-then-n-k-2 : goal.returns-then-n-k-2
returns-then-n-k-2 c = let a = c.args in λ va e s. sym (key_small va a.w a.k e (sym c.key-n.ensures ∙ c.if-n-k-2.true))

pub returns-then-n-k-3 : goal.returns-then-n-k-3
returns-then-n-k-3 c = let a = c.args in λ va e s. sym (key_large va a.w a.k e (sym c.key-n.ensures ∙ c.if-n-k-3.true))

pub returns : goal.returns
returns c = let a = c.args in let f = c.key-n.ensures in λ va e s. sym
    (key_none va a.w a.k e s (λ h. c.if-n-k.false (f ∙ h)) (λ h. c.if-n-k-3.false (f ∙ h)) (λ h. c.if-n-k-2.false (f ∙ h)))
