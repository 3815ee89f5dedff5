use mathlib.Core.Bool.{false}
use mathlib.Core.Logic.{inl, inr}
use mathlib.Core.Path.{◌≡◌, sym}
use borrow.Author.Rules.{rules}
use Rattle.soundness.specs.Soundness.{counts_sound}
use Rattle.soundness.proofs.Clauses.{misses_high, hits_high, fills_high, halves_test}
use Rattle.soundness_test.proofs.counts_sound.Goals as goal

pub returns-then-c-3 : goal.returns-then-c-3
returns-then-c-3 c = let a = c.args in
    let t = c.if-c-3.true in
    λ lines e. sym (halves_test a.c lines t.0 t.1 t.2 a.dirty e)

pub returns-else-c-3 : goal.returns-else-c-3
returns-else-c-3 c = let a = c.args in
    λ lines e.
    let no : counts_sound a.c lines ≡ false = elim c.if-c-3.either [
      | inl t ↦ fills_high a.c lines t.0 t.1 t.2
      | inr (inl t) ↦ hits_high a.c lines t.0 t.1
      | inr (inr t) ↦ misses_high a.c lines t
    ] in rw no (search rules)
