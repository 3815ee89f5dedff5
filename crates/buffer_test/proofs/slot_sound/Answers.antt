use mathlib.Core.Bool.{false}
use mathlib.Core.Logic.{inl, inr}
use mathlib.Core.Path.{◌≡◌, sym, ◌∙◌}
use borrow.Author.Rules.{rules}
use Rattle.buffer.specs.Packing.{slot_of}
use Rattle.soundness.specs.Soundness.{slot_sound}
use Rattle.soundness.proofs.Slots.{slot_outside, slot_unmasked, slot_wide, slot_bytes}
use Rattle.buffer_test.proofs.slot_sound.Goals as goal

pub returns-then-mask-lt65536 : goal.returns-then-mask-lt65536
returns-then-mask-lt65536 c = let a = c.args in
    let t = c.if-mask-lt65536.true in
    c.zero_outside.ensures ∙ sym (slot_bytes a.w a.b a.n t.0 t.1 t.2)

pub returns-else-mask-lt65536 : goal.returns-else-mask-lt65536
returns-else-mask-lt65536 c = let a = c.args in
    let no : slot_sound a.n (slot_of a.w a.b) ≡ false = elim c.if-mask-lt65536.either [
      | inl t ↦ slot_wide a.w a.b a.n t.0 t.1 t.2
      | inr (inl t) ↦ slot_unmasked a.w a.b a.n t.0 t.1
      | inr (inr t) ↦ slot_outside a.w a.b a.n t
    ] in rw no (search rules)
