use Prim.Native.Nat.{◌/◌, ◌%◌}
use native.Mathlib.Omega.{arith}
use mathlib.Core.Bool.{false}
use mathlib.Core.Path.{◌≡◌, sym, ◌∙◌}
use borrow.Author.Tests.{ltb-true, ltb-false, le-ltb}
use Rattle.values.proofs.Cases.{clash}
use Rattle.tlb.specs.Packing.{entry_of}
use Rattle.soundness.specs.Soundness.{entry_in_range}
use Rattle.soundness.proofs.Clauses.{size_high, range_domain, range_physical, range_virtual}
use Rattle.soundness_test.proofs.fields_sound.Goals as goal
use Rattle.soundness_test.proofs.fields_sound.Goals.{then-size-lt3, else-size-lt3, then-w-lt16, else-w-lt16}

pub returns-then-base_sound : goal.returns-then-base_sound
returns-then-base_sound c =
    let w = c.args.w in
    elim c.if-w-lt16.branch [
      | then-w-lt16 d ↦ elim c.if-size-lt3.branch [
        | then-size-lt3 s ↦ c.base_sound-then-base_sound.ensures ∙ sym (range_physical w (omega arith) s.if-size-lt3.true
            (ltb-true (w / 0x100 % 0x100) 16 (sym s.value-is ∙ d.if-w-lt16.true)) (sym d.base_sound.ensures ∙ sym d.value-is ∙ c.if-base_sound.true))
        | else-size-lt3 s ↦ clash (sym s.value-is ∙ d.if-w-lt16.true) (le-ltb (w / 8 % 32) 3 s.if-size-lt3.false)
      ]
      | else-w-lt16 d ↦ clash c.if-base_sound.true (d.value-is ∙ d.if-w-lt16.false)
    ]

pub returns-else-base_sound : goal.returns-else-base_sound
returns-else-base_sound c =
    let w = c.args.w in
    let no : entry_in_range (entry_of w) ≡ false = elim c.if-size-lt3.branch [
      | then-size-lt3 s ↦ elim c.if-w-lt16.branch [
        | then-w-lt16 d ↦ range_virtual w (omega arith) s.if-size-lt3.true (sym d.base_sound.ensures ∙ sym d.value-is ∙ c.if-base_sound.false)
        | else-w-lt16 d ↦ range_domain w (omega arith) s.if-size-lt3.true (ltb-false (w / 0x100 % 0x100) 16 (sym s.value-is ∙ d.if-w-lt16.false))
      ]
      | else-size-lt3 s ↦ size_high w s.if-size-lt3.false
    ] in c.if-base_sound.false ∙ sym no
