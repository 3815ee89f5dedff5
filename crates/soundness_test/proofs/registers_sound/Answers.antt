use Prim.Native.Nat.{◌%◌}
use native.Mathlib.Omega.{arith}
use mathlib.Core.Bool.{false, ◌&&◌}
use mathlib.Core.Path.{◌≡◌, refl, sym, ◌∙◌, ap}
use lib.Dec.{eqb}
use borrow.Author.Tests.{eqb-true, eqb-false, eq-eqb, ne_eqb}
use Rattle.values.specs.Control.{kept, listed}
use Rattle.values.proofs.Cases.{and_left, and_right}
use Rattle.soundness.specs.Soundness.{registers_sound}
use Rattle.soundness.proofs.Slots.{control_no, listed_no, base_no, fsr_test}
use Rattle.soundness_test.proofs.Ands.{and_then, and_else}
use Rattle.soundness_test.proofs.registers_sound.Goals as goal
use Rattle.soundness_test.proofs.registers_sound.Goals.{then-kept-r, else-kept-r, then-is_listed, else-is_listed}

pub returns-then-r-eq0 : goal.returns-then-r-eq0
returns-then-r-eq0 c =
    let r = c.args.r in
    let v : c.if-kept-r.value ≡ (eqb (kept r.control) r.control && listed r.control) = elim c.if-kept-r.branch [
      | then-kept-r w ↦ and_then refl (eq-eqb (kept r.control) r.control (sym c.kept.ensures ∙ w.if-kept-r.true)) (w.value-is ∙ w.is_listed.ensures)
      | else-kept-r w ↦ and_else (listed r.control) refl (ne_eqb (kept r.control) r.control (λ e. w.if-kept-r.false (c.kept.ensures ∙ e)))
          (w.value-is ∙ ap (λ k. eqb k r.control) c.kept.ensures)
    ] in
    let b : c.if-is_listed.value ≡ ((eqb (kept r.control) r.control && listed r.control) && eqb (r.base % 0x4000) 0) = elim c.if-is_listed.branch [
      | then-is_listed w ↦ and_then v w.if-is_listed.true w.value-is
      | else-is_listed w ↦ and_else (eqb (r.base % 0x4000) 0) v w.if-is_listed.false w.value-is
    ] in
    let all = sym b ∙ c.if-r-eq0.true in
    let front = and_left (eqb (kept r.control) r.control && listed r.control) (eqb (r.base % 0x4000) 0) all in
    sym (fsr_test r (eqb-true (kept r.control) r.control (and_left (eqb (kept r.control) r.control) (listed r.control) front))
    (and_right (eqb (kept r.control) r.control) (listed r.control) front)
    (eqb-true (r.base % 0x4000) 0 (and_right (eqb (kept r.control) r.control && listed r.control) (eqb (r.base % 0x4000) 0) all))
    (omega arith) (omega arith) (omega (arith, c.well_formed)))

pub returns-else-r-eq0 : goal.returns-else-r-eq0
returns-else-r-eq0 c =
    let r = c.args.r in
    let no : registers_sound r ≡ false = elim c.if-kept-r.branch [
      | then-kept-r w ↦ elim c.if-is_listed.branch [
        | then-is_listed v ↦ base_no r (sym c.kept.ensures ∙ w.if-kept-r.true) (sym w.is_listed.ensures ∙ sym w.value-is ∙ v.if-is_listed.true)
            (eqb-false (r.base % 0x4000) 0 (sym v.value-is ∙ c.if-r-eq0.false))
        | else-is_listed v ↦ listed_no r (sym c.kept.ensures ∙ w.if-kept-r.true) (sym w.is_listed.ensures ∙ sym w.value-is ∙ v.if-is_listed.false)
      ]
      | else-kept-r w ↦ control_no r (λ e. w.if-kept-r.false (c.kept.ensures ∙ e))
    ] in c.if-r-eq0.false ∙ sym no
