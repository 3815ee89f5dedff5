use Rattle.words.proofs.Widths.{is_one}
use Rattle.words.specs.Words.{is_width}
use Rattle.buffer.specs.Packing.{slot_of}
use Rattle.buffer.proofs.Meeting.{meets_away, meets_here}
use Rattle.values.proofs.Cases.{case}
use borrow.Author.Tests.{ne_eqb, eqb-true, eqb-false}
use lib.Dec.{eqb}
use Prim.Native.Nat.{ℕ, ◌*◌, ◌%◌, ◌^◌}
use mathlib.Core.Bool.{true}
use mathlib.Core.Path.{◌≡◌, sym, ◌∙◌}
use Rattle.masks.proofs.meets_access.Goals as goal

-- the ones of a width, as a power
power : (w : ℕ) → is_width w ≡ true → 1 * 2 ^ w % 2 ^ 64 ≡ 2 ^ w
power w i =
    case (eqb w 4)
    (λ t. rw (eqb-true w 4 t))
    (λ t.
    case (eqb w 2)
    (λ u. rw (eqb-true w 2 u))
    (λ u. rw (is_one w i (eqb-false w 4 t) (eqb-false w 2 u))))

pub returns-else-w-pa : goal.returns-else-w-pa
returns-else-w-pa c = let a = c.args in
    λ b. ne_eqb _ _ c.if-w-pa.false ∙ sym (meets_away (slot_of a.w b) a.width a.pa.0 c.requires.1 (λ q. c.if-w-pa.false (sym q)))

pub returns-then-w-pa : goal.returns-then-w-pa
returns-then-w-pa c = let a = c.args in
    λ b. rw (power a.width c.requires.0) (sym (meets_here (slot_of a.w b) a.width a.pa.0 c.requires.1 (sym c.if-w-pa.true)))
