use Rattle.buffer.specs.Packing.{slot_of}
use Rattle.buffer.proofs.Meeting.{line_away, line_here}
use borrow.Author.Tests.{ne_eqb}
use mathlib.Core.Path.{◌≡◌, sym, ◌∙◌, ap}
use mathlib.Core.Bool.{not}
use native.Mathlib.Omega.{arith}
use Prim.Native.Nat.{ℕ, ◌%◌}
use lib.Dec.{eqb}
use Rattle.masks.proofs.meets_line.Goals as goal

pub returns-else-w-frame : goal.returns-else-w-frame
returns-else-w-frame c = let a = c.args in
    λ b. ne_eqb _ _ c.if-w-frame.false ∙ sym (line_away (slot_of a.w b) a.frame (λ q. c.if-w-frame.false (omega (arith, q))))

pub returns-then-w-frame : goal.returns-then-w-frame
returns-then-w-frame c = let a = c.args in
    let m : a.w % 0x100000000 % 0x10000 ≡ a.w % 0x10000 = omega arith in
    λ b. sym (line_here (slot_of a.w b) a.frame (omega (arith, c.if-w-frame.true)) ∙ ap (λ (x : ℕ). not (eqb x 0)) m)
