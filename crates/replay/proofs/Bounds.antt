-- A part takes no more than its text, and writes no more than its slice.
use Prim.Native.Nat.{ℕ, ◌≤◌}
use native.Mathlib.Omega.{arith}
use mathlib.Core.Bool.{Bool}
use mathlib.Core.Path.{◌≡◌, sym, subst}
use mathlib.Core.List.{List}
use lib.Dec.{eqb}
use lib.ListN.{length}
use Rattle.values.proofs.Cases.{case}
use Rattle.replay.specs.Parts.{Held, kept, Parted, put_out, replayed, part}

pub record Bounded (taken written text out : ℕ) : Type 0 where
  pub taken_low : taken ≤ text
  pub written_low : written ≤ out

put_bounded : (h : Held) (bytes out : List ℕ) (taken n : ℕ) → taken ≤ n
    → Bounded (put_out h bytes out taken).taken (put_out h bytes out taken).written n (length out)
unfolding put_out
put_bounded h bytes out taken n k = record { taken_low = k; written_low = omega arith }

part_bounded : (ends : Bool) (h : Held) (text out : List ℕ)
    → Bounded (part ends h text out).taken (part ends h text out).written (length text) (length out)
unfolding part replayed
part_bounded ends h text out =
    case (kept h.lines h.held h.waiting h.begun)
    (λ t.
    case (eqb h.waiting 0)
    (λ u.
    case (eqb h.stopped 0) (λ v. rw (t, u, v) (put_bounded _ _ out _ (length text) (omega arith)))
    (λ v. rw (t, u, v) (record { taken_low = omega arith; written_low = omega arith })))
    (λ u. rw (t, u) (put_bounded h _ out 0 (length text) (omega arith))))
    (λ t. rw t (record { taken_low = omega arith; written_low = omega arith }))

-- what a part left is bounded so
pub left_bounded : (ends : Bool) (h : Held) (text out : List ℕ) (p : Parted) → p ≡ part ends h text out
    → Bounded p.taken p.written (length text) (length out)
left_bounded ends h text out p e =
    subst (λ (x : Parted). Bounded x.taken x.written (length text) (length out)) (sym e) (part_bounded ends h text out)
