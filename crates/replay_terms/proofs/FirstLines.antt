-- The first line of a text and the lines behind it, and a decided first line of a text that goes on.
use Prim.Native.Nat.{ℕ, suc, ◌+◌, ◌≤◌}
use native.Mathlib.Omega.{arith}
use mathlib.Core.Bool.{Bool, true, false, ◌&&◌}
use mathlib.Core.Path.{◌≡◌, refl, ◌∙◌, ap}
use mathlib.Core.List.{List, [], ◌∷◌, ◌++◌, append-nil}
use lib.Dec.{eqb, leb}
use lib.ListN.{length, drop, length-append}
use borrow.Author.Tests.{leb-true}
use Rattle.values.specs.Lists.{any}
use Rattle.values.proofs.Cases.{case, clash, and_left, and_right}
use Rattle.printed.specs.Printed.{line_feed}
use Rattle.fields.specs.Lines.{line_from, onto_line, lines_of, is_line}
use Rattle.fields.specs.Parse.{first_line, size_of, decided}
use Rattle.fields.proofs.First.{first_ended, first_open, first_goes_on, first_within, long_departs}
use Rattle.pieces.specs.Pieces.{is_feed}

-- the lines of a text that has something are its first line and those behind it
pub lines_first : (b : ℕ) (bs : List ℕ) → lines_of (b ∷ bs) ≡ first_line (b ∷ bs) ∷ lines_of (drop (length (first_line (b ∷ bs)).bytes) bs)
unfolding lines_of first_line
lines_first b [] = case (eqb b line_feed) (λ t. rw t) (λ t. rw t)
lines_first b (c ∷ cs) = case (eqb b line_feed) (λ t. rw t) (λ t. rw t (ap (onto_line b) (lines_first c cs)))

-- the same, by how many bytes the line has
pub lines_of_lem : (text : List ℕ) → 1 ≤ length text → lines_of text ≡ first_line text ∷ lines_of (drop (size_of (first_line text)) text)
lines_of_lem [] h = absurd (omega arith)
lines_of_lem (b ∷ bs) h =
    let n = length (first_line (b ∷ bs)).bytes in
    let e : suc n ≡ n + 1 = omega arith in
    lines_first b bs ∙ ap (λ (k : ℕ). first_line (b ∷ bs) ∷ lines_of (drop k (b ∷ bs))) e

-- a first line that has not ended has no line feed
pub open_feedless : (t : List ℕ) → (first_line t).ended ≡ false → any is_feed t ≡ false
unfolding first_line any
open_feedless [] h = refl
open_feedless (b ∷ bs) h =
    case (eqb b line_feed) (λ t. clash {b = true} refl (rw t at h))
    (λ t. let k : (first_line bs).ended ≡ false = rw t at h in rw t (open_feedless bs k))

-- a decided first line: the text has something, and its first line departs or not, whatever comes behind
module _ (ends : Bool) (t z : List ℕ) (none : ends ≡ true → z ≡ []) (no : is_line (first_line t) ≡ false) (d : decided ends t ≡ true) where
  abbrev Departed : Type 0
  Departed = (1 ≤ length (t ++ z)) × (is_line (first_line (t ++ z)) ≡ false)

  pub decided_departs : Departed
  unfolding decided
  decided_departs =
      let l = length-append t z in
      case (first_line t).ended
      (λ e. let i = first_within t e in let f = first_ended t z e in (omega arith, rw f no))
      (λ e.
      let o = first_open t e in
      let f = first_goes_on t z e in
      case (leb 64 (length (first_line t).bytes))
      (λ k.
      let w = leb-true 64 (length (first_line t).bytes) k in
      let v : length (first_line t).bytes ≡ length t = ap length o in
      let u = length-append t (first_line z).bytes in
      (omega arith, rw f (long_departs (line_from (t ++ (first_line z).bytes) (first_line z).ended) (omega arith))))
      (λ k.
      let g : (ends && leb 1 (length t)) ≡ true = rw (e, k) at d in
      let n = none (and_left ends (leb 1 (length t)) g) in
      let w = leb-true 1 (length t) (and_right ends (leb 1 (length t)) g) in
      (omega arith, rw (n, append-nil t) no)))
