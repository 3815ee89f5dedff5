-- A verdict by its number; what comes where no line is that does not depart: each return of the function that decides it.
use Prim.Native.Nat.{ℕ, ◌≤◌, ◌<◌}
use native.Mathlib.Omega.{arith}
use mathlib.Core.Bool.{Bool, true, false, cond, ◌||◌}
use mathlib.Core.Path.{◌≡◌, refl, sym, ◌∙◌}
use mathlib.Core.List.{List}
use lib.Dec.{leb}
use lib.ListN.{length, drop, length-drop}
use borrow.Author.Tests.{le-leb, lt-leb}
use Rattle.fields.specs.Parse.{first_line, decided, departing, open_line, verdict_number}
use Rattle.fields.specs.declared.Verdict.{Verdict}
use Rattle.fields.specs.declared.Verdict.TheVariants.{More, Open, Departs}

-- a verdict is known by its number
pub same_verdict : (v w : Verdict) → verdict_number v ≡ verdict_number w → v ≡ w
same_verdict More More e = refl
same_verdict Open Open e = refl
same_verdict Departs Departs e = refl
same_verdict More Open e = absurd (omega arith)
same_verdict More Departs e = absurd (omega arith)
same_verdict Open More e = absurd (omega arith)
same_verdict Open Departs e = absurd (omega arith)
same_verdict Departs More e = absurd (omega arith)
same_verdict Departs Open e = absurd (omega arith)

module _ (text : List ℕ) (from : ℕ) (long : Bool)
    (e : long ≡ ((first_line (drop from text)).ended || leb 64 (length (first_line (drop from text)).bytes))) where
  pub verdict_long : (ends : Bool) → long ≡ true → departing ≡ cond (decided ends (drop from text)) departing open_line
  unfolding decided
  verdict_long ends t = rw (sym e ∙ t)

  module _ (f : long ≡ false) where
    pub verdict_ends : (ends : Bool) → ends ≡ true → from < length text → departing ≡ cond (decided ends (drop from text)) departing open_line
    unfolding decided
    verdict_ends ends t h =
        let l = length-drop from text in
        rw (sym e ∙ f, t, le-leb 1 (length (drop from text)) (omega arith))

    pub verdict_nothing : (ends : Bool) → length text ≤ from → open_line ≡ cond (decided ends (drop from text)) departing open_line
    unfolding decided
    verdict_nothing true h = let l = length-drop from text in rw (sym e ∙ f, lt-leb 1 (length (drop from text)) (omega arith))
    verdict_nothing false h = rw (sym e ∙ f)

    pub verdict_open : (ends : Bool) → ends ≡ false → open_line ≡ cond (decided ends (drop from text)) departing open_line
    unfolding decided
    verdict_open ends t = rw (sym e ∙ f, t)
