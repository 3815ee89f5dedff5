-- When a first line has ended, or has 64 bytes without an end, by the bytes of the text.
use Prim.Native.Nat.{ℕ, ◌-◌, ◌≤◌, ◌<◌}
use native.Mathlib.Omega.{arith}
use mathlib.Core.Bool.{Bool, true, ◌||◌}
use mathlib.Core.Path.{◌≡◌, refl, ◌∙◌}
use mathlib.Core.List.{List, [], ◌∷◌}
use lib.Dec.{eqb, leb}
use lib.ListN.{length, take, drop, length-drop}
use lib.Seq.{take_all}
use borrow.Author.Tests.{le-leb, lt-leb}
use Rattle.std.specs.List.{list_any}
use Rattle.values.proofs.Cases.{case}
use Rattle.printed.specs.Printed.{line_feed}
use Rattle.fields.specs.Parse.{first_line}
use Rattle.fields.proofs.First.{first_open}

-- a line ends where the text has a line feed
ended_is : (t : List ℕ) → list_any (λ (b : ℕ). eqb b line_feed) t ≡ (first_line t).ended
unfolding first_line
ended_is [] = refl
ended_is (b ∷ bs) = case (eqb b line_feed) (λ u. rw u) (λ u. rw u (ended_is bs))

-- it has 64 bytes without an end, or has ended
abbrev Found : Bool → List ℕ → Type 0
Found b t = b ≡ ((first_line t).ended || leb 64 (length (first_line t).bytes))

module _ (t : List ℕ) where
  long_found : 64 ≤ length t → Found true t
  long_found h = case (first_line t).ended (λ u. rw u) (λ u. rw (u, first_open t u, le-leb 64 (length t) h))

  short_found : length t < 64 → Found (list_any (λ (b : ℕ). eqb b line_feed) t) t
  short_found h = case (first_line t).ended (λ u. rw (ended_is t, u)) (λ u. rw (ended_is t, u, first_open t u, lt-leb 64 (length t) h))

-- the bytes of a text from a place on
module _ (text : List ℕ) (from : ℕ) where
  abbrev rest : List ℕ
  rest = take (length text - from) (drop from text)

  rest_is : rest ≡ drop from text
  rest_is = take_all (length text - from) (drop from text) (let e = length-drop from text in omega arith)

  pub rest_long : 64 ≤ length rest → Found (leb 64 (length rest)) (drop from text)
  rest_long h = le-leb 64 (length rest) h ∙ long_found (drop from text) (rw rest_is at h)

  pub rest_short : length rest < 64 → Found (list_any (λ (b : ℕ). eqb b line_feed) rest) (drop from text)
  rest_short h = rw rest_is (short_found (drop from text) (rw rest_is at h))
