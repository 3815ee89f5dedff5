-- Rows of numbers laid one behind another, and the rows of things.
use Prim.Native.Nat.{ℕ, suc, ◌+◌, ◌*◌, ◌-◌, ◌<◌, ◌≤◌}
use native.Mathlib.Omega.{arith}
use native.Mathlib.Nat.{add-zero, suc-mul}
use native.Mathlib.Numerals.{add-one}
use mathlib.Core.Path.{◌≡◌, refl, sym, ◌∙◌, ap}
use mathlib.Core.List.{List, [], ◌∷◌, ◌++◌}
use lib.ListN.{length, get_or}
use Rattle.printed.specs.Code.{over}
use Rattle.printed.proofs.Laying.{over_none, over_then}
use Rattle.form.specs.Form.{Form, each_numbers}
use Rattle.numbers.specs.Code.{rows_from}

-- ---- the place of a row

module _ (from width at i : ℕ) (e : at ≡ from + i * width) where
  -- the next row's
  pub place_on : at + width ≡ from + (i + 1) * width
  place_on = let q : (i + 1) * width ≡ i * width + width = ap (λ (k : ℕ). k * width) (add-one i) ∙ suc-mul i width in omega arith

  -- it has room, where all rows have
  pub place_room : (n m : ℕ) → i < n → from + n * width ≤ m → at + width ≤ m
  place_room n m h k = let q = place_on in let r : (i + 1) * width ≤ n * width = grind arith in omega arith

-- ---- the loop that lays rows

module _ (rows : ℕ → List ℕ) (n : ℕ) (o x : List ℕ) (at i : ℕ) (g : over o at (rows_from rows i (n - i)) ≡ x) where
  -- the row of thing i, laid
  pub rows_on : (width : ℕ) (p r : List ℕ) → i < n → at + width ≤ length o → p ≡ over o at r → length r ≡ width → r ≡ rows i
      → over p (at + width) (rows_from rows (i + 1) (n - (i + 1))) ≡ x
  unfolding rows_from
  rows_on width p r h room laid long e =
      let rest = rows_from rows (i + 1) (n - (i + 1)) in
      let k : n - i ≡ suc (n - (i + 1)) = omega arith in
      let w : at + width ≡ at + length r = omega arith in
      ap (λ (l : List ℕ). over l (at + width) rest) laid ∙ ap (λ (j : ℕ). over (over o at r) j rest) w ∙ over_then o at r rest (omega arith)
      ∙ ap (λ (l : List ℕ). over o at (l ++ rest)) e ∙ ap (λ (j : ℕ). over o at (rows_from rows i j)) (sym k) ∙ g

  -- none is left
  pub rows_end : n ≤ i → o ≡ x
  unfolding rows_from
  rows_end h =
      let k : n - i ≡ 0 = omega arith in
      sym (over_none o at) ∙ ap (λ (j : ℕ). over o at (rows_from rows i j)) (sym k) ∙ g

-- ---- the rows of things

module _ {A : Type 0} (f : Form A) (d : A) where
  rows_each_from : (rows : ℕ → List ℕ) (xs : List A) (k : ℕ) → ((i : ℕ) → rows (k + i) ≡ f.numbers (get_or xs i d))
      → rows_from rows k (length xs) ≡ each_numbers f xs
  unfolding rows_from each_numbers
  rows_each_from rows [] k h = refl
  rows_each_from rows (x ∷ xs) k h =
      let first : rows k ≡ f.numbers x = ap rows (sym (add-zero k)) ∙ h 0 in
      let rest = rows_each_from rows xs (k + 1) (λ i. let e : k + 1 + i ≡ k + suc i = omega arith in ap rows e ∙ h (suc i)) in
      ap (λ (l : List ℕ). l ++ rows_from rows (k + 1) (length xs)) first ∙ ap (λ (l : List ℕ). f.numbers x ++ l) rest

  -- those of a list's things, as the form has them
  pub rows_each : (xs : List A) (n : ℕ) → length xs ≡ n → rows_from (λ (i : ℕ). f.numbers (get_or xs i d)) 0 n ≡ each_numbers f xs
  rows_each xs n h =
      ap (λ (k : ℕ). rows_from (λ (i : ℕ). f.numbers (get_or xs i d)) 0 k) (sym h)
      ∙ rows_each_from (λ (i : ℕ). f.numbers (get_or xs i d)) xs 0
      (λ i. let e : 0 + i ≡ i = omega arith in ap (λ (k : ℕ). f.numbers (get_or xs k d)) e)
