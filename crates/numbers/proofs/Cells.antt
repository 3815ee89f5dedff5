-- A part of a list, by its elements; numbers of a bit.
use Prim.Native.Nat.{ℕ, zero, suc, ◌+◌, ◌%◌, ◌≤◌, ◌<◌}
use native.Mathlib.Omega.{arith}
use native.Mathlib.Nat.{add-zero}
use native.Mathlib.Numerals.{add-one}
use mathlib.Core.Bool.{Bool, true, false}
use mathlib.Core.Path.{◌≡◌, refl, sym, ◌∙◌, ap}
use mathlib.Core.List.{List, [], ◌∷◌, ◌++◌}
use lib.Dec.{eqb, ltb}
use lib.ListN.{length, get_or, take, drop}
use lib.Seq.{drop-cons}
use borrow.Author.Tests.{ltb-true}
use Rattle.values.specs.Bits.{bit, number}
use Rattle.values.proofs.Cases.{and_left, and_right}
use Rattle.values.proofs.Fields.{bit_number}
use Rattle.form.specs.Form.{Field, fit_in}

-- n elements from a place on
unfoldable pub cells : ℕ → List ℕ → ℕ → List ℕ
cells zero l i = []
cells (suc n) l i = get_or l i 0 ∷ cells n l (i + 1)

-- a part of a list is its elements
pub part_cells : (n : ℕ) (l : List ℕ) (i : ℕ) → i + n ≤ length l → take n (drop i l) ≡ cells n l i
unfolding cells
part_cells zero l i h = refl
part_cells (suc n) l i h =
    ap (λ (x : List ℕ). take (suc n) x) (drop-cons l i 0 (omega arith) ∙ ap (λ (k : ℕ). get_or l i 0 ∷ drop k l) (sym (add-one i)))
    ∙ ap (λ (x : List ℕ). get_or l i 0 ∷ x) (part_cells n l (i + 1) (omega arith))

-- a number below 2 is that of its bit
pub bit_back : (n : ℕ) → n < 2 → number (eqb n 1) ≡ n
bit_back zero h = refl
bit_back (suc zero) h = refl
bit_back (suc (suc n)) h = absurd (omega arith)

-- the lowest bit of a word, as a number
pub bit_low : (w : ℕ) → number (bit w 0) ≡ w % 2
bit_low w = bit_number w 0 ∙ omega arith

-- the bit of a bit's number
pub number_back : (b : Bool) → eqb (number b) 1 ≡ b
number_back true = refl
number_back false = refl

-- numbers that fit: the first, and the others
pub fit_first : {A : Type 0} (f : Field A) (fs : List (Field A)) (n : ℕ) (ns : List ℕ) → fit_in (f ∷ fs) (n ∷ ns) ≡ true → n < f.below
unfolding fit_in
fit_first f fs n ns e = ltb-true n f.below (and_left (ltb n f.below) (fit_in fs ns) e)

pub fit_rest : {A : Type 0} (f : Field A) (fs : List (Field A)) (n : ℕ) (ns : List ℕ) → fit_in (f ∷ fs) (n ∷ ns) ≡ true → fit_in fs ns ≡ true
unfolding fit_in
fit_rest f fs n ns e = and_right (ltb n f.below) (fit_in fs ns) e

-- an element
pub cells_at : (n : ℕ) (l : List ℕ) (i k : ℕ) → k < n → get_or (cells n l i) k 0 ≡ get_or l (i + k) 0
unfolding cells
cells_at zero l i k h = absurd (omega arith)
cells_at (suc n) l i zero h = ap (λ (j : ℕ). get_or l j 0) (sym (add-zero i))
cells_at (suc n) l i (suc k) h =
    let q : i + 1 + k ≡ i + suc k = omega arith in cells_at n l (i + 1) k (omega arith) ∙ ap (λ (j : ℕ). get_or l j 0) q

pub cells_long : (n : ℕ) (l : List ℕ) (i : ℕ) → length (cells n l i) ≡ n
unfolding cells
cells_long zero l i = refl
cells_long (suc n) l i = ap suc (cells_long n l (i + 1))

-- numbers that fit: those behind the first
pub fit_behind : {A : Type 0} (fs gs : List (Field A)) (ns ms : List ℕ) → length fs ≡ length ns → fit_in (fs ++ gs) (ns ++ ms) ≡ true
    → fit_in gs ms ≡ true
fit_behind [] gs [] ms h e = e
fit_behind [] gs (n ∷ ns) ms h e = absurd (omega arith)
fit_behind (f ∷ fs) gs [] ms h e = absurd (omega arith)
fit_behind (f ∷ fs) gs (n ∷ ns) ms h e = fit_behind fs gs ns ms (omega arith) (fit_rest f (fs ++ gs) n (ns ++ ms) e)
