-- A table that a function gives, at an index.
use Prim.Native.Nat.{ℕ, zero, suc, ◌+◌, ◌*◌, ◌/◌, ◌%◌, ◌^◌, ◌<◌}
use native.Mathlib.Omega.{arith}
use native.Mathlib.Nat.{add-zero, zero-add, add-suc, suc-add, le_of_suc-le-suc, not-suc-le-zero}
use mathlib.Core.Bool.{Bool}
use mathlib.Core.Path.{◌≡◌, refl, sym, ◌∙◌, ap}
use lib.Dec.{eqb}
use borrow.Author.Tests.{eqb-true, eqb-false}
use lib.ListN.{length, get_or}
use Rattle.values.specs.Bits.{bit, number}
use Rattle.values.proofs.Cases.{case, number_bit, number_low}
use Rattle.rights.specs.Rights.{tabulated, at_index, rights, rights_table, index_of}

from_at : (f : ℕ → ℕ) (i n k : ℕ) → k < n → get_or (tabulated f i n) k 0 ≡ f (i + k)
from_at f i zero k h = absurd (not-suc-le-zero h)
from_at f i (suc n) zero h = ap f (sym (add-zero i))
from_at f i (suc n) (suc k) h = from_at f (suc i) n k (le_of_suc-le-suc h) ∙ ap f (suc-add i k ∙ sym (add-suc i k))

-- the entry at k is the function's value there
pub entry : (f : ℕ → ℕ) (n k : ℕ) → k < n → get_or (tabulated f 0 n) k 0 ≡ f k
entry f n k h = from_at f 0 n k h ∙ ap f (zero-add k)

-- as many entries as are asked for
pub tabulated_long : (f : ℕ → ℕ) (i n : ℕ) → length (tabulated f i n) ≡ n
tabulated_long f i zero = refl
tabulated_long f i (suc n) = ap suc (tabulated_long f (suc i) n)

-- "index: domain value × 64 + AP × 16 + S × 8 + R × 4 + privileged × 2 + store": the entry there is the function's value of these fields
pub at_index_lem : (f : ℕ → ℕ → Bool → Bool → Bool → Bool → ℕ) (value ap' : ℕ) (s r privileged store : Bool) → value < 4 → ap' < 4
    → get_or (tabulated (at_index f) 0 256) (index_of value ap' s r privileged store) 0 ≡ f value ap' s r privileged store
at_index_lem f value ap' s r privileged store hv ha =
    let i = index_of value ap' s r privileged store in
    let hs = number_low s in
    let hr = number_low r in
    let hp = number_low privileged in
    let hw = number_low store in
    let e0 : i / 64 ≡ value = omega arith in
    let e1 : i / 16 % 4 ≡ ap' = omega arith in
    let e2 : i / 8 % 2 ≡ number s = omega arith in
    let e3 : i / 4 % 2 ≡ number r = omega arith in
    let e4 : i / 2 % 2 ≡ number privileged = omega arith in
    let e5 : i / 1 % 2 ≡ number store = omega arith in
    let f2 : eqb (i / 8 % 2) 1 ≡ s = ap (λ (k : ℕ). eqb k 1) e2 ∙ number_bit s in
    let f3 : eqb (i / 4 % 2) 1 ≡ r = ap (λ (k : ℕ). eqb k 1) e3 ∙ number_bit r in
    let f4 : eqb (i / 2 % 2) 1 ≡ privileged = ap (λ (k : ℕ). eqb k 1) e4 ∙ number_bit privileged in
    let f5 : eqb (i / 1 % 2) 1 ≡ store = ap (λ (k : ℕ). eqb k 1) e5 ∙ number_bit store in
    entry (at_index f) 256 i (omega arith) ∙ rw (e0, e1, f2, f3, f4, f5)

-- in the rights table it is the rule's value
right_at : (value ap' : ℕ) (s r privileged store : Bool) → value < 4 → ap' < 4
    → get_or rights_table (index_of value ap' s r privileged store) 0 ≡ rights value ap' s r privileged store
unfolding rights_table
right_at = at_index_lem rights

-- a bit's number is the bit
pub bit_number : (n k : ℕ) → number (bit n k) ≡ n / 2 ^ k % 2
bit_number n k =
    case (bit n k)
    (λ t. let e : n / 2 ^ k % 2 ≡ 1 = eqb-true (n / 2 ^ k % 2) 1 t in rw (t, e))
    (λ t. let e : n / 2 ^ k % 2 ≡ 0 = below (n / 2 ^ k) (eqb-false (n / 2 ^ k % 2) 1 t) in rw (t, e))
  where
    below : (m : ℕ) → (m % 2 ≡ 1 → ⊥) → m % 2 ≡ 0
    below m h = omega arith

-- the same at the index as the code adds it up
pub right_by : (value ap' control p w : ℕ) (privileged store : Bool) → value < 4 → ap' < 4 → p ≡ number privileged → w ≡ number store
    → get_or rights_table (value * 64 + ap' * 16 + control / 0x100 % 2 * 8 + control / 0x200 % 2 * 4 + p * 2 + w) 0
    ≡ rights value ap' (bit control 8) (bit control 9) privileged store
right_by value ap' control p w privileged store hv ha ep ew =
    let s : number (bit control 8) ≡ control / 0x100 % 2 = bit_number control 8 in
    let r : number (bit control 9) ≡ control / 0x200 % 2 = bit_number control 9 in
    let e : value * 64 + ap' * 16 + control / 0x100 % 2 * 8 + control / 0x200 % 2 * 4 + p * 2 + w
    ≡ index_of value ap' (bit control 8) (bit control 9) privileged store = omega arith in
    ap (λ (k : ℕ). get_or rights_table k 0) e ∙ right_at value ap' (bit control 8) (bit control 9) privileged store hv ha
