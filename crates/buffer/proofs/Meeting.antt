-- Whether an entry masks a byte of what is read, by its block and a part of its mask.
use Prim.Native.Nat.{ℕ, zero, suc, ◌+◌, ◌*◌, ◌/◌, ◌%◌, ◌^◌, ◌<◌, ◌≤◌}
use native.Mathlib.Omega.{arith}
use native.Mathlib.Nat.{add-zero, suc-add, zero-add}
use native.Mathlib.Numerals.{add-one}
use mathlib.Core.Bool.{Bool, true, false, not, ◌||◌}
use mathlib.Core.Path.{◌≡◌, refl, sym, ◌∙◌, ap}
use lib.Dec.{eqb}
use lib.Pow.{mod-pow-add, shr-shr}
use borrow.Author.Tests.{eq-eqb, ne_eqb, eqb-true, eqb-false}
use Rattle.values.specs.declared.Slot.{Slot}
use Rattle.values.proofs.Cases.{case}
use Rattle.buffer.specs.Buffer.{masks, meets}

-- one bit more of a number
bits_step : (x n : ℕ) → (eqb (x % 2) 1 || not (eqb (x / 2 % 2 ^ n) 0)) ≡ not (eqb (x % 2 ^ (n + 1)) 0)
bits_step x n =
    let e : x % 2 ^ (n + 1) ≡ x / 2 % 2 ^ n * 2 + x % 2 = mod-pow-add x n 1 in
    go (x % 2) (x / 2 % 2 ^ n) (x % 2 ^ (n + 1)) (omega arith) e
  where
    go : (b y z : ℕ) → b < 2 → z ≡ y * 2 + b → (eqb b 1 || not (eqb y 0)) ≡ not (eqb z 0)
    go b y z h e =
        case (eqb b 1)
        (λ t. let f : z ≡ 0 → ⊥ = λ q. (let u = eqb-true b 1 t in omega arith) in rw (t, ne_eqb z 0 f))
        (λ t.
        case (eqb y 0)
        (λ u. let f : z ≡ 0 = (let v = eqb-false b 1 t in let w = eqb-true y 0 u in omega arith) in rw (t, u, eq-eqb z 0 f))
        (λ u. let f : z ≡ 0 → ⊥ = λ q. eqb-false y 0 u (omega arith) in rw (t, u, ne_eqb z 0 f)))

module _ (s : Slot) where
  -- what is read lies in another block
  pub meets_away : (n a : ℕ) → a % 16 + n ≤ 16 → (a / 16 ≡ s.block → ⊥) → meets n a s ≡ false
  unfolding meets
  meets_away zero a h k = refl
  meets_away (suc zero) a h k = rw (ne_eqb (a / 16) s.block k)
  meets_away (suc (suc n)) a h k =
      let e : (a + 1) / 16 ≡ a / 16 = omega arith in
      rw (ne_eqb (a / 16) s.block k) (meets_away (suc n) (a + 1) (omega arith) (λ q. k (sym e ∙ q)))

  -- one byte more, in the entry's block
  here_step : (n a : ℕ) → a / 16 ≡ s.block → meets n (a + 1) s ≡ not (eqb (s.mask / 2 ^ (a % 16) / 2 % 2 ^ n) 0)
      → meets (suc n) a s ≡ not (eqb (s.mask / 2 ^ (a % 16) % 2 ^ suc n) 0)
  unfolding meets
  here_step n a k r =
      let x = s.mask / 2 ^ (a % 16) in
      rw (eq-eqb (a / 16) s.block k)
      (ap (λ (b : Bool). eqb (x % 2) 1 || b) r ∙ bits_step x n ∙ ap (λ (j : ℕ). not (eqb (x % 2 ^ j) 0)) (add-one n))

  -- what is read lies in the entry's block
  pub meets_here : (n a : ℕ) → a % 16 + n ≤ 16 → a / 16 ≡ s.block → meets n a s ≡ not (eqb (s.mask / 2 ^ (a % 16) % 2 ^ n) 0)
  unfolding meets
  meets_here zero a h k = let e : s.mask / 2 ^ (a % 16) % 1 ≡ 0 = omega arith in rw e
  meets_here (suc zero) a h k = here_step zero a k (let e : s.mask / 2 ^ (a % 16) / 2 % 1 ≡ 0 = omega arith in rw e)
  meets_here (suc (suc n)) a h k =
      let o : (a + 1) % 16 ≡ a % 16 + 1 = omega arith in
      let b : (a + 1) / 16 ≡ a / 16 = omega arith in
      here_step (suc n) a k
      (meets_here (suc n) (a + 1) (omega arith) (b ∙ k)
      ∙ ap (λ (i : ℕ). not (eqb (s.mask / 2 ^ i % 2 ^ suc n) 0)) o
      ∙ ap (λ (y : ℕ). not (eqb (y % 2 ^ suc n) 0)) (sym (shr-shr s.mask (a % 16) 1)))

  -- what is read in two parts
  pub meets_split : (m n a : ℕ) → meets (m + n) a s ≡ (meets m a s || meets n (a + m) s)
  unfolding meets
  meets_split zero n a =
      ap (λ (k : ℕ). meets k a s) (zero-add n) ∙ ap (λ (k : ℕ). meets n k s) (sym (add-zero a))
  meets_split (suc m) n a =
      let e : a + 1 + m ≡ a + suc m = omega arith in
      ap (λ (k : ℕ). meets k a s) (suc-add m n)
      ∙ ap (λ (b : Bool). masks s a || b) (meets_split m n (a + 1) ∙ ap (λ (k : ℕ). meets m (a + 1) s || meets n k s) e)
      ∙ or_assoc (masks s a) (meets m (a + 1) s) (meets n (a + suc m) s)
    where
      or_assoc : (x y z : Bool) → (x || (y || z)) ≡ ((x || y) || z)
      or_assoc true y z = refl
      or_assoc false y z = refl

  -- a line's two blocks
  module _ (f : ℕ) where
    halves : meets 32 (f * 32) s ≡ (meets 16 (f * 32) s || meets 16 (f * 32 + 16) s)
    halves = meets_split 16 16 (f * 32)

    pub line_away : (s.block / 2 ≡ f → ⊥) → meets 32 (f * 32) s ≡ false
    line_away k =
        halves
        ∙ rw (meets_away 16 (f * 32) (omega arith) (λ q. k (omega arith)), meets_away 16 (f * 32 + 16) (omega arith) (λ q. k (omega arith)))

    pub line_here : s.block / 2 ≡ f → meets 32 (f * 32) s ≡ not (eqb (s.mask % 0x10000) 0)
    line_here k =
        halves
        ∙ case (eqb (s.block % 2) 0)
        (λ t.
        let e : s.block % 2 ≡ 0 = eqb-true (s.block % 2) 0 t in
        let z : f * 32 % 16 ≡ 0 = omega arith in
        let m : s.mask / 1 ≡ s.mask = omega arith in
        rw (meets_away 16 (f * 32 + 16) (omega arith) (λ q. (absurd (omega arith))))
        (or_false (meets 16 (f * 32) s)
        ∙ meets_here 16 (f * 32) (omega arith) (omega arith)
        ∙ ap (λ (i : ℕ). not (eqb (s.mask / 2 ^ i % 0x10000) 0)) z ∙ ap (λ (y : ℕ). not (eqb (y % 0x10000) 0)) m))
        (λ t.
        let e : s.block % 2 ≡ 1 = (let h = eqb-false (s.block % 2) 0 t in omega arith) in
        let z : (f * 32 + 16) % 16 ≡ 0 = omega arith in
        let m : s.mask / 1 ≡ s.mask = omega arith in
        rw (meets_away 16 (f * 32) (omega arith) (λ q. (absurd (omega arith))))
        (meets_here 16 (f * 32 + 16) (omega arith) (omega arith)
        ∙ ap (λ (i : ℕ). not (eqb (s.mask / 2 ^ i % 0x10000) 0)) z ∙ ap (λ (y : ℕ). not (eqb (y % 0x10000) 0)) m))
      where
        or_false : (b : Bool) → (b || false) ≡ b
        or_false true = refl
        or_false false = refl
