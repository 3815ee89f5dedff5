-- The tests of each and of some position: what they mean, and the last and the first position that meets a test.
use Prim.Native.Nat.{ℕ, zero, suc, ◌<◌, ◌≤◌}
use native.Mathlib.Omega.{arith}
use mathlib.Core.Bool.{Bool, true, false, ◌&&◌, ◌||◌}
use mathlib.Core.Logic.{◌⊎◌, inl, inr}
use mathlib.Core.Path.{◌≡◌, refl, subst}
use lib.Dec.{ltb}
use borrow.Author.Tests.{ltb-true, ltb-false, lt-ltb}
use Rattle.values.proofs.Cases.{case, clash, and_left, and_right, or_left, or_right, or_cases}
use Rattle.terms.specs.Positions.{each, some, given}

-- ---- where the first holds, so does the second

pub given_means : (a b : Bool) → given a b ≡ true → a ≡ true → b ≡ true
given_means true b e p = e
given_means false b e p = clash {b = false} p refl

pub given_true : (a b : Bool) → (a ≡ true → b ≡ true) → given a b ≡ true
given_true true b f = f refl
given_true false b f = refl

module _ (f : ℕ → Bool) where
  -- ---- each position

  pub each_means : (n : ℕ) → each n f ≡ true → (i : ℕ) → i < n → f i ≡ true
  unfolding each
  each_means zero e i h = absurd (omega arith)
  each_means (suc n) e i h =
      case (ltb i n) (λ t. each_means n (and_left (each n f) (f n) e) i (ltb-true i n t))
      (λ t.
      let g = ltb-false i n t in
      let q : n ≡ i = omega arith in
      subst (λ (k : ℕ). f k ≡ true) q (and_right (each n f) (f n) e))

  pub each_true : (n : ℕ) → ((i : ℕ) → i < n → f i ≡ true) → each n f ≡ true
  unfolding each
  each_true zero g = refl
  each_true (suc n) g = rw (each_true n (λ i h. g i (omega arith)), g n (omega arith))

  -- ---- some position after i

  module _ (i : ℕ) where
    -- a position after i and before j that meets the test
    abbrev pub Some : ℕ → Type 0
    Some j = (k : ℕ) × (i < k) × (k < j) × (f k ≡ true)

    pub some_means : (j : ℕ) → some i j f ≡ true → Some j
    unfolding some
    some_means zero e = clash {b = false} e refl
    some_means (suc j) e =
        or_cases (some i j f) (ltb i j && f j) e
        (λ t. let r = some_means j t in let h : r.0 < suc j = omega (arith, r.2) in (r.0, r.1, h, r.3))
        (λ t. (j, ltb-true i j (and_left (ltb i j) (f j) t), omega arith, and_right (ltb i j) (f j) t))

    pub some_true : (j k : ℕ) → i < k → k < j → f k ≡ true → some i j f ≡ true
    unfolding some
    some_true zero k g h e = absurd (omega arith)
    some_true (suc j) k g h e =
        case (ltb k j) (λ t. or_left (some i j f) (ltb i j && f j) (some_true j k g (ltb-true k j t) e))
        (λ t.
        let u = ltb-false k j t in
        let q : k ≡ j = omega arith in
        let r : i < j = omega arith in
        or_right (some i j f) (ltb i j && f j) (rw (lt-ltb i j r, subst (λ (x : ℕ). f x ≡ true) q e)))

    pub some_none : (j k : ℕ) → some i j f ≡ false → i < k → k < j → f k ≡ false
    some_none j k e g h = case (f k) (λ t. clash (some_true j k g h t) e) (λ t. t)

    -- none where there is no place
    pub some_short : (j : ℕ) → j ≤ suc i → some i j f ≡ false
    some_short j h =
        case (some i j f) (λ t. let r = some_means j t in absurd (omega (arith, r.1, r.2))) (λ t. t)

    -- one more position
    pub some_more : (j : ℕ) → i < j → some i (suc j) f ≡ (some i j f || f j)
    unfolding some
    some_more j h = rw (lt-ltb i j h)

    pub some_wider : (j k : ℕ) → j ≤ k → some i j f ≡ true → some i k f ≡ true
    some_wider j k h e = let r = some_means j e in some_true k r.0 r.1 (omega (arith, r.2)) r.3

    -- the first
    pub first_of : (j : ℕ) → some i j f ≡ true → (k : ℕ) × (i < k) × (k < j) × (f k ≡ true) × (some i k f ≡ false)
    unfolding some
    first_of zero e = clash {b = false} e refl
    first_of (suc j) e =
        case (some i j f)
        (λ t. let r = first_of j t in let h : r.0 < suc j = omega (arith, r.2) in (r.0, r.1, h, r.3, r.4))
        (λ t.
        or_cases (some i j f) (ltb i j && f j) e (λ u. clash u t)
        (λ u. (j, ltb-true i j (and_left (ltb i j) (f j) u), omega arith, and_right (ltb i j) (f j) u, t)))

  -- ---- the last before j

  abbrev pub Last : ℕ → Type 0
  Last j = (i : ℕ) × (i < j) × (f i ≡ true) × (some i j f ≡ false)

  pub last_or_none : (j : ℕ) → Last j ⊎ ((k : ℕ) → k < j → f k ≡ false)
  last_or_none zero = inr (λ k h. absurd (omega arith))
  last_or_none (suc j) =
      case (f j) (λ t. inl (j, omega arith, t, some_short j (suc j) (omega arith))) (λ t. earlier t (last_or_none j))
    where
      earlier : f j ≡ false → Last j ⊎ ((k : ℕ) → k < j → f k ≡ false) → Last (suc j) ⊎ ((k : ℕ) → k < suc j → f k ≡ false)
      earlier t (inl r) =
          let h : r.0 < suc j = omega (arith, r.1) in
          let e : some r.0 (suc j) f ≡ false = rw (some_more r.0 j r.1, r.3, t) in
          inl (r.0, h, r.2, e)
      earlier t (inr g) =
          inr
          (λ k h.
          case (ltb k j) (λ u. g k (ltb-true k j u))
          (λ u.
          let v = ltb-false k j u in
          let q : j ≡ k = omega arith in
          subst (λ (x : ℕ). f x ≡ false) q t))
