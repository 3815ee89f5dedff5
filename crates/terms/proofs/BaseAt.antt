-- R5 over positions, and by whether the table base is stale: each way.
use Prim.Native.Nat.{ℕ, zero, suc, ◌<◌, ◌≤◌}
use native.Mathlib.Omega.{arith}
use mathlib.Core.Bool.{Bool, true, false, cond, not, ◌&&◌}
use mathlib.Core.Path.{◌≡◌, refl, sym, ◌∙◌, ap}
use mathlib.Core.List.{List}
use lib.Dec.{ltb}
use borrow.Author.Tests.{ltb-true, ltb-false}
use Rattle.values.specs.declared.Call.{Call}
use Rattle.values.proofs.Cases.{case, clash, and_left, and_right, or_none}
use Rattle.terms.specs.History.{History}
use Rattle.terms.specs.Positions as at
use Rattle.terms.specs.Positions.{some}
use Rattle.terms.proofs.Quantified.{given_means, given_true, each_means, each_true, some_short, some_more, some_wider, first_of}
use Rattle.terms.proofs.HistoryAt.{hist, hist_start, stale_next}

module _ (memory bad : List ℕ) (list : List Call) where
  -- the history before call j
  abbrev H : ℕ → History
  H = hist memory bad list

  abbrev base : ℕ → Bool
  base = at.writes_base memory bad list

  abbrev tlb : ℕ → Bool
  tlb = at.flushes_tlb memory bad list

  -- the table base write after which no whole TLB flush came
  abbrev Written : ℕ → Type 0
  Written j = (i : ℕ) × (i < j) × (base i ≡ true) × (some i j tlb ≡ false)

  stale_from : (j : ℕ) → (H j).base_stale ≡ true → Written j
  stale_from zero e = clash {b = false} (ap (λ (h : History). h.base_stale) (sym (hist_start memory bad list)) ∙ e) refl
  stale_from (suc j) e =
      case (base j) (λ t. (j, omega arith, t, some_short tlb j (suc j) (omega arith)))
      (λ t.
      let n = sym (stale_next memory bad list j) ∙ e in
      case (tlb j) (λ u. clash {b = false} (both t u n) refl) (λ u. earlier u (stale_from j (both t u n))))
    where
      both : {x y : Bool} → base j ≡ x → tlb j ≡ y → cond (base j) true (cond (tlb j) false (H j).base_stale) ≡ true
          → cond x true (cond y false (H j).base_stale) ≡ true
      both a b n = rw (← a, ← b) n

      earlier : tlb j ≡ false → Written j → Written (suc j)
      earlier u r =
          let h : r.0 < suc j = omega (arith, r.1) in
          let n : some r.0 (suc j) tlb ≡ false = rw (some_more tlb r.0 j r.1, r.3, u) in
          (r.0, h, r.2, n)

  stale_to : (i j : ℕ) → i < j → base i ≡ true → some i j tlb ≡ false → (H j).base_stale ≡ true
  stale_to i zero b e n = absurd (omega arith)
  stale_to i (suc j) b e n =
      case (ltb i j)
      (λ t.
      let lower = ltb-true i j t in
      let none = or_none (some i j tlb) (tlb j) (sym (some_more tlb i j lower) ∙ n) in
      stale_next memory bad list j ∙ rw (none.1, stale_to i j lower e none.0) (always (base j)))
      (λ t.
      let g = ltb-false i j t in
      let q : i ≡ j = omega arith in
      let here : base j ≡ true = ap base (sym q) ∙ e in
      stale_next memory bad list j ∙ rw here)
    where
      always : (x : Bool) → cond x true true ≡ true
      always true = refl
      always false = refl

  abbrev translates : ℕ → Bool
  translates = at.translates memory bad list

  pub r5_steps : (j : ℕ) → ((f : ℕ) → f ≤ j → at.r5 memory bad list f ≡ true) → translates j ≡ true → (H j).base_stale ≡ false
  unfolding at.r5
  r5_steps j all e = case (H j).base_stale (λ t. fresh (stale_from j t)) (λ t. t)
    where
      -- the first translated access after the write
      next : (i f : ℕ) → base i ≡ true → i < f → f ≤ j → translates f ≡ true → some i f translates ≡ false → some i f tlb ≡ true
      next i f w b c x n = given_means (base i && (translates f && not (some i f translates))) (some i f tlb) (each_means _ f (all f c) i b) (rw (w, x, n))

      fresh : Written j → (H j).base_stale ≡ false
      fresh r =
          case (some r.0 j translates)
          (λ t.
          let f = first_of translates r.0 j t in
          let c : f.0 ≤ j = omega (arith, f.2) in
          clash (some_wider tlb r.0 f.0 j c (next r.0 f.0 r.2 f.1 c f.3 f.4)) r.3)
          (λ t. clash (next r.0 j r.2 r.1 (omega arith) e t) r.3)

  pub steps_r5 : (j : ℕ) → (translates j ≡ true → (H j).base_stale ≡ false) → at.r5 memory bad list j ≡ true
  unfolding at.r5
  steps_r5 j f =
      each_true _ j
      (λ i h.
      given_true (base i && (translates j && not (some i j translates))) (some i j tlb)
      (λ t.
      let w = and_left (base i) (translates j && not (some i j translates)) t in
      let x = and_left (translates j) (not (some i j translates)) (and_right (base i) (translates j && not (some i j translates)) t) in
      case (some i j tlb) (λ u. u) (λ u. clash (stale_to i j h w u) (f x))))
