-- R2 over positions, and by the lines reached: each way.
use Prim.Native.Nat.{ℕ, zero, suc, ◌<◌}
use native.Mathlib.Omega.{arith}
use mathlib.Core.Bool.{Bool, true, false, cond, not, ◌&&◌, ◌||◌}
use mathlib.Core.Path.{◌≡◌, refl, sym, ◌∙◌, ap, subst}
use mathlib.Core.List.{List}
use lib.Dec.{eqb, ltb}
use borrow.Author.Tests.{eqb-true, eq-eqb, ltb-true, ltb-false, not-true}
use Rattle.values.specs.declared.Call.{Call}
use Rattle.values.specs.declared.Call.TheVariants.{Read, Write}
use Rattle.values.specs.declared.Call.TheVariants as calls
use Rattle.values.specs.declared.Transfer.{Transfer}
use Rattle.values.proofs.Cases.{case, clash, and_left, and_right, or_right, or_cases, or_none}
use Rattle.plain.specs.Plain.{Plain}
use Rattle.terms.specs.History.{History}
use Rattle.terms.specs.Positions as at
use Rattle.terms.specs.Positions.{some, of_write}
use Rattle.terms.proofs.Quantified.{given_means, given_true, each_means, each_true, some_short, some_more}
use Rattle.terms.proofs.CallHistory.{reach_of}
use Rattle.terms.proofs.HistoryAt.{hist, hist_start, reached_next}

-- a call that reaches a line is no write
reach_no_write : (p : Plain) (h : History) (f : Transfer → ℕ → Bool) (c : Call) → reach_of p h c ≡ true → of_write f c ≡ false
reach_no_write p h f (calls.Access a) e = refl
reach_no_write p h f (Read t) e = refl
reach_no_write p h f (Write t v) e = clash {b = false} e refl

module _ (memory bad : List ℕ) (list : List Call) where
  abbrev served : ℕ → Bool
  served = at.served memory bad list

  abbrev reaches : ℕ → Bool
  reaches = at.reaches memory bad list

  abbrev virtual : ℕ → ℕ
  virtual = at.virtual_at memory bad list

  abbrev line : ℕ → ℕ
  line = at.line_at memory bad list

  -- the history before call j
  abbrev H : ℕ → History
  H = hist memory bad list

  abbrev whole : ℕ → Bool
  whole = at.flushes_dcache memory bad list

  no_flush : (j : ℕ) → reaches j ≡ true → whole j ≡ false
  unfolding at.reaches
  no_flush j r =
      case (served j)
      (λ t. rw t (reach_no_write (at.before memory bad list j) (H j) _ (at.call memory bad list j) (and_right (served j) _ r)))
      (λ t. rw t)

  -- the position at which a virtual line reached a physical line
  abbrev Reached : ℕ → ℕ → ℕ → Type 0
  Reached j v q =
      (i : ℕ) × (i < j) × (reaches i ≡ true) × (v ≡ virtual i) × (q ≡ line i) × (some i j whole ≡ false)

  reached_from : (j v q : ℕ) → (H j).reached v q ≡ true → Reached j v q
  reached_from zero v q e = clash {b = false} (ap (λ (h : History). h.reached v q) (sym (hist_start memory bad list)) ∙ e) refl
  reached_from (suc j) v q e =
      let n = sym (reached_next memory bad list j v q) ∙ e in
      let here = reaches j && (eqb v (virtual j) && eqb q (line j)) in
      case (whole j) (λ t. clash {b = false} (ap (λ (b : Bool). cond b false (here || (H j).reached v q)) (sym t) ∙ n) refl)
      (λ t.
      or_cases here ((H j).reached v q)
      (ap (λ (b : Bool). cond b false (here || (H j).reached v q)) (sym t) ∙ n)
      (λ u.
      let lines = and_right (reaches j) (eqb v (virtual j) && eqb q (line j)) u in (
        j,
        omega arith,
        and_left (reaches j) (eqb v (virtual j) && eqb q (line j)) u,
        eqb-true v (virtual j) (and_left (eqb v (virtual j)) (eqb q (line j)) lines),
        eqb-true q (line j) (and_right (eqb v (virtual j)) (eqb q (line j)) lines),
        some_short whole j (suc j) (omega arith),
      ))
      (λ u. earlier t (reached_from j v q u)))
    where
      earlier : whole j ≡ false → Reached j v q → Reached (suc j) v q
      earlier t r =
          let h : r.0 < suc j = omega (arith, r.1) in
          let n : some r.0 (suc j) whole ≡ false = rw (some_more whole r.0 j r.1, r.5, t) in
          (r.0, h, r.2, r.3, r.4, n)

  reached_to : (i j : ℕ) → i < j → reaches i ≡ true → some i j whole ≡ false
      → (H j).reached (virtual i) (line i) ≡ true
  reached_to i zero b e n = absurd (omega arith)
  reached_to i (suc j) b e n =
      case (ltb i j)
      (λ t.
      let lower = ltb-true i j t in
      let none = or_none (some i j whole) (whole j) (sym (some_more whole i j lower) ∙ n) in
      let g = reached_to i j lower e none.0 in
      let here = reaches j && (eqb (virtual i) (virtual j) && eqb (line i) (line j)) in
      reached_next memory bad list j (virtual i) (line i)
      ∙ rw none.1 (or_right here ((H j).reached (virtual i) (line i)) g))
      (λ t.
      let g = ltb-false i j t in
      let q : i ≡ j = omega arith in
      subst (λ (k : ℕ). (H (suc j)).reached (virtual k) (line k) ≡ true) (sym q)
      (reached_next memory bad list j (virtual j) (line j)
      ∙ here (ap reaches (sym q) ∙ e)))
    where
      here : reaches j ≡ true
          → cond (whole j) false
          ((reaches j
          && (eqb (virtual j) (virtual j) && eqb (line j) (line j)))
          || (H j).reached (virtual j) (line j))
          ≡ true
      here r =
          rw (
            no_flush j r,
            r,
            eq-eqb (virtual j) (virtual j) refl,
            eq-eqb (line j) (line j) refl,
          )

  -- both halves of R2 at j, from what has been reached
  module _ (j : ℕ) where
    abbrev pub Matches : ℕ → ℕ → Type 0
    Matches v q = (v ≡ virtual j → q ≡ line j) × (q ≡ line j → v ≡ virtual j)

    pub r2_steps : at.r2_physical memory bad list j ≡ true → at.r2_virtual memory bad list j ≡ true
        → (v q : ℕ) → reaches j ≡ true → (H j).reached v q ≡ true → Matches v q
    unfolding at.r2_physical at.r2_virtual
    r2_steps a b v q e t =
        let r = reached_from j v q t in
        let i = r.0 in
        let both : at.both_reach memory bad list i j ≡ true = rw (r.2, e, r.5) in
        let same : eqb (line i) (line j) ≡ true → eqb (virtual i) (virtual j) ≡ true =
        λ u. given_means (at.both_reach memory bad list i j && eqb (line i) (line j)) (eqb (virtual i) (virtual j))
        (each_means _ j a i r.1) (rw (both, u)) in
        let alike : eqb (virtual i) (virtual j) ≡ true → eqb (line i) (line j) ≡ true =
        λ u. given_means (at.both_reach memory bad list i j && eqb (virtual i) (virtual j)) (eqb (line i) (line j))
        (each_means _ j b i r.1) (rw (both, u)) in (
          λ x. r.4 ∙ eqb-true (line i) (line j) (alike (eq-eqb (virtual i) (virtual j) (sym r.3 ∙ x))),
          λ x. r.3 ∙ eqb-true (virtual i) (virtual j) (same (eq-eqb (line i) (line j) (sym r.4 ∙ x))),
        )

    module _ (f : (v q : ℕ) → reaches j ≡ true → (H j).reached v q ≡ true → Matches v q) where
      -- two calls that reach their lines
      matches : (i : ℕ) → i < j → at.both_reach memory bad list i j ≡ true → Matches (virtual i) (line i)
      matches i h t =
          let u = and_right (reaches i) (reaches j && not (some i j whole)) t in
          f (virtual i) (line i) (and_left (reaches j) (not (some i j whole)) u)
          (reached_to i j h (and_left (reaches i) (reaches j && not (some i j whole)) t)
          (not-true (some i j whole) (and_right (reaches j) (not (some i j whole)) u)))

      pub steps_physical : at.r2_physical memory bad list j ≡ true
      unfolding at.r2_physical
      steps_physical =
          each_true _ j
          (λ i h.
          given_true (at.both_reach memory bad list i j && eqb (line i) (line j)) (eqb (virtual i) (virtual j))
          (λ t.
          eq-eqb (virtual i) (virtual j)
          ((matches i h (and_left (at.both_reach memory bad list i j) (eqb (line i) (line j)) t)).1
          (eqb-true (line i) (line j) (and_right (at.both_reach memory bad list i j) (eqb (line i) (line j)) t)))))

      pub steps_virtual : at.r2_virtual memory bad list j ≡ true
      unfolding at.r2_virtual
      steps_virtual =
          each_true _ j
          (λ i h.
          given_true (at.both_reach memory bad list i j && eqb (virtual i) (virtual j)) (eqb (line i) (line j))
          (λ t.
          eq-eqb (line i) (line j)
          ((matches i h (and_left (at.both_reach memory bad list i j) (eqb (virtual i) (virtual j)) t)).0
          (eqb-true (virtual i) (virtual j) (and_right (at.both_reach memory bad list i j) (eqb (virtual i) (virtual j)) t)))))
