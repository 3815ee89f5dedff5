-- The stage of a line or a word at a position: by the stores, cleans, drains and flushes before it.
use Prim.Native.Nat.{ℕ, zero, suc, ◌<◌, ◌≤◌}
use native.Mathlib.Omega.{arith}
use mathlib.Core.Bool.{Bool, true, false, cond, not, ◌&&◌, ◌||◌}
use mathlib.Core.Logic.{◌⊎◌, inl, inr}
use mathlib.Core.Path.{◌≡◌, refl, sym, ◌∙◌, ap}
use lib.Dec.{ltb}
use borrow.Author.Tests.{ltb-true, ltb-false}
use Rattle.values.proofs.Cases.{case, clash, and_right, or_left, or_cases, or_none}
use Rattle.terms.specs.History.{Stage, never, stored, cleaned, drained, flushed, after_clean, after_drain, after_tlb_flush}
use Rattle.terms.specs.Rules.{is_stored, is_flushed, is_drained}
use Rattle.terms.specs.Positions.{some}
use Rattle.terms.proofs.Quantified.{some_means, some_short, some_more, some_wider, Last, last_or_none}

-- one call: whether it stores, cleans, drains or flushes, of which it does at most one
abbrev pub turned : Bool → Bool → Bool → Bool → Stage → Stage
turned st cl dr fl s = cond st stored (cond cl (after_clean true s) (cond dr (after_drain s) (cond fl (after_tlb_flush s) s)))

abbrev pub alone : Bool → Bool → Bool → Bool
alone cl dr fl = cond cl (not dr && not fl) (not dr || not fl)

-- the stage by what came after the last store
abbrev pub stage_by : Bool → Bool → Bool → Stage
stage_by cl dr fl = cond fl flushed (cond dr drained (cond cl cleaned stored))

turn : (cl dr fl c d f : Bool) → alone cl dr fl ≡ true
    → turned false cl dr fl (stage_by c d f) ≡ stage_by (c || cl) (d || (dr && c)) (f || (fl && d))
turn true true fl c d f e = clash {b = false} e refl
turn true false true c d f e = clash {b = false} e refl
turn false true true c d f e = clash {b = false} e refl
turn true false false c d true e = refl
turn true false false c true false e = refl
turn true false false true false false e = refl
turn true false false false false false e = refl
turn false true false c d true e = refl
turn false true false c true false e = refl
turn false true false true false false e = refl
turn false true false false false false e = refl
turn false false true c d true e = refl
turn false false true c true false e = refl
turn false false true true false false e = refl
turn false false true false false false e = refl
turn false false false c d true e = refl
turn false false false c true false e = refl
turn false false false true false false e = refl
turn false false false false false false e = refl

never_stays : (cl dr fl : Bool) → turned false cl dr fl never ≡ never
never_stays true dr fl = refl
never_stays false true fl = refl
never_stays false false true = refl
never_stays false false false = refl

-- the tests of a stage that a store began
pub stored_by_lem : (c d f : Bool) → is_stored (stage_by c d f) ≡ false → (c || (d || f)) ≡ true
stored_by_lem true d f e = refl
stored_by_lem false true f e = refl
stored_by_lem false false true e = refl
stored_by_lem false false false e = clash {b = true} refl e

pub cleaned_not : (d f : Bool) → is_stored (stage_by true d f) ≡ false
cleaned_not true true = refl
cleaned_not true false = refl
cleaned_not false true = refl
cleaned_not false false = refl

pub drained_by : (c d f : Bool) → is_drained (stage_by c d f) ≡ (d || f)
drained_by c true true = refl
drained_by c true false = refl
drained_by c false true = refl
drained_by true false false = refl
drained_by false false false = refl

pub flushed_by : (c d f : Bool) → is_flushed (stage_by c d f) ≡ f
flushed_by c d true = refl
flushed_by c true false = refl
flushed_by true false false = refl
flushed_by false false false = refl

-- stores, cleans, drains and flushes by position, and the stage before each
module _ (st cl dr fl : ℕ → Bool) (stage : ℕ → Stage) (start : stage 0 ≡ never)
    (next : (j : ℕ) → stage (suc j) ≡ turned (st j) (cl j) (dr j) (fl j) (stage j)) (one : (j : ℕ) → alone (cl j) (dr j) (fl j) ≡ true) where
  -- after i and before j: cleaned; cleaned, then drained; cleaned, drained, then flushed
  abbrev pub cleaned_in : ℕ → ℕ → Bool
  cleaned_in i j = some i j cl

  abbrev pub drained_in : ℕ → ℕ → Bool
  drained_in i j = some i j (λ d. dr d && cleaned_in i d)

  abbrev pub flushed_in : ℕ → ℕ → Bool
  flushed_in i j = some i j (λ t. fl t && drained_in i t)

  -- no store before j
  pub never_at : (j : ℕ) → ((k : ℕ) → k < j → st k ≡ false) → stage j ≡ never
  never_at zero g = start
  never_at (suc j) g =
      let e : turned (st j) (cl j) (dr j) (fl j) (stage j) ≡ turned false (cl j) (dr j) (fl j) never =
      rw (g j (omega arith), never_at j (λ k h. g k (omega arith))) in
      next j ∙ e ∙ never_stays (cl j) (dr j) (fl j)

  -- the last store before j at i
  pub stage_at : (i j : ℕ) → i < j → st i ≡ true → some i j st ≡ false → stage j ≡ stage_by (cleaned_in i j) (drained_in i j) (flushed_in i j)
  stage_at i zero h s n = absurd (omega arith)
  stage_at i (suc j) h s n =
      case (ltb i j) (λ t. let b = ltb-true i j t in later b (λ m. stage_at i j b s m))
      (λ t.
      let g = ltb-false i j t in
      let q : i ≡ j = omega arith in
      let short : suc j ≤ suc i = omega arith in
      let stores : st j ≡ true = ap st (sym q) ∙ s in
      next j ∙ rw (
        stores,
        some_short cl i (suc j) short,
        some_short (λ d. dr d && cleaned_in i d) i (suc j) short,
        some_short (λ t. fl t && drained_in i t) i (suc j) short,
      ))
    where
      later : i < j → (some i j st ≡ false → stage j ≡ stage_by (cleaned_in i j) (drained_in i j) (flushed_in i j))
          → stage (suc j) ≡ stage_by (cleaned_in i (suc j)) (drained_in i (suc j)) (flushed_in i (suc j))
      later b earlier =
          let none = or_none (some i j st) (st j) (sym (some_more st i j b) ∙ n) in
          let e : turned (st j) (cl j) (dr j) (fl j) (stage j)
          ≡ turned false (cl j) (dr j) (fl j) (stage_by (cleaned_in i j) (drained_in i j) (flushed_in i j)) =
          rw (none.1, earlier none.0) in
          let more : stage_by (cleaned_in i (suc j)) (drained_in i (suc j)) (flushed_in i (suc j))
          ≡ stage_by (cleaned_in i j || cl j) (drained_in i j || (dr j && cleaned_in i j)) (flushed_in i j || (fl j && drained_in i j)) =
          rw (some_more cl i j b, some_more (λ d. dr d && cleaned_in i d) i j b, some_more (λ t. fl t && drained_in i t) i j b) in
          next j ∙ e ∙ turn (cl j) (dr j) (fl j) (cleaned_in i j) (drained_in i j) (flushed_in i j) (one j) ∙ sym more

  -- a drain in it follows a clean, and a flush a drain
  drained_cleaned : (i j : ℕ) → drained_in i j ≡ true → cleaned_in i j ≡ true
  drained_cleaned i j e =
      let r = some_means (λ d. dr d && cleaned_in i d) i j e in
      some_wider cl i r.0 j (omega (arith, r.2)) (and_right (dr r.0) (cleaned_in i r.0) r.3)

  flushed_drained : (i j : ℕ) → flushed_in i j ≡ true → drained_in i j ≡ true
  flushed_drained i j e =
      let r = some_means (λ t. fl t && drained_in i t) i j e in
      some_wider (λ d. dr d && cleaned_in i d) i r.0 j (omega (arith, r.2)) (and_right (fl r.0) (drained_in i r.0) r.3)

  -- ---- what the tests of the stage say of the last store before j, at i

  module _ (i j : ℕ) (before : i < j) (stores : st i ≡ true) (last : some i j st ≡ false) where
    abbrev c : Bool
    c = cleaned_in i j

    abbrev d : Bool
    d = drained_in i j

    abbrev f : Bool
    f = flushed_in i j

    is : stage j ≡ stage_by c d f
    is = stage_at i j before stores last

    pub cleaned_since_lem : is_stored (stage j) ≡ false → c ≡ true
    cleaned_since_lem e =
        or_cases c (d || f) (stored_by_lem c d f (ap is_stored (sym is) ∙ e)) (λ t. t)
        (λ t. or_cases d f t (λ u. drained_cleaned i j u) (λ u. drained_cleaned i j (flushed_drained i j u)))

    pub since_cleaned : c ≡ true → is_stored (stage j) ≡ false
    since_cleaned e = ap is_stored is ∙ rw e (cleaned_not d f)

    pub drained_since_lem : is_drained (stage j) ≡ true → d ≡ true
    drained_since_lem e = or_cases d f (sym (drained_by c d f) ∙ ap is_drained (sym is) ∙ e) (λ t. t) (λ t. flushed_drained i j t)

    pub since_drained : d ≡ true → is_drained (stage j) ≡ true
    since_drained e = ap is_drained is ∙ drained_by c d f ∙ or_left d f e

    pub flushed_since_lem : is_flushed (stage j) ≡ true → f ≡ true
    flushed_since_lem e = sym (flushed_by c d f) ∙ ap is_flushed (sym is) ∙ e

    pub since_flushed : f ≡ true → is_flushed (stage j) ≡ true
    since_flushed e = ap is_flushed is ∙ flushed_by c d f ∙ e

  -- a test that holds of a line or word never stored to, and of its last store before j, holds at j
  pub by_last : (test : Stage → Bool) (b : Bool) → test never ≡ b → (j : ℕ) → ((i : ℕ) → i < j → st i ≡ true → some i j st ≡ false → test (stage j) ≡ b)
      → test (stage j) ≡ b
  by_last test b e j g = pick (last_or_none st j)
    where
      pick : Last st j ⊎ ((k : ℕ) → k < j → st k ≡ false) → test (stage j) ≡ b
      pick (inl r) = g r.0 r.1 r.2 r.3
      pick (inr n) = ap test (never_at j n) ∙ e
