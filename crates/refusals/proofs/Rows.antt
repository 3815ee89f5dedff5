-- The first row met, by cases, and what a call that is not refused meets.
use Prim.Native.Nat.{ℕ, ◌<◌}
use native.Mathlib.Omega.{arith}
use mathlib.Core.Bool.{true, false, not}
use mathlib.Core.Path.{◌≡◌, refl}
use mathlib.Core.List.{List, [], ◌∷◌, ◌++◌}
use lib.Dec.{eqb, ltb}
use borrow.Author.Tests.{ltb-true, not-false}
use Rattle.values.specs.Lists.{all}
use Rattle.values.specs.Rows.{Row, first_met}
use Rattle.values.specs.Control.{listed}
use Rattle.values.specs.declared.Kind.{Kind}
use Rattle.values.specs.declared.Kind.TheVariants.{Load, SignedLoad, Store, Swap}
use Rattle.values.specs.declared.Access.{Access}
use Rattle.values.specs.declared.Transfer.{Transfer}
use Rattle.values.specs.declared.Call.TheVariants.{Write}
use Rattle.values.specs.declared.Call.TheVariants as calls
use Rattle.values.proofs.Cases.{case, and_left, and_right}
use Rattle.words.specs.Words.{is_width}
use Rattle.refusals.specs.Refusals.{refusal_in, row6, row7, row8, row9, row10, row11, row12, width_fits, value_fits, call_refusal}

module _ (r : Row ℕ) (rs : List (Row ℕ)) where
  pub row_met : r.met ≡ true → refusal_in (r ∷ rs) ≡ r.gives
  unfolding first_met
  row_met h = rw h

  pub row_unmet : r.met ≡ false → refusal_in (r ∷ rs) ≡ refusal_in rs
  unfolding first_met
  row_unmet h = rw h

  -- where no row is met, neither the first nor one of the others is
  pub row_passed : 0 < r.gives → refusal_in (r ∷ rs) ≡ 0 → (r.met ≡ false) × (refusal_in rs ≡ 0)
  unfolding first_met
  row_passed p h = case r.met (λ t. let z : r.gives ≡ 0 = rw t at h in absurd (omega arith)) (λ t. (t, rw t at h))

-- every row refuses by a number above 0
abbrev pub Numbered : List (Row ℕ) → Type 0
Numbered rows = all (λ (r : Row ℕ). ltb 0 r.gives) rows ≡ true

-- rows before others: met first, or passed
pub rows_met : (xs ys : List (Row ℕ)) → (refusal_in xs ≡ 0 → ⊥) → refusal_in (xs ++ ys) ≡ refusal_in xs
unfolding first_met
rows_met [] ys z = absurd (z refl)
rows_met (r ∷ rs) ys z = case r.met (λ t. rw t) (λ t. rw t (rows_met rs ys (λ e. z (rw t e))))

pub rows_unmet : (xs ys : List (Row ℕ)) → Numbered xs → refusal_in xs ≡ 0 → refusal_in (xs ++ ys) ≡ refusal_in ys
unfolding first_met all
rows_unmet [] ys p h = refl
rows_unmet (r ∷ rs) ys p h =
    let q = and_right (ltb 0 r.gives) (all (λ (x : Row ℕ). ltb 0 x.gives) rs) p in
    let k = row_passed r rs (ltb-true 0 r.gives (and_left (ltb 0 r.gives) (all (λ (x : Row ℕ). ltb 0 x.gives) rs) p)) h in
    rw k.0 (rows_unmet rs ys q k.1)

pub rows_passed : (xs ys : List (Row ℕ)) → Numbered xs → refusal_in (xs ++ ys) ≡ 0 → (refusal_in xs ≡ 0) × (refusal_in ys ≡ 0)
unfolding first_met all
rows_passed [] ys p h = (refl, h)
rows_passed (r ∷ rs) ys p h =
    let q = and_right (ltb 0 r.gives) (all (λ (x : Row ℕ). ltb 0 x.gives) rs) p in
    let k = row_passed r (rs ++ ys) (ltb-true 0 r.gives (and_left (ltb 0 r.gives) (all (λ (x : Row ℕ). ltb 0 x.gives) rs) p)) h in
    let e = rows_passed rs ys q k.1 in
    (rw k.0 e.0, e.1)

-- a width of a kind is 1, 2 or 4
pub is_width_lem : (k : Kind) (w : ℕ) → width_fits w k ≡ true → is_width w ≡ true
is_width_lem Load w h = h
is_width_lem SignedLoad w h = h
is_width_lem (Store v) w h = h
is_width_lem (Swap v) w h = and_left (is_width w) (not (eqb w 2)) h

-- an access that is not refused has a width, and its value fits it
pub access_accepted : (a : Access) → call_refusal (calls.Access a) ≡ 0 → (is_width a.width ≡ true) × (value_fits a.width a.kind ≡ true)
access_accepted a h =
    let k = row_passed (row6 a) (row7 a ∷ []) (omega arith) h in
    let j = row_passed (row7 a) [] (omega arith) k.1 in
    (is_width_lem a.kind a.width (not-false (width_fits a.width a.kind) k.0), not-false (value_fits a.width a.kind) j.0)

-- a control write that is not refused gives a listed combination
pub write_listed : (t : Transfer) (v : ℕ) → call_refusal (Write t v) ≡ 0 → t.register ≡ 1 → listed v ≡ true
write_listed t v h e =
    let h8 = row_passed (row8 t true v) (row9 t true v ∷ row10 t true v ∷ row11 t true v ∷ row12 t true v ∷ []) (omega arith) h in
    let h9 = row_passed (row9 t true v) (row10 t true v ∷ row11 t true v ∷ row12 t true v ∷ []) (omega arith) h8.1 in
    let h10 = row_passed (row10 t true v) (row11 t true v ∷ row12 t true v ∷ []) (omega arith) h9.1 in
    let h11 = row_passed (row11 t true v) (row12 t true v ∷ []) (omega arith) h10.1 in
    let h12 = row_passed (row12 t true v) [] (omega arith) h11.1 in
    let k : not (listed v) ≡ false = rw e at h12.0 in
    not-false (listed v) k
