-- A field, by what was read of its number: each return of the function that reads it.
use Prim.Native.Nat.{ℕ, ◌+◌, ◌-◌, ◌≤◌, ◌<◌}
use native.Mathlib.Omega.{arith}
use mathlib.Core.Bool.{true, false, ◌&&◌}
use mathlib.Core.Path.{◌≡◌, sym, ◌∙◌, ap}
use mathlib.Core.List.{List}
use lib.Dec.{eqb, leb}
use lib.ListN.{length, get_or, drop, get_or-eq_default}
use lib.Seq.{get_or-drop}
use borrow.Author.Tests.{le-leb, lt-leb, eq-eqb, ne_eqb}
use Rattle.std.specs.Prelude.{Some, None}
use Rattle.values.proofs.Cases.{and_both, and-false}
use Rattle.fields.specs.Lines.{value_of}
use Rattle.fields.specs.Code.{digits_of, Reads, field_from, field_at}
use Rattle.fields.specs.declared.Number.{Number}

module _ (text : List ℕ) (from by : ℕ) where
  abbrev ds : List ℕ
  ds = digits_of (drop from text)

  -- the byte behind the digits
  abbrev next : ℕ
  next = get_or (drop from text) (length ds) 0

  pub field_above : Reads ds from None → None ≡ field_at by (drop from text)
  unfolding field_at
  field_above k =
      let e : (leb (value_of ds) 0xFFFFFFFF && eqb next by) ≡ false = rw (lt-leb (value_of ds) 0xFFFFFFFF k) in
      rw (and-false (leb 1 (length ds)) (leb (value_of ds) 0xFFFFFFFF && eqb next by) e)

  module _ (n : Number) (r : Reads ds from (Some n)) where
    pub number_ends : from ≤ n.end
    number_ends = let k = r.2 in omega arith

    pub field_none : n.end ≡ from → None ≡ field_at by (drop from text)
    unfolding field_at
    field_none e = let k = r.2 in let l : length ds < 1 = omega arith in rw (lt-leb 1 (length ds) l)

    behind_is : next ≡ get_or text n.end 0
    behind_is = get_or-drop from text (length ds) 0 ∙ ap (λ (j : ℕ). get_or text j 0) (sym r.2)

    pub field_other : (get_or text n.end 0 ≡ by → ⊥) → None ≡ field_at by (drop from text)
    unfolding field_at
    field_other z =
        let e : eqb next by ≡ false = ne_eqb next by (λ q. z (sym behind_is ∙ q)) in
        let f : (leb 1 (length ds) && (leb (value_of ds) 0xFFFFFFFF && eqb next by)) ≡ false =
        and-false (leb 1 (length ds)) (leb (value_of ds) 0xFFFFFFFF && eqb next by) (and-false (leb (value_of ds) 0xFFFFFFFF) (eqb next by) e)
        in
        rw f

    pub field_end : n.end ≡ length text → 1 ≤ by → None ≡ field_at by (drop from text)
    field_end e k =
        let l : length text ≤ n.end = omega arith in
        let z : get_or text n.end 0 ≡ 0 = get_or-eq_default text 0 l in
        field_other (λ q. absurd (omega arith))

    pub field_good : (n.end ≡ from → ⊥) → get_or text n.end 0 ≡ by → Some (field_from n.value (n.end + 1 - from)) ≡ field_at by (drop from text)
    unfolding field_at
    field_good z q =
        let v = r.1 in
        let k = r.2 in
        let l : 1 ≤ length ds = one (length ds) k in
        let s : n.end + 1 - from ≡ length ds + 1 = omega arith in
        let f : (leb 1 (length ds) && (leb (value_of ds) 0xFFFFFFFF && eqb next by)) ≡ true =
        and_both (leb 1 (length ds)) (leb (value_of ds) 0xFFFFFFFF && eqb next by) (le-leb 1 (length ds) l)
        (and_both (leb (value_of ds) 0xFFFFFFFF) (eqb next by) (le-leb (value_of ds) 0xFFFFFFFF r.0) (eq-eqb next by (behind_is ∙ q)))
        in
        rw (f, s, v)
      where
        one : (m : ℕ) → n.end ≡ from + m → 1 ≤ m
        one m e = omega (arith, z)
