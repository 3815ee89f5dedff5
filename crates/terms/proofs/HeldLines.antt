-- Which line holds an address, and that no two lines hold one virtual or one physical line.
use Rattle.std.specs.Prelude.{Some, None}
use Prim.Native.Nat.{ℕ, ◌+◌, ◌*◌, ◌/◌, ◌%◌, ◌<◌, ◌≤◌}
use native.Mathlib.Omega.{arith}
use mathlib.Core.Bool.{Bool, true}
use mathlib.Core.Path.{◌≡◌, sym, ◌∙◌, ap, subst}
use mathlib.Core.List.{List}
use lib.Dec.{eqb, ltb}
use lib.ListN.{get_or-eq_default}
use borrow.Author.Tests.{eq-eqb, ltb-true, ltb-false}
use Rattle.values.specs.Addresses.{virtual_line, set_of, tag_of}
use Rattle.values.specs.Empty.{empty_line}
use Rattle.values.specs.declared.VirtualAddress.{VirtualAddress}
use Rattle.values.specs.declared.Line.{Line}
use Rattle.values.proofs.Cases.{case, clash, and_both}
use Rattle.cache.specs.Dcache.{Dcache, find}
use Rattle.cache.proofs.Finds.{found, missed}
use Rattle.soundness_laws.proofs.CacheKept.{CacheIs}
use Rattle.terms.proofs.Invariant.{at, virtual_at, OneToOne}

module _ (n : ℕ) (c : Dcache) (k : CacheIs n c) where
  abbrev lines : List Line
  lines = c.lines

  -- a valid line is one of the 512
  pub valid_low : (i : ℕ) → (at lines i).valid ≡ true → i < 512
  valid_low i v =
      case (ltb i 512) (λ t. ltb-true i 512 t)
      (λ t.
      let h = ltb-false i 512 t in
      let e : at lines i ≡ empty_line = get_or-eq_default lines empty_line {n = i} (omega (arith, k.shape.lines_long)) in
      clash v (ap (λ (l : Line). l.valid) e))

  -- ---- one virtual line

  less : (i j : ℕ) → i < j → (at lines i).valid ≡ true → (at lines j).valid ≡ true → virtual_at lines i ≡ virtual_at lines j → ⊥
  less i j h v w e =
      let a = valid_low i v in
      let b = valid_low j w in
      let s : i / 32 ≡ j / 32 = omega arith in
      let t : (at lines i).tag ≡ (at lines j).tag = omega arith in
      let x : i / 32 * 32 + i % 32 ≡ i = omega arith in
      let y : i / 32 * 32 + j % 32 ≡ j = omega arith in
      k.apart (i / 32) (i % 32) (j % 32) (omega arith) (omega arith) (omega arith)
      (subst (λ (q : ℕ). (at lines q).valid ≡ true) (sym x) v) (subst (λ (q : ℕ). (at lines q).valid ≡ true) (sym y) w)
      (ap (λ (q : ℕ). (at lines q).tag) x ∙ t ∙ ap (λ (q : ℕ). (at lines q).tag) (sym y))

  pub same_virtual : (i j : ℕ) → (at lines i).valid ≡ true → (at lines j).valid ≡ true → virtual_at lines i ≡ virtual_at lines j → i ≡ j
  same_virtual i j v w e =
      case (ltb i j) (λ t. absurd (less i j (ltb-true i j t) v w e))
      (λ t.
      case (ltb j i) (λ u. absurd (less j i (ltb-true j i u) w v (sym e)))
      (λ u. let a = ltb-false i j t in let b = ltb-false j i u in omega arith))

  -- ---- the line of an address

  module _ (va : VirtualAddress) where
    abbrev line_of : Type 0
    line_of = va.0 / 512 * 16 + va.0 / 32 % 16 ≡ va.0 / 32

    pub found_virtual : (i : ℕ) → find lines va ≡ Some i → virtual_at lines i ≡ virtual_line va
    found_virtual i e =
        let f = found lines va i e in
        let t = f.tag in
        let s = f.in_set in
        let q : line_of = omega arith in
        ap (λ (x : ℕ). x * 16 + i / 32) t ∙ ap (λ (x : ℕ). va.0 / 512 * 16 + x) s ∙ q

    -- the only line of its virtual line
    pub found_only : (i j : ℕ) → find lines va ≡ Some i → (at lines j).valid ≡ true → virtual_at lines j ≡ virtual_line va → j ≡ i
    found_only i j e v q = same_virtual j i v (found lines va i e).valid (q ∙ sym (found_virtual i e))

    pub missed_virtual : (j : ℕ) → find lines va ≡ None → (at lines j).valid ≡ true → virtual_at lines j ≡ virtual_line va → ⊥
    missed_virtual j e v q =
        let b = valid_low j v in
        let t : (at lines j).tag ≡ tag_of va = omega arith in
        let s : j / 32 ≡ set_of va = omega arith in
        clash (and_both (at lines j).valid (eqb (at lines j).tag (tag_of va)) v (eq-eqb (at lines j).tag (tag_of va) t))
        (missed lines va e j (from s) (before s))
      where
        from : j / 32 ≡ set_of va → set_of va * 32 ≤ j
        from s = omega arith

        before : j / 32 ≡ set_of va → j < set_of va * 32 + 32
        before s = omega arith

  -- ---- one physical line

  module _ (reached : ℕ → ℕ → Bool) (one : OneToOne reached)
      (r : (i : ℕ) → (at lines i).valid ≡ true → reached (virtual_at lines i) (at lines i).frame ≡ true) where
    pub same_frame : (i j : ℕ) → (at lines i).valid ≡ true → (at lines j).valid ≡ true → (at lines i).frame ≡ (at lines j).frame → i ≡ j
    same_frame i j v w e =
        same_virtual i j v w
        (one.virtual (virtual_at lines i) (virtual_at lines j) (at lines i).frame (r i v)
        (subst (λ (f : ℕ). reached (virtual_at lines j) f ≡ true) (sym e) (r j w)))

    -- an address that reaches its physical line
    module _ (va : VirtualAddress) (p : ℕ) (here : reached (virtual_line va) p ≡ true) where
      pub found_frame : (i : ℕ) → find lines va ≡ Some i → (at lines i).frame ≡ p
      found_frame i e =
          one.physical (virtual_line va) (at lines i).frame p
          (subst (λ (x : ℕ). reached x (at lines i).frame ≡ true) (found_virtual va i e) (r i (found lines va i e).valid)) here

      pub missed_frame : (j : ℕ) → find lines va ≡ None → (at lines j).valid ≡ true → (at lines j).frame ≡ p → ⊥
      missed_frame j e v q =
          missed_virtual va j e v
          (one.virtual (virtual_at lines j) (virtual_line va) p (subst (λ (x : ℕ). reached (virtual_at lines j) x ≡ true) q (r j v)) here)
