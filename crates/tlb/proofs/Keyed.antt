-- A word covers an address where its key is one of the address's keys.
use Prim.Native.Nat.{ℕ, ◌+◌, ◌*◌, ◌/◌, ◌%◌, ◌<◌}
use native.Mathlib.Omega.{arith}
use mathlib.Core.Bool.{true, false}
use mathlib.Core.Path.{◌≡◌, sym, ◌∙◌, ap}
use lib.Dec.{eqb}
use borrow.Author.Tests.{eq-eqb, ne_eqb, eqb-true, eqb-false}
use Rattle.values.specs.declared.VirtualAddress.{VirtualAddress}
use Rattle.values.proofs.Cases.{case}
use Rattle.tlb.specs.Tlb.{covers}
use Rattle.tlb.specs.Packing.{entry_of}
use Rattle.tlb.specs.Keyed.{key_of, keys_of}
use Rattle.tlb.specs.declared.Keys.{Keys}
use Rattle.tlb.proofs.Laws.{covers_invalid, covers_section, covers_large, covers_small}

-- a key has one virtual base, one size and one valid bit
module _ (w base size : ℕ) (h : size < 32) (e : key_of w ≡ base * 0x100000000000 + size * 8 + 1) where
  key_valid : w % 2 ≡ 0 → ⊥
  key_valid z = omega arith

  key_size : w / 8 % 32 ≡ size
  key_size = omega arith

  key_base : w / 0x100000000000 ≡ base
  key_base = omega arith

module _ (va : VirtualAddress) (w : ℕ) (k : Keys) (e : k ≡ keys_of va) where
  pub key_section : key_of w ≡ k.section → covers va (entry_of w) ≡ true
  unfolding keys_of
  key_section h =
      let f : key_of w ≡ va.0 / 0x1000 / 0x100 * 0x100 * 0x100000000000 + 0 * 8 + 1 = let g = h ∙ ap (λ (x : Keys). x.section) e in omega arith in
      let s = key_size w (va.0 / 0x1000 / 0x100 * 0x100) 0 (omega arith) f in
      let b = key_base w (va.0 / 0x1000 / 0x100 * 0x100) 0 (omega arith) f in
      covers_section va w (key_valid w (va.0 / 0x1000 / 0x100 * 0x100) 0 (omega arith) f) s
      ∙ eq-eqb (va.0 / 0x100000 * 0x100000) (w / 0x100000000000 * 0x1000) (omega arith)

  pub key_large : key_of w ≡ k.large → covers va (entry_of w) ≡ true
  unfolding keys_of
  key_large h =
      let f : key_of w ≡ va.0 / 0x1000 / 0x10 * 16 * 0x100000000000 + 1 * 8 + 1 = let g = h ∙ ap (λ (x : Keys). x.large) e in omega arith in
      let s = key_size w (va.0 / 0x1000 / 0x10 * 16) 1 (omega arith) f in
      let b = key_base w (va.0 / 0x1000 / 0x10 * 16) 1 (omega arith) f in
      covers_large va w (key_valid w (va.0 / 0x1000 / 0x10 * 16) 1 (omega arith) f) s
      ∙ eq-eqb (va.0 / 0x10000 * 0x10000) (w / 0x100000000000 * 0x1000) (omega arith)

  pub key_small : key_of w ≡ k.small → covers va (entry_of w) ≡ true
  unfolding keys_of
  key_small h =
      let f : key_of w ≡ va.0 / 0x1000 * 0x100000000000 + 2 * 8 + 1 = let g = h ∙ ap (λ (x : Keys). x.small) e in omega arith in
      let s = key_size w (va.0 / 0x1000) 2 (omega arith) f in
      let b = key_base w (va.0 / 0x1000) 2 (omega arith) f in
      covers_small va w (key_valid w (va.0 / 0x1000) 2 (omega arith) f) (λ z. omega arith) (λ z. omega arith)
      ∙ eq-eqb (va.0 / 0x1000 * 0x1000) (w / 0x100000000000 * 0x1000) (omega arith)

  -- without one of them a word of one of the three sizes does not cover it
  module _ (low : w / 8 % 32 < 3) (p : key_of w ≡ k.section → ⊥) (q : key_of w ≡ k.large → ⊥) (r : key_of w ≡ k.small → ⊥) (v : w % 2 ≡ 0 → ⊥) where
    no_section : w / 8 % 32 ≡ 0 → covers va (entry_of w) ≡ false
    unfolding keys_of
    no_section s =
        covers_section va w v s
        ∙ ne_eqb (va.0 / 0x100000 * 0x100000) (w / 0x100000000000 * 0x1000)
        (λ b. let f : key_of w ≡ va.0 / 0x1000 / 0x100 * 0x10000000000000 + 1 = omega arith in p (f ∙ sym (ap (λ (x : Keys). x.section) e)))

    no_large : w / 8 % 32 ≡ 1 → covers va (entry_of w) ≡ false
    unfolding keys_of
    no_large s =
        covers_large va w v s
        ∙ ne_eqb (va.0 / 0x10000 * 0x10000) (w / 0x100000000000 * 0x1000)
        (λ b. let f : key_of w ≡ va.0 / 0x1000 / 0x10 * 0x1000000000000 + 9 = omega arith in q (f ∙ sym (ap (λ (x : Keys). x.large) e)))

    no_small : (w / 8 % 32 ≡ 0 → ⊥) → (w / 8 % 32 ≡ 1 → ⊥) → covers va (entry_of w) ≡ false
    unfolding keys_of
    no_small s t =
        covers_small va w v s t
        ∙ ne_eqb (va.0 / 0x1000 * 0x1000) (w / 0x100000000000 * 0x1000)
        (λ b. let y : w / 8 % 32 ≡ 2 = two s t in let f : key_of w ≡ va.0 / 0x1000 * 0x100000000000 + 17 = omega arith in
        r (f ∙ sym (ap (λ (x : Keys). x.small) e)))
      where
        two : (w / 8 % 32 ≡ 0 → ⊥) → (w / 8 % 32 ≡ 1 → ⊥) → w / 8 % 32 ≡ 2
        two s t = omega arith

  pub key_none : (entry_of w).size < 3 → (key_of w ≡ k.section → ⊥) → (key_of w ≡ k.large → ⊥) → (key_of w ≡ k.small → ⊥) → covers va (entry_of w) ≡ false
  unfolding entry_of
  key_none low p q r =
      case (eqb (w % 2) 0) (λ t. covers_invalid va w (eqb-true (w % 2) 0 t))
      (λ f. let v = eqb-false (w % 2) 0 f in
      case (eqb (w / 8 % 32) 0) (λ t. no_section low p q r v (eqb-true (w / 8 % 32) 0 t))
      (λ g. let s = eqb-false (w / 8 % 32) 0 g in
      case (eqb (w / 8 % 32) 1) (λ t. no_large low p q r v (eqb-true (w / 8 % 32) 1 t))
      (λ i. no_small low p q r v s (eqb-false (w / 8 % 32) 1 i))))
