-- Two addresses under one entry: the walk of one finds what the walk of the other found.
use Rattle.std.specs.Prelude.{Some, Ok}
use Prim.Native.Nat.{ℕ, ◌*◌, ◌/◌, ◌%◌}
use native.Mathlib.Omega.{arith}
use mathlib.Core.Bool.{true}
use mathlib.Core.Path.{◌≡◌, sym, ◌∙◌, ap, subst}
use borrow.Author.Tests.{eqb-true}
use Rattle.values.specs.declared.VirtualAddress.{VirtualAddress}
use Rattle.values.specs.declared.Entry.{Entry}
use Rattle.bus.specs.Physical.{Physical}
use Rattle.bus.specs.Reader.{descriptor_at}
use Rattle.walk.specs.Walk.{first_address, second_address, domain_of, section_entry, large_entry, small_entry, walk}
use Rattle.walk.proofs.Finds.{Finds, by_section, by_large, by_small, finds, walk_section, walk_large, walk_small}
use Rattle.tlb.specs.Tlb.{covers}

-- ---- what cover says, by the mapping's size

module _ (a b : VirtualAddress) where
  pub covered_section : (w : ℕ) → covers b (section_entry w a) ≡ true → b.0 / 0x100000 ≡ a.0 / 0x100000
  unfolding covers
  covered_section w h = let e = eqb-true (b.0 / 0x100000 * 0x100000) (a.0 / 0x100000 * 0x100000) h in omega arith

  pub covered_large : (d v : ℕ) → covers b (large_entry d v a) ≡ true → b.0 / 0x10000 ≡ a.0 / 0x10000
  unfolding covers
  covered_large d v h = let e = eqb-true (b.0 / 0x10000 * 0x10000) (a.0 / 0x10000 * 0x10000) h in omega arith

  pub covered_small : (d v : ℕ) → covers b (small_entry d v a) ≡ true → b.0 / 0x1000 ≡ a.0 / 0x1000
  unfolding covers
  covered_small d v h = let e = eqb-true (b.0 / 0x1000 * 0x1000) (a.0 / 0x1000 * 0x1000) h in omega arith

  -- ---- the words that the two walks read

  -- the same level 1 word
  pub first_address_same : (base : ℕ) → b.0 / 0x100000 ≡ a.0 / 0x100000 → first_address base b ≡ first_address base a
  first_address_same base h = rw h

  -- the same level 2 word, or one of the same aligned group of sixteen
  pub second_address_same : (w : ℕ) → b.0 / 0x1000 ≡ a.0 / 0x1000 → second_address w b ≡ second_address w a
  second_address_same w h = rw h

  pub second_address_group : (w : ℕ) → b.0 / 0x10000 ≡ a.0 / 0x10000 → (second_address w b).0 / 64 ≡ (second_address w a).0 / 64
  second_address_group w h = omega arith

  -- ---- the walk

  module _ (m : Physical) (base : ℕ) (e : Entry) (found : walk m base a ≡ Ok e) (c : covers b e ≡ true) where
    -- for a large page, the level 2 words of the two are equal
    abbrev pub Equal : Type 0
    Equal = (w : ℕ) → descriptor_at m (first_address base a) ≡ Some w → descriptor_at m (second_address w b) ≡ descriptor_at m (second_address w a)

    from_section : (w : ℕ) → descriptor_at m (first_address base a) ≡ Some w → w % 4 ≡ 2 → e ≡ section_entry w a → walk m base b ≡ Ok e
    from_section w d k q =
        let h = covered_section w (subst (λ (x : Entry). covers b x ≡ true) q c) in
        let s : section_entry w b ≡ section_entry w a = rw h in
        walk_section m base b w (ap (descriptor_at m) (first_address_same base h) ∙ d) k ∙ ap Ok (s ∙ sym q)

    from_large : (w v : ℕ) → descriptor_at m (first_address base a) ≡ Some w → w % 4 ≡ 1 → descriptor_at m (second_address w a) ≡ Some v
        → v % 4 ≡ 1 → e ≡ large_entry (domain_of w) v a → Equal → walk m base b ≡ Ok e
    from_large w v d k f j q same =
        let h = covered_large (domain_of w) v (subst (λ (x : Entry). covers b x ≡ true) q c) in
        let g : b.0 / 0x100000 ≡ a.0 / 0x100000 = omega arith in
        let s : large_entry (domain_of w) v b ≡ large_entry (domain_of w) v a = rw h in
        walk_large m base b w v (ap (descriptor_at m) (first_address_same base g) ∙ d) k (same w d ∙ f) j ∙ ap Ok (s ∙ sym q)

    from_small : (w v : ℕ) → descriptor_at m (first_address base a) ≡ Some w → w % 4 ≡ 1 → descriptor_at m (second_address w a) ≡ Some v
        → v % 4 ≡ 2 → e ≡ small_entry (domain_of w) v a → walk m base b ≡ Ok e
    from_small w v d k f j q =
        let h = covered_small (domain_of w) v (subst (λ (x : Entry). covers b x ≡ true) q c) in
        let g : b.0 / 0x100000 ≡ a.0 / 0x100000 = omega arith in
        let s : small_entry (domain_of w) v b ≡ small_entry (domain_of w) v a = rw h in
        walk_small m base b w v (ap (descriptor_at m) (first_address_same base g) ∙ d) k (ap (descriptor_at m) (second_address_same w h) ∙ f) j
        ∙ ap Ok (s ∙ sym q)

    pub covered : (e.size ≡ 1 → Equal) → walk m base b ≡ Ok e
    covered same = go (finds m base a e found)
      where
        go : Finds m base a e → walk m base b ≡ Ok e
        go (by_section w d k q) = from_section w d k q
        go (by_large w v d k f j q) = from_large w v d k f j q (same (ap (λ (x : Entry). x.size) q))
        go (by_small w v d k f j q) = from_small w v d k f j q
