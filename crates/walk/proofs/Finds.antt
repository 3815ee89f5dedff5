-- What a walk that found a mapping has read, and the converse.
use Rattle.std.specs.Prelude.{Option, Some, None, Ok}
use Prim.Native.Nat.{ℕ, ◌%◌}
use native.Mathlib.Omega.{arith}
use mathlib.Core.Path.{◌≡◌, refl, sym, ◌∙◌, ap}
use lib.Dec.{eqb}
use borrow.Author.Tests.{eqb-true}
use Rattle.values.specs.declared.VirtualAddress.{VirtualAddress}
use Rattle.values.specs.declared.Entry.{Entry}
use Rattle.values.proofs.Cases.{case}
use Rattle.bus.specs.Physical.{Physical}
use Rattle.bus.specs.Reader.{descriptor_at}
use Rattle.walk.specs.Walk.{first_address, second_address, domain_of, section_entry, large_entry, small_entry, first, second, walk}
use Rattle.walk.proofs.Laws.{second_large, second_small, first_table, first_section, walk_by}

pub data Finds (m : Physical) (base : ℕ) (va : VirtualAddress) (e : Entry) : Type 0 where
  by_section : (w : ℕ) → descriptor_at m (first_address base va) ≡ Some w → w % 4 ≡ 2 → e ≡ section_entry w va → Finds m base va e
  by_large : (w v : ℕ) → descriptor_at m (first_address base va) ≡ Some w → w % 4 ≡ 1 → descriptor_at m (second_address w va) ≡ Some v
      → v % 4 ≡ 1 → e ≡ large_entry (domain_of w) v va → Finds m base va e
  by_small : (w v : ℕ) → descriptor_at m (first_address base va) ≡ Some w → w % 4 ≡ 1 → descriptor_at m (second_address w va) ≡ Some v
      → v % 4 ≡ 2 → e ≡ small_entry (domain_of w) v va → Finds m base va e

module _ (m : Physical) (base : ℕ) (va : VirtualAddress) where
  pub walk_section : (w : ℕ) → descriptor_at m (first_address base va) ≡ Some w → w % 4 ≡ 2 → walk m base va ≡ Ok (section_entry w va)
  walk_section w d k = walk_by m base va (Some w) d ∙ first_section m va w k

  module _ (w v : ℕ) (d : descriptor_at m (first_address base va) ≡ Some w) (k : w % 4 ≡ 1) (f : descriptor_at m (second_address w va) ≡ Some v) where
    to_second : walk m base va ≡ second (domain_of w) va (Some v)
    to_second = walk_by m base va (Some w) d ∙ first_table m va w k ∙ ap (λ (x : Option ℕ). second (domain_of w) va x) f

    pub walk_large : v % 4 ≡ 1 → walk m base va ≡ Ok (large_entry (domain_of w) v va)
    walk_large j = to_second ∙ second_large (domain_of w) va v j

    pub walk_small : v % 4 ≡ 2 → walk m base va ≡ Ok (small_entry (domain_of w) v va)
    walk_small j = to_second ∙ second_small (domain_of w) va v j

  module _ (e : Entry) where
    at_second : (w : ℕ) → descriptor_at m (first_address base va) ≡ Some w → w % 4 ≡ 1 → (d : Option ℕ) → descriptor_at m (second_address w va) ≡ d
        → second (domain_of w) va d ≡ Ok e → Finds m base va e
    unfolding second
    at_second w p k None q h = let z : ◌≡◌ {A = ℕ} 0 1 = cc in absurd (omega arith)
    at_second w p k (Some v) q h =
        case (eqb (v % 4) 1)
        (λ t. let f : Ok (large_entry (domain_of w) v va) ≡ Ok e = rw t at h in by_large w v p k q (eqb-true (v % 4) 1 t) (sym (cc)))
        (λ t.
        case (eqb (v % 4) 2)
        (λ u. let f : Ok (small_entry (domain_of w) v va) ≡ Ok e = rw (t, u) at h in by_small w v p k q (eqb-true (v % 4) 2 u) (sym (cc)))
        (λ u. let f = rw (t, u) at h in let z : ◌≡◌ {A = ℕ} 0 1 = cc in absurd (omega arith)))

    at_first : (d : Option ℕ) → descriptor_at m (first_address base va) ≡ d → first m va d ≡ Ok e → Finds m base va e
    unfolding first
    at_first None p h = let z : ◌≡◌ {A = ℕ} 0 1 = cc in absurd (omega arith)
    at_first (Some w) p h =
        case (eqb (w % 4) 1)
        (λ t. at_second w p (eqb-true (w % 4) 1 t) (descriptor_at m (second_address w va)) refl (rw t at h))
        (λ t.
        case (eqb (w % 4) 2)
        (λ u. let f : Ok (section_entry w va) ≡ Ok e = rw (t, u) at h in by_section w p (eqb-true (w % 4) 2 u) (sym (cc)))
        (λ u. let f = rw (t, u) at h in let z : ◌≡◌ {A = ℕ} 0 1 = cc in absurd (omega arith)))

    pub finds : walk m base va ≡ Ok e → Finds m base va e
    finds h = at_first (descriptor_at m (first_address base va)) refl (sym (walk_by m base va (descriptor_at m (first_address base va)) refl) ∙ h)
