-- The cases of a walk.
use Rattle.std.specs.Prelude.{Option, Some, Ok, Err}
use Prim.Native.Nat.{ℕ, ◌%◌}
use mathlib.Core.Path.{◌≡◌, ap}
use borrow.Author.Tests.{eq-eqb, ne_eqb}
use Rattle.values.specs.declared.VirtualAddress.{VirtualAddress}
use Rattle.values.specs.declared.Status.TheVariants.{TranslationSection, TranslationPage}
use Rattle.bus.specs.Physical.{Physical}
use Rattle.bus.specs.Reader.{descriptor_at}
use Rattle.walk.specs.Walk.{first_address, second_address, domain_of, section_entry, large_entry, small_entry, first, second, walk}
use Rattle.values.specs.Causes.{cause_from}

module _ (domain : ℕ) (va : VirtualAddress) (w : ℕ) where
  pub second_large : w % 4 ≡ 1 → second domain va (Some w) ≡ Ok (large_entry domain w va)
  unfolding second
  second_large h = rw (eq-eqb (w % 4) 1 h)

  pub second_small : w % 4 ≡ 2 → second domain va (Some w) ≡ Ok (small_entry domain w va)
  unfolding second
  second_small h = rw h

  pub second_none : (w % 4 ≡ 1 → ⊥) → (w % 4 ≡ 2 → ⊥) → second domain va (Some w) ≡ Err (cause_from TranslationPage domain)
  unfolding second
  second_none h k = rw (ne_eqb (w % 4) 1 h, ne_eqb (w % 4) 2 k)

module _ (m : Physical) (va : VirtualAddress) (w : ℕ) where
  pub first_table : w % 4 ≡ 1 → first m va (Some w) ≡ second (domain_of w) va (descriptor_at m (second_address w va))
  unfolding first
  first_table h = rw (eq-eqb (w % 4) 1 h)

  pub first_section : w % 4 ≡ 2 → first m va (Some w) ≡ Ok (section_entry w va)
  unfolding first
  first_section h = rw h

  pub first_none : (w % 4 ≡ 1 → ⊥) → (w % 4 ≡ 2 → ⊥) → first m va (Some w) ≡ Err (cause_from TranslationSection 0)
  unfolding first
  first_none h k = rw (ne_eqb (w % 4) 1 h, ne_eqb (w % 4) 2 k)

-- a walk by its level 1 word
pub walk_by : (m : Physical) (base : ℕ) (va : VirtualAddress) (d : Option ℕ) → descriptor_at m (first_address base va) ≡ d
    → walk m base va ≡ first m va d
unfolding walk
walk_by m base va d e = ap (λ (x : Option ℕ). first m va x) e
