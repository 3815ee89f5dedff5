-- The cases of a look, and that what it shows lies inside.
use Rattle.std.specs.Prelude.{Option, Some, None, Result, Ok, Err}
use Prim.Native.Nat.{ℕ, ◌+◌, ◌*◌, ◌/◌, ◌%◌, ◌≤◌}
use native.Mathlib.Omega.{arith}
use mathlib.Core.Path.{◌≡◌, refl, sym, ◌∙◌}
use lib.Dec.{eqb, ltb}
use lib.ListN.{length}
use borrow.Author.Tests.{eq-eqb, ne_eqb, ltb-true, eqb-true}
use Rattle.values.specs.Addresses.{flat}
use Rattle.values.specs.Control.{mmu}
use Rattle.values.specs.declared.VirtualAddress.{VirtualAddress}
use Rattle.values.specs.declared.PhysicalAddress.{PhysicalAddress}
use Rattle.values.proofs.Cases.{case}
use Rattle.walk.specs.Walk.{walk}
use Rattle.tlb.specs.Tlb.{translated}
use Rattle.cache.specs.Dcache.{find}
use Rattle.cache.proofs.Finds.{found}
use Rattle.soundness_test.specs.Meaning.{lines_of}
use Rattle.soundness_laws.proofs.Reader.{sound_means}
use Rattle.step.specs.Meets.{state_refusal}
use Rattle.look.specs.declared.Part.{Part}
use Rattle.look.specs.declared.Part.TheVariants.{Empty}
use Rattle.look.specs.Look.{memory_line, walked_line, found_line, shown, part_bytes, look, Inside}
use Rattle.step.proofs.StateRefusals.{Accepts, accepts}
use Rattle.machine.specs.Machine.{Machine, memory_of, store_of, physical_of}
use Rattle.values.specs.declared.Cause.{Cause}
use Rattle.values.specs.declared.Entry.{Entry}

module _ (m : Machine) (va : VirtualAddress) (n : ℕ) (e : n ≡ state_refusal m) where
  pub shown_refused : (n ≡ 0 → ⊥) → Empty ≡ shown m va
  unfolding shown
  shown_refused z = rw (← e, ne_eqb n 0 z)

  module _ (z : n ≡ 0) where
    pub shown_by : (x : Option ℕ) → x ≡ find m.side.cache.lines va → shown m va ≡ found_line m va x
    unfolding shown
    shown_by x f = rw (← e, eq-eqb n 0 z, f)

    pub base_whole : length (lines_of m) ≡ 512 → m.cp15.registers.base % 0x4000 ≡ 0
    base_whole l = let h = (sound_means m l (accepts m (sym e ∙ z)).is_sound).base in omega arith

-- a memory and a cache store, no longer than some lengths
module _ (long kept : ℕ) where
  memory_inside : (n : ℕ) → n % 32 ≡ 0 → n ≤ long → (pa : PhysicalAddress) → Inside long kept (memory_line n pa)
  memory_inside n whole h pa =
      case (ltb pa.0 n)
      (λ t. let l = ltb-true pa.0 n t in let k : pa.0 / 32 * 32 + 32 ≤ long = omega arith in rw t k)
      (λ f. rw f tt)

  walked_inside : (n : ℕ) → n % 32 ≡ 0 → n ≤ long → (va : VirtualAddress) (x : Result Entry Cause) → Inside long kept (walked_line n va x)
  walked_inside n whole h va (Ok e) = memory_inside n whole h (translated e va)
  walked_inside n whole h va (Err why) = tt

  module _ (m : Machine) (va : VirtualAddress) where
    found_inside : Accepts m → length (memory_of m) ≤ long → 16384 ≤ kept → (x : Option ℕ) → find m.side.cache.lines va ≡ x →
        Inside long kept (found_line m va x)
    found_inside a h k (Some i) f = let l = (found m.side.cache.lines va i f).low in omega arith
    found_inside a h k None f =
        case (mmu m.cp15.registers)
        (λ t. rw t (walked_inside (length (memory_of m)) a.whole h va (walk (physical_of m) m.cp15.registers.base va)))
        (λ t. rw t (memory_inside (length (memory_of m)) a.whole h (flat va)))

    -- what a look shows lies inside
    shown_within : (Accepts m → (length (memory_of m) ≤ long) × (16384 ≤ kept)) → Inside long kept (shown m va)
    unfolding shown
    shown_within h =
        case (eqb (state_refusal m) 0)
        (λ t. let a = accepts m (eqb-true (state_refusal m) 0 t) in rw t (found_inside a (h a).0 (h a).1 (find m.side.cache.lines va) refl))
        (λ f. rw f tt)

module _ (m : Machine) (va : VirtualAddress) where
  -- inside the lent memory and cache store
  shown_inside : Inside (length (memory_of m)) (length (store_of m)) (shown m va)
  shown_inside = shown_within (length (memory_of m)) (length (store_of m)) m va (λ a. (omega arith, omega (arith, a.store)))

  pub part_inside : (x : Part) → x ≡ shown m va → Inside (length (memory_of m)) (length (store_of m)) x
  part_inside x e = rw e shown_inside

  -- the bytes of the part shown are those of a look
  pub look_of : (x : Part) → x ≡ shown m va → part_bytes (memory_of m) (store_of m) x ≡ look m va
  look_of x e = rw e

  -- inside the longest
  shown_low : Inside 0x1000000 16384 (shown m va)
  shown_low = shown_within 0x1000000 16384 m va (λ a. (a.short, omega arith))

  pub part_low : (x : Part) → x ≡ shown m va → Inside 0x1000000 16384 x
  part_low x e = rw e shown_low
