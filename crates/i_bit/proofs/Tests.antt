-- The tests that ask control, on registers and a machine without I: alignment, translation and rights, the state's soundness, the refusals.
use Rattle.std.specs.Prelude.{Option, Some, None, Result, Ok, Err}
use Rattle.std.specs.Prelude.{ℕ}
use mathlib.Core.List.{List}
use mathlib.Core.Path.{◌≡◌, refl, sym, ◌∙◌}
use Rattle.values.specs.Control.{mmu, alignment, dcache, write_buffer, system, rom}
use Rattle.values.specs.declared.VirtualAddress.{VirtualAddress}
use Rattle.values.specs.declared.Registers.{Registers}
use Rattle.values.specs.declared.Access.{Access}
use Rattle.values.specs.declared.Entry.{Entry}
use Rattle.values.specs.declared.Call.{Call}
use Rattle.tlb.specs.Tlb.{lookup}
use Rattle.bus.specs.Physical.{Physical}
use Rattle.translation.specs.Alignment.{cleared}
use Rattle.translation.specs.Translation.{walked_only, of_lookup, translation, checked_by, checked, decided}
use Rattle.translation.specs.Faults.{fills, buffers}
use Rattle.translation.specs.declared.Place.{Place}
use Rattle.translation.specs.declared.Translation.{Translation}
use Rattle.translation.specs.declared.Translation.TheVariants.{Flat, Held, Walked}
use Rattle.machine.specs.Machine.{Machine, physical_of}
use Rattle.soundness.specs.Soundness.{registers_sound, sound}
use Rattle.reach.specs.Reach.{decision}
use Rattle.step.specs.Meets.{refusal}
use Rattle.step.proofs.StateRefusals.{refusal_rows}
use Rattle.i_bit.specs.BitI.{registers_without_i, machine_without_i}
use Rattle.i_bit.proofs.ControlBits.{bit_without, listed_without, kept_without}
use Rattle.values.specs.declared.Cause.{Cause}

module _ (r : Registers) where
  -- M, A, C, W, S and R
  mmu_without : mmu (registers_without_i r) ≡ mmu r
  mmu_without = bit_without r.control 0 0x800 refl

  alignment_without : alignment (registers_without_i r) ≡ alignment r
  alignment_without = bit_without r.control 1 0x400 refl

  dcache_without : dcache (registers_without_i r) ≡ dcache r
  dcache_without = bit_without r.control 2 0x200 refl

  buffer_without : write_buffer (registers_without_i r) ≡ write_buffer r
  buffer_without = bit_without r.control 3 0x100 refl

  system_without : system (registers_without_i r) ≡ system r
  system_without = bit_without r.control 8 8 refl

  rom_without : rom (registers_without_i r) ≡ rom r
  rom_without = bit_without r.control 9 4 refl

  pub fills_without : (p : Place) → fills (registers_without_i r) p ≡ fills r p
  fills_without p = rw (mmu_without, dcache_without)

  pub buffers_without : (p : Place) → buffers (registers_without_i r) p ≡ buffers r p
  buffers_without p = rw (mmu_without, buffer_without)

  module _ (es : List Entry) (memory : Physical) (va : VirtualAddress) where
    lookup_without : (x : Option ℕ) → of_lookup es (registers_without_i r) memory va x ≡ of_lookup es r memory va x
    lookup_without (Some i) = refl
    lookup_without None = refl

    translation_without : translation es (registers_without_i r) memory va ≡ translation es r memory va
    unfolding translation
    translation_without = rw (mmu_without, lookup_without (lookup es va))

  pub walked_without : (memory : Physical) (va : VirtualAddress) → walked_only (registers_without_i r) memory va ≡ walked_only r memory va
  unfolding walked_only
  walked_without memory va = rw mmu_without

  checked_without : (a : Access) (t : Result Translation Cause) → checked (registers_without_i r) a t ≡ checked r a t
  unfolding checked_by
  checked_without a (Ok Flat) = refl
  checked_without a (Ok (Held e)) = rw (system_without, rom_without)
  checked_without a (Ok (Walked e)) = rw (system_without, rom_without)
  checked_without a (Err why) = refl

  pub decided_without : (a : Access) (t : Result Translation Cause) → decided (registers_without_i r) a t ≡ decided r a t
  unfolding decided
  decided_without a t = rw (alignment_without, checked_without a t)

  registers_without : registers_sound (registers_without_i r) ≡ registers_sound r
  unfolding registers_sound
  registers_without = rw (kept_without r.control, listed_without r.control)

module _ (m : Machine) where
  pub decision_without : (a : Access) → decision (machine_without_i m) a ≡ decision m a
  unfolding decision
  decision_without a =
      let r = m.cp15.registers in
      rw (translation_without r m.entries (physical_of m) (cleared a)) (decided_without r a (translation m.entries r (physical_of m) (cleared a)))

  sound_without : sound (machine_without_i m) ≡ sound m
  unfolding sound
  sound_without = rw (registers_without m.cp15.registers)

  pub refusal_without : (c : Call) → refusal (machine_without_i m) c ≡ refusal m c
  refusal_without c = refusal_rows (machine_without_i m) c ∙ rw sound_without (sym (refusal_rows m c))
