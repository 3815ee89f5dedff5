-- A sound machine made of numbers holds what its words can stand for.
use Prim.Native.Nat.{ℕ, ◌<◌, ◌≤◌}
use native.Mathlib.Omega.{arith}
use mathlib.Core.Bool.{true, false, ◌&&◌}
use mathlib.Core.Path.{◌≡◌, refl, sym, ◌∙◌, ap, subst}
use mathlib.Core.List.{List}
use lib.ListN.{length}
use Rattle.values.specs.Empty.{empty_entry}
use Rattle.values.specs.declared.Line.{Line}
use Rattle.values.proofs.Cases.{case, and_right, and-false}
use Rattle.walk.specs.Ranges.{InRange}
use Rattle.values.specs.Lists.{all}
use Rattle.values.specs.declared.Cp15.{Cp15}
use Rattle.state.specs.declared.State.{State}
use Rattle.state.specs.State.{machine_in}
use Rattle.machine.specs.Machine.{Machine, memory_of}
use Rattle.soundness.specs.Soundness.{pointer_sound, tags_sound, entry_sound, line_sound, buffer_sound, registers_sound, counts_sound, sound}
use Rattle.soundness_laws.proofs.Elements.{seven}
use Rattle.soundness_laws.proofs.BufferParts.{buffer_means}
use Rattle.soundness_test.specs.Meaning.{IsSound, entry_at, line_at}
use Rattle.soundness_laws.proofs.Reader.{sound_means}
use Rattle.soundness_laws.proofs.TlbKept.{in_range}
use Rattle.numbers.specs.Text.{Saved, form, machine_with}
use Rattle.numbers.specs.Code.{cache_line, LineHolds, AllHold}
use Rattle.numbers.proofs.Each.{each_long}
use Rattle.numbers.proofs.Whole.{form_thing}

-- the clause of the buffer, of a sound machine
sound_used : (m : Machine) → sound m ≡ true → m.side.backing.buffer.used ≤ 8
unfolding sound
sound_used m h =
    let n = length (memory_of m) in
    let lines = m.side.cache.lines in
    let a = pointer_sound m.cp15.pointer in
    let b = all pointer_sound m.side.cache.pointers in
    let c = tags_sound 16 lines in
    let d = all (line_sound n) lines in
    let e = buffer_sound n m.side.backing.buffer in
    let f = all entry_sound m.entries in
    let g = registers_sound m.cp15.registers in
    let i = counts_sound m.counts lines in
    let s = seven b c d e f g i (and_right a (b && (c && (d && (e && (f && (g && i)))))) h) in
    (buffer_means n m.side.backing.buffer s.fourth).used

-- an empty entry is in range
empty_in_range : InRange empty_entry
empty_in_range =
    record {
      size = omega arith;
      domain = omega arith;
      aps = omega arith;
      vbase = refl;
      vbase_low = omega arith;
      pbase = refl;
      pbase_low = omega arith;
      section = λ h. refl;
      large = λ h. refl;
    }

module _ (m : Machine) (s : IsSound m) where
  entry_holds : (i : ℕ) → InRange (entry_at m i)
  entry_holds i =
      case (entry_at m i).valid
      (λ v. in_range (entry_at m i)
      (record {
        size = s.entry_size i v;
        vbase = s.entry_vbase i v;
        pbase = s.entry_pbase i v;
        vbase_low = s.entry_vbase_low i v;
        pbase_low = s.entry_pbase_low i v;
        domain = s.entry_domain i v;
        aps = s.entry_aps i v;
      }))
      (λ v. subst InRange (sym (s.entry_empty_lem i v)) empty_in_range)

  line_holds : length m.side.backing.memory ≤ 0x1000000 → (i : ℕ) → LineHolds (line_at m i)
  line_holds short i =
      case (line_at m i).valid (λ v. let h = s.line_inside i v in omega arith)
      (λ v. let e : (line_at m i).frame ≡ 0 = ap (λ (l : Line). l.frame) (s.line_empty_lem i v) in omega arith)

-- the lines of numbers are 512
lines_long : (ns : List ℕ) → length (form.thing ns).rest.rest.first ≡ 512
lines_long ns = ap (λ (s : Saved). length s.rest.rest.first) (form_thing ns) ∙ each_long cache_line 512 _

-- numbers that a machine's words cannot stand for are of no sound machine
pub all_hold : (memory bad store ns : List ℕ) → length memory ≤ 0x1000000 → sound (machine_with memory bad store (form.thing ns)) ≡ true
    → AllHold (form.thing ns)
all_hold memory bad store ns short h =
    let m = machine_with memory bad store (form.thing ns) in
    let s = sound_means m (lines_long ns) h in
    record { entries_hold = λ i k. entry_holds m s i; lines_hold = λ i k. line_holds m s short i }

pub unfit_unsound : (memory bad store ns : List ℕ) → length memory ≤ 0x1000000 → (form.fits ns ≡ true → AllHold (form.thing ns) → ⊥)
    → (form.fits ns && sound (machine_with memory bad store (form.thing ns))) ≡ false
unfit_unsound memory bad store ns short z =
    let m = machine_with memory bad store (form.thing ns) in
    case (form.fits ns)
    (λ f. case (sound m) (λ h. absurd (z f (all_hold memory bad store ns short h))) (λ h. and-false (form.fits ns) (sound m) h))
    (λ f. rw f)

-- a sound state has at most eight buffer entries
pub used_low : (memory bad store : List ℕ) (s : State) (r : Cp15) → sound (machine_in memory bad store s r) ≡ true → s.used < 0x100000000
used_low memory bad store s r h = let u = sound_used (machine_in memory bad store s r) h in omega arith
