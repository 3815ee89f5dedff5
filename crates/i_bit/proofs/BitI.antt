-- "I has no effect here.", proved.
use Prim.Native.Nat.{ℕ}
use mathlib.Core.Bool.{true, and-false}
use mathlib.Core.List.{List, [], ◌∷◌}
use mathlib.Core.Path.{◌≡◌, refl, sym, ◌∙◌, ap, ap₂}
use lib.Dec.{eqb}
use borrow.Author.Tests.{eqb-true}
use Rattle.values.specs.Control.{kept}
use Rattle.values.specs.Counts.{counted}
use Rattle.values.specs.Registers.{with_control}
use Rattle.values.specs.declared.Transfer.{Transfer}
use Rattle.values.specs.declared.Call.{Call}
use Rattle.values.specs.declared.Call.TheVariants.{Read, Write}
use Rattle.values.specs.declared.Call.TheVariants as calls
use Rattle.values.proofs.Cases.{case, clash}
use Rattle.refusals.specs.Refusals.{row5, call_rows}
use Rattle.refusals.proofs.Rows.{rows_passed}
use Rattle.trace.specs.Fold.{answers_of, final_of}
use Rattle.machine.specs.Machine.{Machine, with_registers, with_counts, Stepped}
use Rattle.soundness.specs.Soundness.{registers_sound, sound}
use Rattle.access.specs.Access.{access}
use Rattle.cp15.specs.Operations.{read, write}
use Rattle.step.specs.Meets.{state_meets, state_refusal, refusal}
use Rattle.step.specs.Call.{done, served}
use Rattle.step.specs.Run.{next, answered, answers, final}
use Rattle.step.proofs.StateRefusals.{accepts, state_numbered, refusal_rows}
use Rattle.i_bit.specs.BitI.{
  number_without_i,
  machine_without_i,
  answer_without_i,
  answers_without_i,
  AlikeMachines,
  AlikeAnswers,
  AllAlike,
  BitI,
}
use Rattle.i_bit.specs.PlainBitI.{OnlyKept}
use Rattle.i_bit.proofs.ControlBits.{without_twice, bit_without, listed_without, kept_alike}
use Rattle.i_bit.proofs.Tests.{refusal_without}
use Rattle.i_bit.proofs.Accesses.{access_without}
use Rattle.i_bit.proofs.Cp15.{read_of_without, write_without, control_written}

-- what a call leaves of two machines: its answers and the machines, alike
abbrev Alike : Call → Stepped → Stepped → Type 0
Alike c s t = AlikeAnswers c s.answer t.answer × AlikeMachines s.machine t.machine

machine_twice : (m : Machine) → machine_without_i (machine_without_i m) ≡ machine_without_i m
machine_twice m = ap (λ (n : ℕ). with_registers m (with_control m.cp15.registers n)) (without_twice m.cp15.registers.control)

-- ---- a call

done_without : (m : Machine) → OnlyKept m.cp15.registers → (c : Call) → Alike c (done (machine_without_i m) c) (done m c)
unfolding read write
done_without m k (calls.Access a) =
    let e = access_without m a in
    (ap (λ (s : Stepped). s.answer) e, ap (λ (s : Stepped). machine_without_i s.machine) e ∙ machine_twice (access m a).machine)
done_without m k (Read t) = (read_of_without m.cp15.registers k t, machine_twice m)
done_without m k (Write t v) = (refl, write_without m t v)

sound_control : (m : Machine) → sound m ≡ true → OnlyKept m.cp15.registers
unfolding sound registers_sound
sound_control m h =
    let c = m.cp15.registers.control in
    case (eqb (kept c) c) (λ t. eqb-true (kept c) c t) (λ t. clash h (rw t (simp and-false)))

module _ (m : Machine) (c : Call) where
  accepted_control : refusal m c ≡ 0 → OnlyKept m.cp15.registers
  unfolding state_refusal
  accepted_control h =
      let k = rows_passed (state_meets m) (row5 m.counts.calls ∷ call_rows c) (state_numbered m) (sym (refusal_rows m c) ∙ h) in
      sound_control m (accepts m k.0).is_sound

  served_without : Alike c (served (machine_without_i m) c) (served m c)
  unfolding served
  served_without =
      rw (refusal_without m c)
      (case (eqb (refusal m c) 0)
      (λ h. rw h (done_without (with_counts m (counted m.counts)) (accepted_control (eqb-true (refusal m c) 0 h)) c))
      (λ h. rw h (refl, machine_twice m)))

-- a call on two machines that are alike
call_alike : (m₁ m₂ : Machine) → AlikeMachines m₁ m₂ → (c : Call) → Alike c (served m₁ c) (served m₂ c)
call_alike m₁ m₂ e c =
    let x = served_without m₁ c in
    let y = served_without m₂ c in (
      sym x.0 ∙ ap (λ (m : Machine). answer_without_i c (answered m c)) e ∙ y.0,
      sym x.1 ∙ ap (λ (m : Machine). machine_without_i (next m c)) e ∙ y.1,
    )

-- ---- a write of control, its value with and without bit 12

module _ (m : Machine) (t : Transfer) (e : t.register ≡ 1) (v : ℕ) where
  refusal_written : refusal m (Write t (number_without_i v)) ≡ refusal m (Write t v)
  unfolding refusal
  refusal_written = rw (bit_without v 7 0x10 refl, listed_without v)

  served_written : Alike (Write t v) (served m (Write t (number_without_i v))) (served m (Write t v))
  unfolding served
  served_written =
      let n = with_counts m (counted m.counts) in
      rw refusal_written
      (case (eqb (refusal m (Write t v)) 0)
      (λ h.
      rw (h, control_written n t e (number_without_i v), control_written n t e v)
      (refl, ap (λ (c : ℕ). with_registers n (with_control m.cp15.registers c)) (kept_alike v)))
      (λ h. rw h (refl, refl)))

write_alike : (m : Machine) (t : Transfer) → t.register ≡ 1 → (v₁ v₂ : ℕ) → number_without_i v₁ ≡ number_without_i v₂
    → (answered m (Write t v₁) ≡ answered m (Write t v₂)) × AlikeMachines (next m (Write t v₁)) (next m (Write t v₂))
write_alike m t r v₁ v₂ e =
    let x = served_written m t r v₁ in
    let y = served_written m t r v₂ in (
      sym x.0 ∙ ap (λ (v : ℕ). answered m (Write t v)) e ∙ y.0,
      sym x.1 ∙ ap (λ (v : ℕ). machine_without_i (next m (Write t v))) e ∙ y.1,
    )

-- ---- a list of calls

run_alike : (m₁ m₂ : Machine) → AlikeMachines m₁ m₂ → (cs : List Call)
    → AllAlike cs (answers m₁ cs) (answers m₂ cs) × AlikeMachines (final m₁ cs) (final m₂ cs)
unfolding answers_of final_of answers_without_i
run_alike m₁ m₂ e [] = (refl, e)
run_alike m₁ m₂ e (c ∷ cs) =
    let x = call_alike m₁ m₂ e c in
    let y = run_alike (next m₁ c) (next m₂ c) x.1 cs in
    (ap₂ ◌∷◌ x.0 y.0, y.1)

pub bit_i : BitI
bit_i = record { call = call_alike; run = run_alike; write = write_alike }
