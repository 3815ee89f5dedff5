-- CP15 calls on registers and a machine without I.
use Prim.Native.Nat.{ℕ}
use native.Mathlib.Omega.{arith}
use mathlib.Core.Path.{◌≡◌, ◌∙◌, ap}
use lib.Dec.{eqb}
use borrow.Author.Tests.{eqb-true}
use Rattle.values.specs.Control.{kept}
use Rattle.values.specs.Registers.{with_control}
use Rattle.values.specs.declared.VirtualAddress.{VirtualAddress}
use Rattle.values.specs.declared.Registers.{Registers}
use Rattle.values.specs.declared.Transfer.{Transfer}
use Rattle.values.specs.declared.Call.TheVariants.{Read}
use Rattle.values.specs.declared.Answer.TheVariants as answer
use Rattle.values.proofs.Cases.{case}
use Rattle.registers.specs.Registers.{read_of, written_of}
use Rattle.machine.specs.Machine.{Machine, with_registers, answers_zero}
use Rattle.cp15.specs.Operations.{flushes_dcache, flushes_line, cleans_line, drains, flushes_tlb, drops_entries, operated, write}
use Rattle.cp15.proofs.Laws.{no_operation}
use Rattle.i_bit.specs.BitI.{registers_without_i, machine_without_i, AlikeMachines, AlikeAnswers}
use Rattle.i_bit.specs.PlainBitI.{OnlyKept}
use Rattle.i_bit.proofs.ControlBits.{without_twice, read_without}

-- ---- the registers

module _ (r : Registers) where
  pub written_without : (n v : ℕ) → registers_without_i (written_of (registers_without_i r) n v) ≡ registers_without_i (written_of r n v)
  unfolding written_of
  written_without n v =
      let e = without_twice r.control in
      case (eqb n 1)
      (λ t. rw t)
      (λ t.
      case (eqb n 2)
      (λ u. rw (t, u, e))
      (λ u.
      case (eqb n 3)
      (λ w. rw (t, u, w, e))
      (λ w.
      case (eqb n 5)
      (λ x. rw (t, u, w, x, e))
      (λ x. case (eqb n 6) (λ y. rw (t, u, w, x, y, e)) (λ y. rw (t, u, w, x, y, e))))))

  pub read_of_without : OnlyKept r → (t : Transfer)
      → AlikeAnswers (Read t) (answer.Value (read_of (registers_without_i r) t.register)) (answer.Value (read_of r t.register))
  unfolding read_of
  read_of_without k t =
      case (eqb t.register 1)
      (λ h. let e = eqb-true t.register 1 h in rw e (ap answer.Value (read_without r.control k)))
      (λ h. rw h)

-- ---- a machine

module _ (m : Machine) where
  -- the operations of registers 7 and 8 neither ask nor change the registers
  operated_beside : (r : Registers) (t : Transfer) (va : VirtualAddress) → operated (with_registers m r) t va ≡ with_registers (operated m t va) r
  unfolding operated
  operated_beside r t va =
      case (flushes_dcache t)
      (λ f. rw f)
      (λ f.
      case (flushes_line t)
      (λ g. rw (f, g))
      (λ g.
      case (cleans_line t)
      (λ h. rw (f, g, h))
      (λ h.
      case (drains t)
      (λ i. rw (f, g, h, i))
      (λ i.
      case (flushes_tlb t)
      (λ j. rw (f, g, h, i, j))
      (λ j. case (drops_entries t) (λ k. rw (f, g, h, i, j, k)) (λ k. rw (f, g, h, i, j, k)))))))

  pub write_without : (t : Transfer) (v : ℕ) → AlikeMachines (write (machine_without_i m) t v).machine (write m t v).machine
  unfolding write
  write_without t v =
      let r = m.cp15.registers in
      let o = operated m t (record { 0 = v }) in
      ap (λ (x : Machine). machine_without_i (with_registers x (written_of (registers_without_i r) t.register v)))
      (operated_beside (registers_without_i r) t (record { 0 = v }))
      ∙ ap (λ (x : Registers). with_registers o x) (written_without r t.register v)

  pub control_written : (t : Transfer) → t.register ≡ 1 → (v : ℕ)
      → write m t v ≡ answers_zero (with_registers m (with_control m.cp15.registers (kept v)))
  unfolding write written_of
  control_written t e v = rw (no_operation m t (record { 0 = v }) (λ h. omega arith) (λ h. omega arith), e)
