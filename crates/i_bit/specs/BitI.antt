-- "I has no effect here." I is bit 12 of control. Machines that are alike but for it answer each call alike, and are left alike but for it.
use Rattle.std.specs.Prelude.{ℕ, ◌+◌, ◌*◌, ◌/◌, ◌%◌, cond, List, [], ◌∷◌, ◌≡◌, eqb}
use Rattle.values.specs.Registers.{with_control}
use Rattle.values.specs.declared.Registers.{Registers}
use Rattle.values.specs.declared.Transfer.{Transfer}
use Rattle.values.specs.declared.Call.{Call}
use Rattle.values.specs.declared.Call.TheVariants.{Read, Write}
use Rattle.values.specs.declared.Call.TheVariants as calls
use Rattle.values.specs.declared.Answer.{Answer}
use Rattle.values.specs.declared.Answer.TheVariants as answer
use Rattle.machine.specs.Machine.{Machine, with_registers}
use Rattle.step.specs.Run.{next, answered, answers, final}

-- ---- without bit 12

-- a number with bit 12 cleared: bits 13 and up, and bits 0 to 11
unfoldable pub number_without_i : ℕ → ℕ
number_without_i n = n / 0x2000 * 0x2000 + n % 0x1000

-- registers, and a machine, with bit 12 of control cleared
abbrev pub registers_without_i : Registers → Registers
registers_without_i r = with_control r (number_without_i r.control)

abbrev pub machine_without_i : Machine → Machine
machine_without_i m = with_registers m (registers_without_i m.cp15.registers)

-- an answer with bit 12 of its value cleared
abbrev pub value_without_i : Answer → Answer
value_without_i (answer.Value v) = answer.Value (number_without_i v)
value_without_i (answer.Signed z) = answer.Signed z
value_without_i (answer.Fault f) = answer.Fault f
value_without_i (answer.Refused n) = answer.Refused n

-- an answer to a call, with bit 12 cleared of the value that a read of register 1 gives
abbrev pub answer_without_i : Call → Answer → Answer
answer_without_i (calls.Access a) x = x
answer_without_i (Read t) x = cond (eqb t.register 1) (value_without_i x) x
answer_without_i (Write t v) x = x

-- the answers to a list of calls, each so by its call
unfoldable pub answers_without_i : List Call → List Answer → List Answer
answers_without_i [] xs = xs
answers_without_i (c ∷ cs) [] = []
answers_without_i (c ∷ cs) (x ∷ xs) = answer_without_i c x ∷ answers_without_i cs xs

-- ---- alike but for bit 12

-- every part the same, but for control's bit 12
abbrev pub AlikeMachines : Machine → Machine → Type 0
AlikeMachines m₁ m₂ = machine_without_i m₁ ≡ machine_without_i m₂

-- two answers to a call: the same, but for bit 12 of the values that a read of register 1 gives
abbrev pub AlikeAnswers : Call → Answer → Answer → Type 0
AlikeAnswers c x₁ x₂ = answer_without_i c x₁ ≡ answer_without_i c x₂

-- two lists of answers to a list of calls: alike, call by call
abbrev pub AllAlike : List Call → List Answer → List Answer → Type 0
AllAlike cs xs₁ xs₂ = answers_without_i cs xs₁ ≡ answers_without_i cs xs₂

-- "I has no effect here."
pub record BitI : Type 0 where
  -- one call
  pub call : (m₁ m₂ : Machine) → AlikeMachines m₁ m₂ → (c : Call)
      → AlikeAnswers c (answered m₁ c) (answered m₂ c) × AlikeMachines (next m₁ c) (next m₂ c)
  -- every list of calls
  pub run : (m₁ m₂ : Machine) → AlikeMachines m₁ m₂ → (cs : List Call)
      → AllAlike cs (answers m₁ cs) (answers m₂ cs) × AlikeMachines (final m₁ cs) (final m₂ cs)
  -- two writes of register 1, whose values are the same but for bit 12
  pub write : (m : Machine) (t : Transfer) → t.register ≡ 1 → (v₁ v₂ : ℕ) → number_without_i v₁ ≡ number_without_i v₂
      → (answered m (Write t v₁) ≡ answered m (Write t v₂)) × AlikeMachines (next m (Write t v₁)) (next m (Write t v₂))
