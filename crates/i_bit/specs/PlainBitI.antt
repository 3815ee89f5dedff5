-- "I has no effect here.", of the plain machine: "CP15 calls act on its registers as above".
use Rattle.std.specs.Prelude.{ℕ, List, ◌≡◌}
use Rattle.values.specs.Control.{kept}
use Rattle.values.specs.declared.Registers.{Registers}
use Rattle.values.specs.declared.Transfer.{Transfer}
use Rattle.values.specs.declared.Call.{Call}
use Rattle.values.specs.declared.Call.TheVariants.{Write}
use Rattle.plain.specs.Plain.{Plain, with_registers, plain_next, plain_answered, plain_answers, plain_final}
use Rattle.i_bit.specs.BitI.{number_without_i, registers_without_i, AlikeAnswers, AllAlike}

-- the plain machine with bit 12 of control cleared
abbrev pub plain_without_i : Plain → Plain
plain_without_i p = with_registers p (registers_without_i p.registers)

-- control has only the bits that "are kept", as at the start and after every write: "others read as zero and are ignored on write"
abbrev pub OnlyKept : Registers → Type 0
OnlyKept r = kept r.control ≡ r.control

-- every part the same, but for control's bit 12; of control only bits that are kept
pub record AlikePlains (p₁ p₂ : Plain) : Type 0 where
  pub same : plain_without_i p₁ ≡ plain_without_i p₂
  pub kept₁ : OnlyKept p₁.registers
  pub kept₂ : OnlyKept p₂.registers

-- "I has no effect here.": one call, every list of calls, and two writes of register 1 whose values are the same but for bit 12
pub record PlainBitI : Type 0 where
  pub call : (p₁ p₂ : Plain) → AlikePlains p₁ p₂ → (c : Call)
      → AlikeAnswers c (plain_answered p₁ c) (plain_answered p₂ c) × AlikePlains (plain_next p₁ c) (plain_next p₂ c)
  pub run : (p₁ p₂ : Plain) → AlikePlains p₁ p₂ → (cs : List Call)
      → AllAlike cs (plain_answers p₁ cs) (plain_answers p₂ cs) × AlikePlains (plain_final p₁ cs) (plain_final p₂ cs)
  pub write : (p : Plain) → OnlyKept p.registers → (t : Transfer) → t.register ≡ 1 → (v₁ v₂ : ℕ) → number_without_i v₁ ≡ number_without_i v₂
      → (plain_answered p (Write t v₁) ≡ plain_answered p (Write t v₂)) × AlikePlains (plain_next p (Write t v₁)) (plain_next p (Write t v₂))
