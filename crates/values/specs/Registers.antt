-- "The plain five registers": control, table base, domain values, FSR and FAR, and the registers with one of them replaced.
use Rattle.std.specs.Prelude.{ℕ}
use Rattle.values.specs.declared.Registers.{Registers}
use Rattle.values.specs.declared.Cp15.{Cp15}

abbrev pub registers_from : ℕ → ℕ → ℕ → ℕ → ℕ → Registers
registers_from control base domains fsr far = record { control = control; base = base; domains = domains; fsr = fsr; far = far }

-- "registers zero"
abbrev pub zero_registers : Registers
zero_registers = record { control = 0; base = 0; domains = 0; fsr = 0; far = 0 }

module _ (r : Registers) (v : ℕ) where
  abbrev pub with_control : Registers
  with_control = record { control = v; base = r.base; domains = r.domains; fsr = r.fsr; far = r.far }

  abbrev pub with_base : Registers
  with_base = record { control = r.control; base = v; domains = r.domains; fsr = r.fsr; far = r.far }

  abbrev pub with_domains : Registers
  with_domains = record { control = r.control; base = r.base; domains = v; fsr = r.fsr; far = r.far }

  abbrev pub with_fsr : Registers
  with_fsr = record { control = r.control; base = r.base; domains = r.domains; fsr = v; far = r.far }

  abbrev pub with_far : Registers
  with_far = record { control = r.control; base = r.base; domains = r.domains; fsr = r.fsr; far = v }

-- "The plain five registers and the TLB pointer are one small record"
abbrev pub cp15_from : Registers → ℕ → Cp15
cp15_from registers pointer = record { registers = registers; pointer = pointer }

abbrev pub with_registers_of : Cp15 → Registers → Cp15
with_registers_of c r = cp15_from r c.pointer

abbrev pub with_pointer_of : Cp15 → ℕ → Cp15
with_pointer_of c p = cp15_from c.registers p

abbrev pub zero_cp15 : Cp15
zero_cp15 = cp15_from zero_registers 0
