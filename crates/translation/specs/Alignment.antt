-- "Alignment: with A set, a word not at a multiple of 4 or a halfword at an odd address faults. With A clear the low bits are cleared."
use Rattle.std.specs.Prelude.{ℕ, ◌-◌, ◌%◌, Bool, cond, not, ◌&&◌, eqb}
use Rattle.values.specs.declared.VirtualAddress.{VirtualAddress}
use Rattle.values.specs.Control.{alignment}
use Rattle.values.specs.declared.Registers.{Registers}
use Rattle.values.specs.declared.Access.{Access}

-- the low bits of an address, for a width of 1, 2 or 4
abbrev pub low_bits : ℕ → ℕ → ℕ
low_bits width a = cond (eqb width 4) (a % 4) (cond (eqb width 2) (a % 2) 0)

abbrev pub misaligned : Access → Bool
misaligned a = not (eqb (low_bits a.width a.address.0) 0)

-- "with A set, ... faults"
abbrev pub alignment_faults : Registers → Access → Bool
alignment_faults r a = alignment r && misaligned a

-- "With A clear the low bits are cleared."
unfoldable pub cleared : Access → VirtualAddress
cleared a = record { 0 = a.address.0 - low_bits a.width a.address.0 }
