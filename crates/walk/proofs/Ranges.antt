-- The mappings that a walk finds are in range.
use Prim.Native.Nat.{ℕ, ◌<◌}
use native.Mathlib.Omega.{arith}
use Rattle.values.specs.declared.VirtualAddress.{VirtualAddress}
use Rattle.walk.specs.Walk.{section_entry, large_entry, small_entry}
use Rattle.walk.specs.Ranges.{InRange}

pub section_ranged : (w : ℕ) (va : VirtualAddress) → w < 0x100000000 → va.0 < 0x100000000 → InRange (section_entry w va)
section_ranged w va hw hv =
    record {
      size = omega arith;
      domain = omega arith;
      aps = omega arith;
      vbase = omega arith;
      vbase_low = omega arith;
      pbase = omega arith;
      pbase_low = omega arith;
      section = λ s. omega arith;
      large = λ s. omega arith;
    }

module _ (domain w : ℕ) (va : VirtualAddress) (hd : domain < 16) (hw : w < 0x100000000) (hv : va.0 < 0x100000000) where
  pub large_ranged : InRange (large_entry domain w va)
  large_ranged =
      record {
        size = omega arith;
        domain = hd;
        aps = omega arith;
        vbase = omega arith;
        vbase_low = omega arith;
        pbase = omega arith;
        pbase_low = omega arith;
        section = λ s. absurd (omega arith);
        large = λ s. omega arith;
      }

  pub small_ranged : InRange (small_entry domain w va)
  small_ranged =
      record {
        size = omega arith;
        domain = hd;
        aps = omega arith;
        vbase = omega arith;
        vbase_low = omega arith;
        pbase = omega arith;
        pbase_low = omega arith;
        section = λ s. absurd (omega arith);
        large = λ s. absurd (omega arith);
      }
