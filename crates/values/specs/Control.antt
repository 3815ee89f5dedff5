-- Register 1, control: its bits.
use Rattle.std.specs.Prelude.{ℕ, ◌+◌, ◌*◌, ◌/◌, ◌%◌, Bool, not, ◌&&◌, ◌||◌}
use Rattle.values.specs.Bits.{bit}
use Rattle.values.specs.declared.Registers.{Registers}

-- "bits 0 M (MMU), 1 A (alignment), 2 C (Dcache), 3 W (buffer), 8 S, 9 R and 12 I"
module _ (r : Registers) where
  abbrev pub mmu : Bool
  mmu = bit r.control 0

  abbrev pub alignment : Bool
  alignment = bit r.control 1

  abbrev pub dcache : Bool
  dcache = bit r.control 2

  abbrev pub write_buffer : Bool
  write_buffer = bit r.control 3

  abbrev pub system : Bool
  system = bit r.control 8

  abbrev pub rom : Bool
  rom = bit r.control 9

-- "are kept ... others read as zero and are ignored on write": bits 0 to 3, 8, 9 and 12
unfoldable pub kept : ℕ → ℕ
kept v = v % 0x10 + v / 0x100 % 4 * 0x100 + v / 0x1000 % 2 * 0x1000

-- "4 to 6 read as one"
unfoldable pub control_read : ℕ → ℕ
control_read c = c + 0x70

-- "Valid combinations (000, table 8): none of M, C, W; M; M and W; all three"
unfoldable pub listed : ℕ → Bool
listed v =
    let m = bit v 0 in
    let c = bit v 2 in
    let w = bit v 3 in
    (not m && not c && not w) || (m && not c && not w) || (m && not c && w) || (m && c && w)
