-- Lines, sets, tags, blocks and words of the two kinds of address.
use Rattle.std.specs.Prelude.{ℕ, ◌+◌, ◌*◌, ◌/◌, ◌%◌}
use Rattle.values.specs.declared.VirtualAddress.{VirtualAddress}
use Rattle.values.specs.declared.PhysicalAddress.{PhysicalAddress}

-- "A line is an address divided by 32"
abbrev pub virtual_line : VirtualAddress → ℕ
virtual_line va = va.0 / 32

abbrev pub physical_line : PhysicalAddress → ℕ
physical_line pa = pa.0 / 32

-- "set VA[8:5], tag VA[31:9]"
abbrev pub set_of : VirtualAddress → ℕ
set_of va = va.0 / 32 % 16

abbrev pub tag_of : VirtualAddress → ℕ
tag_of va = va.0 / 512

-- the address's place in its line of 32 bytes
abbrev pub offset_of : VirtualAddress → ℕ
offset_of va = va.0 % 32

-- "a block number (physical address divided by 16)"
abbrev pub block_of : PhysicalAddress → ℕ
block_of pa = pa.0 / 16

-- the word of four bytes that a physical address lies in
abbrev pub word_of : PhysicalAddress → ℕ
word_of pa = pa.0 / 4

-- which of its line's eight words that is, and the address of its line's word n
abbrev pub word_in_line : PhysicalAddress → ℕ
word_in_line pa = pa.0 / 4 % 8

abbrev pub word_of_line : PhysicalAddress → ℕ → PhysicalAddress
word_of_line pa n = record { 0 = pa.0 / 32 * 32 + n * 4 }

-- "With M clear, addresses are flat"
abbrev pub flat : VirtualAddress → PhysicalAddress
flat va = record { 0 = va.0 }
