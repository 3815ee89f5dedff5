-- The TLB: 32 entries and a pointer.
use Rattle.std.specs.Prelude.{ℕ, ◌+◌, ◌*◌, ◌/◌, ◌%◌, ◌^◌, Bool, cond, ◌&&◌, List, map, eqb, set, Option}
use Rattle.values.specs.Lists.{first_from}
use Rattle.values.specs.Empty.{empty_entry, no_entries}
use Rattle.values.specs.declared.VirtualAddress.{VirtualAddress}
use Rattle.values.specs.declared.PhysicalAddress.{PhysicalAddress}
use Rattle.values.specs.declared.Entry.{Entry}

-- the part of an address that an entry of a size translates: VA[31:20], VA[31:16], VA[31:12]
abbrev pub base_of : ℕ → ℕ → ℕ
base_of size a = cond (eqb size 0) (a / 0x100000 * 0x100000) (cond (eqb size 1) (a / 0x10000 * 0x10000) (a / 0x1000 * 0x1000))

-- the part that it leaves
abbrev pub within_of : ℕ → ℕ → ℕ
within_of size a = cond (eqb size 0) (a % 0x100000) (cond (eqb size 1) (a % 0x10000) (a % 0x1000))

-- an entry covers an address
unfoldable pub covers : VirtualAddress → Entry → Bool
covers va e = e.valid && eqb (base_of e.size va.0) e.vbase

-- "The lowest-numbered TLB entry that covers the address serves."
unfoldable pub lookup : List Entry → VirtualAddress → Option ℕ
lookup entries va = first_from (covers va) 0 entries

-- the physical address that an entry gives
unfoldable pub translated : Entry → VirtualAddress → PhysicalAddress
translated e va = record { 0 = e.pbase + within_of e.size va.0 }

-- "permission by VA[15:14]" (large page), "permission by VA[11:10]" (small page); AP0 serves a section
abbrev pub quarter_of : ℕ → ℕ → ℕ
quarter_of size a = cond (eqb size 0) 0 (cond (eqb size 1) (a / 0x4000 % 4) (a / 0x400 % 4))

unfoldable pub ap_of : Entry → VirtualAddress → ℕ
ap_of e va = e.aps / 2 ^ (2 * quarter_of e.size va.0) % 4

-- "A valid mapping goes to the TLB at its pointer, which then steps round the 32"
unfoldable pub placed : List Entry → ℕ → Entry → List Entry
placed entries pointer e = set entries pointer e

abbrev pub stepped : ℕ → ℕ
stepped pointer = (pointer + 1) % 32

-- "(0,7) and (0,6) flush the TLB"; "emptied places become all zeros, pointers ... stay"
unfoldable pub flushed : List Entry
flushed = no_entries

-- "(1,6) drops every entry covering the address"
abbrev pub kept_of : VirtualAddress → Entry → Entry
kept_of va e = cond (covers va e) empty_entry e

unfoldable pub dropped : List Entry → VirtualAddress → List Entry
dropped entries va = map (kept_of va) entries
