-- "A look, which is no call, shows the 32 bytes of a virtual address's line".
use Rattle.std.specs.Prelude.{ℕ, ◌+◌, ◌*◌, ◌≤◌, cond, List, [], eqb, ltb, length, take, drop, Option, Some, None, Result, Ok, Err}
use Rattle.values.specs.Addresses.{flat, physical_line}
use Rattle.values.specs.Control.{mmu}
use Rattle.values.specs.declared.VirtualAddress.{VirtualAddress}
use Rattle.values.specs.declared.PhysicalAddress.{PhysicalAddress}
use Rattle.walk.specs.Walk.{walk}
use Rattle.tlb.specs.Tlb.{translated}
use Rattle.cache.specs.Dcache.{find}
use Rattle.step.specs.Meets.{state_refusal}
use Rattle.look.specs.declared.Part.{Part}
use Rattle.look.specs.declared.Part.TheVariants.{OfStore, OfMemory, Empty}
use Rattle.machine.specs.Machine.{Machine, memory_of, store_of, physical_of}
use Rattle.values.specs.declared.Cause.{Cause}
use Rattle.values.specs.declared.Entry.{Entry}

-- a line of memory of n bytes, which is a multiple of 32; under a bounds fault "an empty part"
abbrev pub memory_line : ℕ → PhysicalAddress → Part
memory_line n pa = cond (ltb pa.0 n) (OfMemory (physical_line pa)) Empty

-- "otherwise out of memory by a walk past the TLB that changes nothing"; under a walk fault "an empty part"; "rights are not checked"
abbrev pub walked_line : ℕ → VirtualAddress → Result Entry Cause → Part
walked_line n va (Ok e) = memory_line n (translated e va)
walked_line n va (Err why) = Empty

-- "out of the cache store if held there"
abbrev pub found_line : Machine → VirtualAddress → Option ℕ → Part
found_line m va (Some i) = OfStore i
found_line m va None =
    cond (mmu m.cp15.registers) (walked_line (length (memory_of m)) va (walk (physical_of m) m.cp15.registers.base va))
    (memory_line (length (memory_of m)) (flat va))

-- the part shown; "Under 1 to 4 (no number is returned) ... it shows an empty part"; document 02, Five: "A look meets 16 too; only its walk heeds the
-- map."
unfoldable pub shown : Machine → VirtualAddress → Part
shown m va = cond (eqb (state_refusal m) 0) (found_line m va (find m.side.cache.lines va)) Empty

-- the 32 bytes of a line of a list of bytes
abbrev pub line_bytes : List ℕ → ℕ → List ℕ
line_bytes bytes line = take 32 (drop (line * 32) bytes)

-- the bytes of a part; "buffered bytes not shown"
abbrev pub part_bytes : List ℕ → List ℕ → Part → List ℕ
part_bytes memory store (OfStore i) = line_bytes store i
part_bytes memory store (OfMemory i) = line_bytes memory i
part_bytes memory store Empty = []

-- a look
abbrev pub look : Machine → VirtualAddress → List ℕ
look m va = part_bytes (memory_of m) (store_of m) (shown m va)

-- a part lies inside a memory and a cache store of these lengths
abbrev pub Inside : ℕ → ℕ → Part → Type 0
Inside memory store (OfStore i) = i * 32 + 32 ≤ store
Inside memory store (OfMemory i) = i * 32 + 32 ≤ memory
Inside memory store Empty = Unit {0}
