-- What a look shows, as a number.
use Rattle.std.specs.Prelude.{ℕ, ◌+◌, ◌*◌}
use Rattle.trace.specs.Codes.{kind_unit}
use Rattle.look.specs.declared.Part.{Part}
use Rattle.look.specs.declared.Part.TheVariants.{OfStore, OfMemory, Empty}
use Rattle.look.specs.Look.{shown}
use Rattle.machine.specs.Machine.{Machine}

-- 2^32 + the line's offset in the cache store, 2 × 2^32 + its offset in memory, or 0
abbrev pub part_code : Part → ℕ
part_code (OfStore i) = kind_unit + i * 32
part_code (OfMemory i) = 2 * kind_unit + i * 32
part_code Empty = 0

-- a look at a virtual address
abbrev pub look_code : Machine → ℕ → ℕ
look_code m va = part_code (shown m (record { 0 = va }))
