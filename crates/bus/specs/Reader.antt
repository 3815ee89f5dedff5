-- "the walk reads memory only, never cache or buffer, through a reader over the lent memory".
use Rattle.std.specs.Prelude.{ℕ}
use Rattle.std.specs.Prelude.{◌*◌, cond, Option, Some, None}
use Rattle.values.specs.Addresses.{word_of}
use Rattle.values.specs.declared.PhysicalAddress.{PhysicalAddress}
use Rattle.words.specs.Words.{value_at}
use Rattle.bus.specs.Physical.{Physical, aborts}

-- the descriptor word of an address, or that it aborts
unfoldable pub descriptor_at : Physical → PhysicalAddress → Option ℕ
descriptor_at m pa = cond (aborts m pa) None (Some (value_at 4 m.bytes (word_of pa * 4)))
