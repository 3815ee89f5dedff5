-- Empty places: "emptied places become all zeros". "registers zero, ... pointers ... zero".
use Rattle.std.specs.Prelude.{false, List, replicate}
use Rattle.values.specs.declared.Entry.{Entry}
use Rattle.values.specs.declared.Line.{Line}
use Rattle.values.specs.declared.Slot.{Slot}

abbrev pub empty_entry : Entry
empty_entry = record { valid = false; size = 0; vbase = 0; pbase = 0; domain = 0; aps = 0; cacheable = false; bufferable = false }

abbrev pub empty_line : Line
empty_line = record { valid = false; tag = 0; frame = 0; low = false; high = false }

-- no TLB entry, and no line
abbrev pub no_entries : List Entry
no_entries = replicate 32 empty_entry

abbrev pub no_lines : List Line
no_lines = replicate 512 empty_line

abbrev pub empty_slot : Slot
empty_slot = record { block = 0; mask = 0; bytes = replicate 16 0 }
