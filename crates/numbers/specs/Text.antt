-- Document 02, Four: "The state is to be stored as text". The form of the text, and the text of a machine.
use Rattle.std.specs.Prelude.{ℕ, List}
use Rattle.values.specs.Empty.{empty_entry, empty_line, empty_slot}
use Rattle.values.specs.Registers.{cp15_from}
use Rattle.values.specs.declared.Entry.{Entry}
use Rattle.values.specs.declared.Line.{Line}
use Rattle.values.specs.declared.Slot.{Slot}
use Rattle.buffer.specs.Buffer.{buffer_from, backing_from}
use Rattle.cache.specs.Dcache.{dcache_from, side_from}
use Rattle.machine.specs.Machine.{Machine, machine_from}
use Rattle.form.specs.Texts.{text_by}
use Rattle.form.specs.Form.{Form, line, many, Pair, pair, both}
use Rattle.numbers.specs.Fields.{Head, head_from, empty_head, head_fields, entry_fields, line_fields, slot_fields}

-- what a text has of a machine: state and record. "The host keeps memory and cache store itself."
abbrev pub Saved : Type 0
Saved = Pair Head (Pair (List Entry) (Pair (List Line) (List Slot)))

-- the form of each kind of line
abbrev pub head_line : Form Head
head_line = line empty_head head_fields

abbrev pub entry_line : Form Entry
entry_line = line empty_entry entry_fields

abbrev pub cache_line : Form Line
cache_line = line empty_line line_fields

abbrev pub buffer_line : Form Slot
buffer_line = line empty_slot slot_fields

-- "first a line with ...; then 32 TLB lines, 512 cache lines and 8 buffer lines": set by set and in a set by way; oldest first, empty places behind
unfoldable pub form : Form Saved
form = both head_line (both (many 32 entry_line) (both (many 512 cache_line) (many 8 buffer_line)))

abbrev pub saved_of : Machine → Saved
saved_of m =
    pair (head_from m.cp15.registers m.size m.cp15.pointer m.side.cache.pointers m.side.backing.buffer.used m.counts)
    (pair m.entries (pair m.side.cache.lines m.side.backing.buffer.slots))

-- the machine of what a text has, with memory, map and cache store
abbrev pub machine_with : List ℕ → List ℕ → List ℕ → Saved → Machine
machine_with memory bad store s =
    machine_from (cp15_from s.first.registers s.first.pointer) s.rest.first
    (side_from (dcache_from s.rest.rest.first s.first.pointers store)
    (backing_from memory bad (buffer_from s.rest.rest.rest s.first.used))) s.first.counts s.first.size

-- the text of a machine's state and record
unfoldable pub text_of : Machine → List ℕ
text_of m = text_by form.places (form.numbers (saved_of m))
