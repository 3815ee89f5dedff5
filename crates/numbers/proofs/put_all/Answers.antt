use lib.ListN.{length-map}
use Rattle.tlb.specs.Packing.{entry_of}
use Rattle.cache.specs.Packing.{line_of}
use Rattle.buffer.proofs.Slots.{length_slots}
use Rattle.numbers.specs.Code.{saved_in}
use Rattle.numbers.proofs.Whole.{all_laid}
use mathlib.Core.Path.{sym, ◌∙◌}
use Rattle.numbers.proofs.put_all.Goals as goal

pub returns : goal.returns
returns c = let a = c.args in
    let lengths = c.requires.1 in
    all_laid a.numbers.now _ _ _ _
    (saved_in a.cp15 a.size a.counts a.used a.entries.now a.lines.now a.pointers.now a.words.now a.bytes.now)
    c.requires.0
    (length-map a.entries.now entry_of ∙ lengths.entries_long) (length-map a.lines.now line_of ∙ lengths.lines_long)
    (length_slots a.words.now a.bytes.now (lengths.words_long ∙ sym lengths.bytes_long) ∙ lengths.words_long)
    c.put_head.ensures c.put_entries.ensures c.put_lines.ensures c.put_slots.ensures
