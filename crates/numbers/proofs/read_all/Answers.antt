use mathlib.Core.Bool.{true, false}
use Rattle.values.specs.Empty.{empty_entry, empty_line, empty_slot}
use Rattle.values.proofs.Cases.{case}
use Rattle.walk.specs.Ranges.{InRange}
use Rattle.numbers.specs.Code.{entry_line, cache_line, buffer_line, LineHolds, SlotHolds}
use Rattle.numbers.proofs.Whole.{all_read, no_entries_lem, no_lines_lem, no_slots_lem, things_as}
use Rattle.numbers.proofs.read_all.Goals.{else-read_entries-via-then-read_entries+else-read_lines, else-read_entries-via-else-read_entries}
use Rattle.numbers.proofs.read_all.Goals as goal

pub returns-then-read_lines : goal.returns-then-read_lines
returns-then-read_lines c = let a = c.args in
    let lengths = c.requires.1 in
    let s = c.read_slots.ensures in
    rw c.then_some.ensures (case c.read_slots.result
    (λ t. rw t (all_read a.numbers.now _ _ _ _ c.read_head-head.ensures.0 c.read_head-head.ensures.1
    (things_as entry_line InRange empty_entry _ 32 _ _ _ true lengths.entries_long c.if-read_entries.true c.read_entries.ensures)
    (things_as cache_line LineHolds empty_line _ 512 _ _ _ true lengths.lines_long c.if-read_lines.true c.read_lines.ensures)
    (things_as buffer_line SlotHolds empty_slot _ 8 _ _ _ true lengths.words_long t s)))
    (λ t. rw t (no_slots_lem a.numbers.now _ (things_as buffer_line SlotHolds empty_slot _ 8 _ _ _ false lengths.words_long t s))))

pub returns : goal.returns
returns c = let a = c.args in
    let lengths = c.requires.1 in
    elim c.else-read_entries.branch [
      | else-read_entries-via-then-read_entries+else-read_lines w ↦ no_lines_lem a.numbers.now _
          (things_as cache_line LineHolds empty_line _ 512 _ _ _ false lengths.lines_long w.if-read_lines.false w.read_lines.ensures)
      | else-read_entries-via-else-read_entries w ↦ no_entries_lem a.numbers.now _
          (things_as entry_line InRange empty_entry _ 32 _ _ _ false lengths.entries_long w.if-read_entries.false c.read_entries.ensures)
    ]
