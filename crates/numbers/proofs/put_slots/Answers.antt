use Rattle.std.proofs.Common.{ℕ, List, length, get_or, sym, ap, ◌∙◌}
use Rattle.values.specs.Empty.{empty_slot}
use Rattle.values.specs.declared.Slot.{Slot}
use Rattle.printed.specs.Code.{over}
use Rattle.buffer.specs.Packing.{slots_of}
use Rattle.buffer.proofs.Slots.{slot_at, length_slots}
use Rattle.numbers.specs.Code.{buffer_line}
use Rattle.numbers.proofs.Puts.{rows_each}
use Rattle.numbers.proofs.Slots.{slot_long}
use Rattle.numbers.proofs.put_slots.Goals as goal

pub put_rows-requires-clause-wide : goal.put_rows-requires-clause-wide
put_rows-requires-clause-wide c = λ i r h e. ap length e ∙ slot_long _

pub returns : goal.returns
returns c =
    let a = c.args in
    let xs = slots_of a.words.now a.bytes.now in
    c.put_rows.ensures (λ i. buffer_line.numbers (get_or xs i empty_slot))
    (λ i r h e. e ∙ ap (λ (x : Slot). buffer_line.numbers x) (sym (slot_at a.words.now a.bytes.now i c.requires.0)))
    ∙ ap (λ (l : List ℕ). over a.numbers.now a.from l) (rows_each buffer_line empty_slot xs _ (length_slots a.words.now a.bytes.now c.requires.0))
