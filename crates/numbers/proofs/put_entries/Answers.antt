use Rattle.std.proofs.Common.{ℕ, List, get_or, sym, ap, ◌∙◌}
use Rattle.std.proofs.lemmas.List.{length-map}
use Rattle.values.specs.Empty.{empty_entry}
use Rattle.values.specs.declared.Entry.{Entry}
use Rattle.printed.specs.Code.{over}
use Rattle.tlb.specs.Packing.{entry_of, entries_of}
use Rattle.tlb.proofs.Packing.{entry_at}
use Rattle.numbers.specs.Code.{entry_line}
use Rattle.numbers.proofs.Puts.{rows_each}
use Rattle.numbers.proofs.put_entries.Goals as goal

pub returns : goal.returns
returns c =
    let a = c.args in
    let xs = entries_of a.entries.now in
    c.put_rows.ensures (λ i. entry_line.numbers (get_or xs i empty_entry))
    (λ i r h e. e ∙ ap (λ (x : Entry). entry_line.numbers x) (sym (entry_at a.entries.now i)))
    ∙ ap (λ (l : List ℕ). over a.numbers.now a.from l) (rows_each entry_line empty_entry xs _ (length-map a.entries.now entry_of))
