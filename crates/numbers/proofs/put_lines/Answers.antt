use Rattle.std.proofs.Common.{ℕ, List, get_or, sym, ap, ◌∙◌}
use Rattle.std.proofs.lemmas.List.{length-map}
use Rattle.values.specs.Empty.{empty_line}
use Rattle.values.specs.declared.Line.{Line}
use Rattle.printed.specs.Code.{over}
use Rattle.cache.specs.Packing.{line_of, lines_of}
use Rattle.cache.proofs.Lines.{line_at}
use Rattle.numbers.specs.Code.{cache_line}
use Rattle.numbers.proofs.Puts.{rows_each}
use Rattle.numbers.proofs.put_lines.Goals as goal

pub returns : goal.returns
returns c =
    let a = c.args in
    let xs = lines_of a.lines.now in
    c.put_rows.ensures (λ i. cache_line.numbers (get_or xs i empty_line))
    (λ i r h e. e ∙ ap (λ (x : Line). cache_line.numbers x) (sym (line_at a.lines.now i)))
    ∙ ap (λ (l : List ℕ). over a.numbers.now a.from l) (rows_each cache_line empty_line xs _ (length-map a.lines.now line_of))
