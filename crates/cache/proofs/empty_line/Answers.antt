use Rattle.values.specs.declared.Line.{Line}
use Rattle.values.proofs.Maps.{map_set}
use Rattle.cache.specs.Packing.{line_of, lines_of}
use Rattle.cache.proofs.Lines.{line_zero}
use mathlib.Core.Path.{◌∙◌, ap}
use lib.ListN.{set}
use Rattle.cache.proofs.empty_line.Goals as goal

pub returns : goal.returns
returns c = map_set line_of c.args.lines.now c.args.i 0 ∙ ap (λ (l : Line). set (lines_of c.args.lines.now) c.args.i l) line_zero
