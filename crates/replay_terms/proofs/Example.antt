-- The paper's example, by computation.
use mathlib.Core.Path.{refl}
use Rattle.trace.specs.Calls.{call_of}
use Rattle.marked.proofs.Computing.{computing}
use Rattle.printed.specs.Printed.{decimal_by, line_of, printed}
use Rattle.fields.specs.Lines.{lines_of, fields_of, value_from, is_line, calls_of, departs}
use Rattle.replay.specs.Replay.{line_answers}
use Rattle.replay_terms.specs.Printed.{Example}

pub example : Example
unfolding computing call_of decimal_by line_of printed lines_of fields_of value_from is_line calls_of departs line_answers
example = refl
