-- Document 02, One, "Replay of a trace": the output's bytes as a function of the input's bytes.
use Rattle.std.specs.Prelude.{ℕ, cond, List, [], ◌++◌, replicate}
use Rattle.values.specs.declared.Call.{Call}
use Rattle.values.specs.declared.Answer.{Answer}
use Rattle.trace.specs.Fold.{answers_of}
use Rattle.printed.specs.Printed.{printed}
use Rattle.fields.specs.Lines.{Line, lines_of, calls_of, departs}
use Rattle.machine.specs.Machine.{Machine}
use Rattle.step.specs.Start.{started}
use Rattle.step.specs.Run.{next, answered}
use Rattle.batch.specs.Batch.{refused13}

-- on any machine, by its step
module _ {S : Type 0} (step : S → Call → S) (answers : S → Call → Answer) where
  -- what the lines of a text are answered: each call on the machine that the call before it left, up to a line that departs, which is refused by 13
  unfoldable pub line_answers : S → List Line → List Answer
  line_answers s lines = answers_of step answers s (calls_of lines) ++ cond (departs lines) refused13 []

  -- what a text prints, its lines counted from i on
  abbrev pub prints : S → ℕ → List ℕ → List ℕ
  prints s i text = printed i (line_answers s (lines_of text))

-- on the library's machine: "It prints line number from 1"
abbrev pub replay_from : Machine → List ℕ → List ℕ
replay_from m text = prints next answered m 1 text

-- "Memory is 65,536 zero bytes."
abbrev pub zero_memory : List ℕ
zero_memory = replicate 65536 0

-- no word of them is bad
abbrev pub zero_map : List ℕ
zero_map = replicate 16384 0

-- a start on them, with a cache store of zero bytes
abbrev pub zero_machine : Machine
zero_machine = (started zero_memory zero_map (replicate 16384 0)).machine

abbrev pub replay : List ℕ → List ℕ
replay text = replay_from zero_machine text
