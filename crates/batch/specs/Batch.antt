-- Lines that were parsed: the machine behind them, and what they are answered.
use Rattle.std.specs.Prelude.{ℕ, cond, List, [], ◌∷◌, ◌++◌, eqb}
use Rattle.values.specs.declared.Answer.{Answer}
use Rattle.values.specs.declared.Answer.TheVariants as answer
use Rattle.trace.specs.Fold.{calls_in}
use Rattle.fields.specs.Parse.{Parsed, departing}
use Rattle.machine.specs.Machine.{Machine}
use Rattle.step.specs.Run.{answers, final}

-- "13 when a line departs from this, before all others; it is printed as refused and the replay stops there."
abbrev pub refused13 : List Answer
refused13 = answer.Refused 13 ∷ []

-- the machine behind lines that were parsed, and what they are answered
abbrev pub machine_after : Machine → Parsed → Machine
machine_after m p = final m (calls_in p.made p.numbers 0)

abbrev pub parsed_answers : Machine → Parsed → List Answer
parsed_answers m p = answers m (calls_in p.made p.numbers 0) ++ cond (eqb p.verdict departing) refused13 []

-- 1 where a line departed, which is counted, too
abbrev pub stops : ℕ → ℕ
stops verdict = cond (eqb verdict departing) 1 0

-- the most lines behind which more are replayed
abbrev pub lines_limit : ℕ
lines_limit = 0x7FFFFFFFFFFFFFFF
