-- What the code of a fill makes of the scalars.
use Rattle.std.specs.Prelude.{ℕ, Bool, cond}
use Rattle.values.specs.Counts.{filled, sent}
use Rattle.machine.specs.Scalars.{with_counts, with_used}
use Rattle.machine.specs.declared.Scalars.{Scalars}

-- one more fill, but where a word of the line aborts, so many halves sent out, and so many buffer entries
abbrev pub filled_by : Scalars → ℕ → ℕ → Bool → Scalars
filled_by s used halves aborts = with_used (with_counts s (sent (cond aborts s.counts (filled s.counts)) halves)) used
