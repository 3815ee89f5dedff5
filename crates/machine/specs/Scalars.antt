-- What the lent lists do not hold of the state: the record, the counts, the number of buffer entries; and each with one part replaced.
use Rattle.std.specs.Prelude.{ℕ}
use Rattle.values.specs.Registers.{with_registers_of, with_pointer_of}
use Rattle.values.specs.declared.Registers.{Registers}
use Rattle.values.specs.declared.Cp15.{Cp15}
use Rattle.values.specs.declared.Counts.{Counts}
use Rattle.values.specs.declared.Answer.{Answer}
use Rattle.machine.specs.declared.Scalars.{Scalars}
use Rattle.machine.specs.declared.Outcome.{Outcome}

abbrev pub scalars_from : Cp15 → Counts → ℕ → Scalars
scalars_from cp15 counts used = record { cp15 = cp15; counts = counts; used = used }

abbrev pub outcome_from : Scalars → Answer → Outcome
outcome_from s a = record { scalars = s; answer = a }

module _ (s : Scalars) where
  abbrev pub with_counts : Counts → Scalars
  with_counts c = scalars_from s.cp15 c s.used

  abbrev pub with_used : ℕ → Scalars
  with_used used = scalars_from s.cp15 s.counts used

  abbrev pub with_registers : Registers → Scalars
  with_registers r = scalars_from (with_registers_of s.cp15 r) s.counts s.used

  abbrev pub with_pointer : ℕ → Scalars
  with_pointer p = scalars_from (with_pointer_of s.cp15 p) s.counts s.used
