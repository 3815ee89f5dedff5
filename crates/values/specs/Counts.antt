-- "Counts, 32 bits: calls (accepted accesses and CP15 calls), TLB misses, Dcache hits, line fills, halves sent out."
use Rattle.std.specs.Prelude.{ℕ, ◌+◌}
use Rattle.values.specs.declared.Counts.{Counts}

-- "5. The count of calls stands at 4,294,967,295.": no count is above it
abbrev pub count_limit : ℕ
count_limit = 0xFFFFFFFF

abbrev pub counts_from : ℕ → ℕ → ℕ → ℕ → ℕ → Counts
counts_from calls misses hits fills halves = record { calls = calls; misses = misses; hits = hits; fills = fills; halves = halves }

-- "counts zero"
abbrev pub zero_counts : Counts
zero_counts = record { calls = 0; misses = 0; hits = 0; fills = 0; halves = 0 }

-- the counts after one more call, TLB miss, Dcache hit, line fill, and after so many halves more were sent out
module _ (c : Counts) where
  abbrev pub counted : Counts
  counted = record { calls = c.calls + 1; misses = c.misses; hits = c.hits; fills = c.fills; halves = c.halves }

  abbrev pub missed : Counts
  missed = record { calls = c.calls; misses = c.misses + 1; hits = c.hits; fills = c.fills; halves = c.halves }

  abbrev pub hit : Counts
  hit = record { calls = c.calls; misses = c.misses; hits = c.hits + 1; fills = c.fills; halves = c.halves }

  abbrev pub filled : Counts
  filled = record { calls = c.calls; misses = c.misses; hits = c.hits; fills = c.fills + 1; halves = c.halves }

  abbrev pub sent : ℕ → Counts
  sent n = record { calls = c.calls; misses = c.misses; hits = c.hits; fills = c.fills; halves = c.halves + n }

-- the counts with one of them replaced
module _ (c : Counts) (n : ℕ) where
  abbrev pub with_calls : Counts
  with_calls = record { calls = n; misses = c.misses; hits = c.hits; fills = c.fills; halves = c.halves }

  abbrev pub with_misses : Counts
  with_misses = record { calls = c.calls; misses = n; hits = c.hits; fills = c.fills; halves = c.halves }

  abbrev pub with_hits : Counts
  with_hits = record { calls = c.calls; misses = c.misses; hits = n; fills = c.fills; halves = c.halves }

  abbrev pub with_fills : Counts
  with_fills = record { calls = c.calls; misses = c.misses; hits = c.hits; fills = n; halves = c.halves }

  abbrev pub with_halves : Counts
  with_halves = record { calls = c.calls; misses = c.misses; hits = c.hits; fills = c.fills; halves = n }
