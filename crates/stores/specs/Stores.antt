-- "An access, step by step": a store whose alignment, translation and rights pass.
use Rattle.std.specs.Prelude.{ℕ, cond, Option, Some, None}
use Rattle.values.specs.Counts.{hit}
use Rattle.values.specs.declared.Access.{Access}
use Rattle.words.specs.Words.{stored}
use Rattle.bus.specs.Physical.{outside, aborts}
use Rattle.buffer.specs.Buffer.{with_memory, drained, buffered}
use Rattle.cache.specs.Dcache.{find, hit_store}
use Rattle.translation.specs.Alignment.{cleared}
use Rattle.translation.specs.Faults.{buffers, other_status}
use Rattle.translation.specs.declared.Place.{Place}
use Rattle.machine.specs.Machine.{Machine, physical_of, with_cache, with_backing, with_counts, Stepped, answers_zero}
use Rattle.reach.specs.Reach.{faulted}

-- "A hit serves ... stores with no bounds test; a store marks its half."
unfoldable pub store_hit : Machine → Access → ℕ → ℕ → Stepped
store_hit m a v i = answers_zero (with_counts (with_cache m (hit_store m.side.cache i (cleared a) a.width v)) (hit m.counts))

-- "A store that misses is buffered ...; outside memory its bytes are dropped without a fault." A bad word's are dropped when their entry leaves.
unfoldable pub store_buffered : Machine → Access → ℕ → Place → Stepped
store_buffered m a v p =
    answers_zero (cond (outside (physical_of m) p.address) m (with_backing m (buffered m.side.backing p.address a.width v)))

-- "Any other missing store drains the buffer, then writes."
unfoldable pub store_direct : Machine → Access → ℕ → Place → Stepped
store_direct m a v p =
    let b = drained m.side.backing in
    answers_zero (with_backing m (with_memory b (stored a.width b.memory p.address.0 v)))

unfoldable pub store_miss : Machine → Access → ℕ → Place → Stepped
store_miss m a v p =
    cond (buffers m.cp15.registers p) (store_buffered m a v p)
    (cond (aborts (physical_of m) p.address) (faulted m (other_status p) p.domain a.address) (store_direct m a v p))

abbrev pub store_found : Machine → Access → ℕ → Place → Option ℕ → Stepped
store_found m a v p (Some i) = store_hit m a v i
store_found m a v p None = store_miss m a v p

-- "Kinds: ... store". The Dcache "is searched always, even when disabled."
unfoldable pub store : Machine → Access → ℕ → Place → Stepped
store m a v p = store_found m a v p (find m.side.cache.lines (cleared a))
