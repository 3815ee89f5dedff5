-- Document 02, Two, "Locked swap": a swap whose alignment, translation and rights pass, by the steps of loads and stores.
use Rattle.std.specs.Prelude.{ℕ, cond, Option, Some, None}
use Rattle.values.specs.declared.Access.{Access}
use Rattle.words.specs.Words.{value_at}
use Rattle.words.specs.Signed.{load_answer}
use Rattle.bus.specs.Physical.{aborts}
use Rattle.cache.specs.Dcache.{find}
use Rattle.translation.specs.Alignment.{cleared}
use Rattle.translation.specs.Faults.{other_status}
use Rattle.translation.specs.declared.Place.{Place}
use Rattle.machine.specs.Machine.{Machine, memory_of, physical_of, drained_all, Stepped, stepped_from}
use Rattle.reach.specs.Reach.{faulted}
use Rattle.loads.specs.Loads.{load_hit}
use Rattle.stores.specs.Stores.{store_hit, store_direct}

-- "if the line is held, reads and writes the cached line": what the store leaves, with the answer of the load. "as one call": one hit
unfoldable pub swap_hit : Machine → Access → ℕ → ℕ → Stepped
swap_hit m a v i = stepped_from (store_hit m a v i).machine (load_hit m a i).answer

-- "Otherwise the buffer is drained and memory is read, then written, without filling a line.": the store drains, then writes; what is answered, "the old
-- value", is read of memory once drained, before the write
unfoldable pub swap_direct : Machine → Access → ℕ → Place → Stepped
swap_direct m a v p =
    stepped_from (store_direct m a v p).machine
    (load_answer a.kind a.width (value_at a.width (memory_of (drained_all m)) p.address.0))

-- "an aborted read, found before the drain, is followed by no write; codes 8 and 10 apply, also on a buffered page"
unfoldable pub swap_miss : Machine → Access → ℕ → Place → Stepped
swap_miss m a v p =
    cond (aborts (physical_of m) p.address) (faulted m (other_status p) p.domain a.address) (swap_direct m a v p)

abbrev pub swap_found : Machine → Access → ℕ → Place → Option ℕ → Stepped
swap_found m a v p (Some i) = swap_hit m a v i
swap_found m a v p None = swap_miss m a v p

-- The Dcache "is searched always, even when disabled."
unfoldable pub swap : Machine → Access → ℕ → Place → Stepped
swap m a v p = swap_found m a v p (find m.side.cache.lines (cleared a))
