-- "An access, step by step": a load whose alignment, translation and rights pass.
use Rattle.std.specs.Prelude.{ℕ, cond, Option, Some, None}
use Rattle.values.specs.Counts.{hit, sent}
use Rattle.values.specs.Counts as counts
use Rattle.values.specs.declared.Access.{Access}
use Rattle.words.specs.Words.{value_at}
use Rattle.words.specs.Signed.{load_answer}
use Rattle.bus.specs.Physical.{aborts, wanted_aborts, line_aborts}
use Rattle.buffer.specs.Buffer.{ready}
use Rattle.cache.specs.Dcache.{find, hit_load, filled}
use Rattle.translation.specs.Alignment.{cleared}
use Rattle.translation.specs.Faults.{fills, fill_status, other_status}
use Rattle.translation.specs.declared.Place.{Place}
use Rattle.machine.specs.Machine.{Machine, memory_of, physical_of, with_side, with_backing, with_counts, Stepped, stepped_from}
use Rattle.reach.specs.Reach.{faulted}

-- "A hit serves loads"; "a hit counts when rights have passed"
unfoldable pub load_hit : Machine → Access → ℕ → Stepped
load_hit m a i =
    stepped_from (with_counts m (hit m.counts)) (load_answer a.kind a.width (hit_load m.side.cache i (cleared a) a.width))

-- what a fill leaves: the halves sent out are counted, and the fill, but where a word of the line aborts: "and no fill is counted"
unfoldable pub after_fill : Machine → Access → Place → Machine
after_fill m a p =
    let s = filled m.side (cleared a) p.address in
    with_counts (with_side m s.side) (sent (cond (line_aborts (physical_of m) p.address) m.counts (counts.filled m.counts)) s.halves)

-- "A load miss ... fills". Document 02, Five: "An abort at or before the wanted word faults with 4 or 6. A later one serves the load." The load is served
-- by the bytes read, which are memory's once the buffer is drained of them
unfoldable pub load_fill : Machine → Access → Place → Stepped
load_fill m a p =
    let f = after_fill m a p in
    cond (wanted_aborts (physical_of m) p.address) (faulted f (fill_status p) p.domain a.address)
    (stepped_from f (load_answer a.kind a.width (value_at a.width (memory_of f) p.address.0)))

-- "an uncached load first drains it if a masked byte lies in what is read (... the access)"
unfoldable pub load_uncached : Machine → Access → Place → Stepped
load_uncached m a p =
    let b = ready m.side.backing p.address.0 a.width in
    stepped_from (with_backing m b) (load_answer a.kind a.width (value_at a.width b.memory p.address.0))

-- "A load miss with M, C-enable and the page's C bit fills"; any other reads memory, where its word answers
unfoldable pub load_miss : Machine → Access → Place → Stepped
load_miss m a p =
    cond (fills m.cp15.registers p) (load_fill m a p)
    (cond (aborts (physical_of m) p.address) (faulted m (other_status p) p.domain a.address) (load_uncached m a p))

abbrev pub load_found : Machine → Access → Place → Option ℕ → Stepped
load_found m a p (Some i) = load_hit m a i
load_found m a p None = load_miss m a p

-- "Kinds: load, signed load". The Dcache "is searched always, even when disabled."
unfoldable pub load : Machine → Access → Place → Stepped
load m a p = load_found m a p (find m.side.cache.lines (cleared a))
