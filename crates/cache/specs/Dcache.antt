-- "Dcache: 16 sets of 32 lines of 32 bytes, set VA[8:5], tag VA[31:9], a physical line number, a valid bit and two dirty bits, one a
-- 16-byte half." Line i is way i mod 32 of set i / 32, and its bytes are those of the cache store from 32 i on.
use Rattle.std.specs.Prelude.{ℕ, ◌+◌, ◌*◌, ◌%◌, Bool, true, false, cond, ◌&&◌, List, ◌++◌, eqb, ltb, get_or, set, take, drop, Option, Some, None}
use Rattle.values.specs.Bits.{number}
use Rattle.values.specs.Lists.{first_from}
use Rattle.values.specs.Empty.{empty_line, no_lines}
use Rattle.values.specs.Addresses.{set_of, tag_of, offset_of, physical_line}
use Rattle.values.specs.declared.VirtualAddress.{VirtualAddress}
use Rattle.values.specs.declared.PhysicalAddress.{PhysicalAddress}
use Rattle.values.specs.declared.Line.{Line}
use Rattle.words.specs.Words.{value_at, stored}
use Rattle.bus.specs.Physical.{line_aborts}
use Rattle.buffer.specs.Buffer.{Backing, physical_behind, half_pushed, ready}

-- the lines, the pointer of each set, and the cache store
pub record Dcache : Type 0 where
  pub lines : List Line
  pub pointers : List ℕ
  pub store : List ℕ

-- the Dcache and what lies behind it
pub record Side : Type 0 where
  pub cache : Dcache
  pub backing : Backing

-- a side, and how many halves were sent out to make it
pub record Sent : Type 0 where
  pub side : Side
  pub halves : ℕ

abbrev pub dcache_from : List Line → List ℕ → List ℕ → Dcache
dcache_from lines pointers store = record { lines = lines; pointers = pointers; store = store }

abbrev pub side_from : Dcache → Backing → Side
side_from cache backing = record { cache = cache; backing = backing }

abbrev pub sent_from : Side → ℕ → Sent
sent_from side halves = record { side = side; halves = halves }

abbrev pub with_lines : Dcache → List Line → Dcache
with_lines c lines = dcache_from lines c.pointers c.store

abbrev pub line_at : Dcache → ℕ → Line
line_at c i = get_or c.lines i empty_line

abbrev pub with_line : Dcache → ℕ → Line → Dcache
with_line c i l = with_lines c (set c.lines i l)

-- ---- the search

abbrev pub has_tag : ℕ → Line → Bool
has_tag tag l = l.valid && eqb l.tag tag

abbrev pub matches : VirtualAddress → Line → Bool
matches va l = has_tag (tag_of va) l

-- "The search of a set stops at the first match." "It is searched always, even when disabled."
unfoldable pub find : List Line → VirtualAddress → Option ℕ
find lines va = first_from (matches va) (set_of va * 32) (take 32 (drop (set_of va * 32) lines))

-- ---- hits

-- "A hit serves loads"
unfoldable pub hit_load : Dcache → ℕ → VirtualAddress → ℕ → ℕ
hit_load c i va width = value_at width c.store (i * 32 + offset_of va)

-- "and stores with no bounds test; a store marks its half"
abbrev pub marked : Line → ℕ → Line
marked l offset =
    cond (ltb offset 16) (record { valid = l.valid; tag = l.tag; frame = l.frame; low = true; high = l.high })
    (record { valid = l.valid; tag = l.tag; frame = l.frame; low = l.low; high = true })

unfoldable pub hit_store : Dcache → ℕ → VirtualAddress → ℕ → ℕ → Dcache
hit_store c i va width v =
    dcache_from (set c.lines i (marked (line_at c i) (offset_of va))) c.pointers (stored width c.store (i * 32 + offset_of va) v)

-- ---- halves sent out

-- a half that is dirty goes to the buffer: the sixteen bytes from a on in the cache store
abbrev pub half_sent : Bool → Backing → ℕ → List ℕ → ℕ → Backing
half_sent dirty b block store a = cond dirty (half_pushed b block (take 16 (drop a store))) b

-- "its dirty halves go to the buffer, low half first": of line l, whose bytes begin at a in the cache store
unfoldable pub halves_sent : Backing → Line → List ℕ → ℕ → Backing
halves_sent b l store a = half_sent l.high (half_sent l.low b (l.frame * 2) store a) (l.frame * 2 + 1) store (a + 16)

abbrev pub dirty_halves : Line → ℕ
dirty_halves l = number l.low + number l.high

-- ---- fill

-- "the line at the set's pointer gives way"
abbrev pub victim : Dcache → VirtualAddress → ℕ
victim c va = set_of va * 32 + get_or c.pointers (set_of va) 0

-- "the pointer steps"
abbrev pub turned : List ℕ → ℕ → List ℕ
turned pointers s = set pointers s ((get_or pointers s 0 + 1) % 32)

-- the n bytes of the source from `from` on, laid over those of the destination from `at` on
abbrev pub copied : List ℕ → ℕ → List ℕ → ℕ → ℕ → List ℕ
copied destination at source from n = take at destination ++ take n (drop from source) ++ drop (at + n) destination

-- a valid line with no dirty half
abbrev pub fresh_line : ℕ → ℕ → Line
fresh_line tag frame = record { valid = true; tag = tag; frame = frame; low = false; high = false }

-- "the line at the set's pointer gives way, its dirty halves go to the buffer, low half first, the pointer steps"; "A fill, once the old line has given
-- way, ... first drains it if a masked byte lies in what is read (the whole line, or the access)"; the place is empty
unfoldable pub gave_way : Side → VirtualAddress → PhysicalAddress → Sent
gave_way s va pa =
    let i = victim s.cache va in
    let l = line_at s.cache i in
    sent_from
    (side_from (dcache_from (set s.cache.lines i empty_line) (turned s.cache.pointers (set_of va)) s.cache.store)
    (ready (halves_sent s.backing l s.cache.store (i * 32)) (physical_line pa * 32) 32))
    (dirty_halves l)

-- "the line is read": into place i, from a memory in front of which no masked byte lies in it
unfoldable pub line_read : Dcache → ℕ → VirtualAddress → PhysicalAddress → List ℕ → Dcache
line_read c i va pa memory =
    dcache_from (set c.lines i (fresh_line (tag_of va) (physical_line pa))) c.pointers (copied c.store (i * 32) memory (physical_line pa * 32) 32)

-- Document 02, Five: "A fill reads from the line's first word upward." An abort at any of its words: "Either way the old line has already given way, the
-- pointer has stepped and any drain is done, the place stays empty, the cache store keeps its bytes". "This now holds too for fills outside memory."
unfoldable pub filled : Side → VirtualAddress → PhysicalAddress → Sent
filled s va pa =
    let g = gave_way s va pa in
    cond (line_aborts (physical_behind s.backing) pa) g
    (sent_from (side_from (line_read g.side.cache (victim s.cache va) va pa g.side.backing.memory) g.side.backing) g.halves)

-- ---- clean and flush

-- a line with its dirty bits cleared
abbrev pub clean_line : Line → Line
clean_line l = record { valid = l.valid; tag = l.tag; frame = l.frame; low = false; high = false }

-- "A clean sends dirty halves to the buffer, low half first, clears their dirty bits and leaves the line valid."
unfoldable pub cleaned_at : Side → Option ℕ → Sent
cleaned_at s None = sent_from s 0
cleaned_at s (Some i) =
    let l = line_at s.cache i in
    sent_from (side_from (with_line s.cache i (clean_line l)) (halves_sent s.backing l s.cache.store (i * 32))) (dirty_halves l)

-- "(1,10) cleans it", the line of the virtual address written; "Lines are matched by virtual tag, without translation."
unfoldable pub cleaned : Side → VirtualAddress → Sent
cleaned s va = cleaned_at s (find s.cache.lines va)

-- "A flush loses dirty bytes; emptied places become all zeros, pointers and cache store bytes stay."
unfoldable pub flushed_at : Dcache → Option ℕ → Dcache
flushed_at c None = c
flushed_at c (Some i) = with_line c i empty_line

-- "(1,6) flushes the line of the virtual address written"
unfoldable pub line_flushed : Dcache → VirtualAddress → Dcache
line_flushed c va = flushed_at c (find c.lines va)

-- "(0,7) and (0,6) flush the Dcache"
unfoldable pub all_flushed : Dcache → Dcache
all_flushed c = with_lines c no_lines
