-- Refusal 3, "The state is unsound": each clause as a test that a sound state passes.
use Rattle.std.specs.Prelude.{ℕ, zero, suc, ◌+◌, ◌*◌, ◌/◌, Bool, true, false, cond, not, ◌&&◌, ◌||◌, List, [], ◌∷◌, eqb, ltb, leb, length, take, drop}
use Rattle.values.specs.Bits.{bit}
use Rattle.values.specs.Lists.{all, any, sum}
use Rattle.values.specs.Control.{kept, listed}
use Rattle.values.specs.declared.Registers.{Registers}
use Rattle.values.specs.declared.Counts.{Counts}
use Rattle.values.specs.declared.Entry.{Entry}
use Rattle.values.specs.declared.Line.{Line}
use Rattle.values.specs.declared.Slot.{Slot}
use Rattle.tlb.specs.Tlb.{base_of}
use Rattle.buffer.specs.Buffer.{Buffer}
use Rattle.cache.specs.Dcache.{dirty_halves}
use Rattle.machine.specs.Machine.{Machine, memory_of}

-- "a pointer above 31"
abbrev pub pointer_sound : ℕ → Bool
pointer_sound p = leb p 31

-- "two valid lines of one set with equal tags": the line and one of the others of its set
abbrev pub same_tag : Line → Line → Bool
same_tag a b = a.valid && (b.valid && eqb a.tag b.tag)

unfoldable pub tag_twice : List Line → Bool
tag_twice [] = false
tag_twice (l ∷ ls) = any (same_tag l) ls || tag_twice ls

-- no tag twice in the first n sets
unfoldable pub tags_sound : ℕ → List Line → Bool
tags_sound zero lines = true
tags_sound (suc n) lines = not (tag_twice (take 32 lines)) && tags_sound n (drop 32 lines)

-- "an empty place in the state not all zeros"
abbrev pub entry_empty : Entry → Bool
entry_empty e =
    not e.valid && (eqb e.size 0 && (eqb e.vbase 0 && (eqb e.pbase 0 && (eqb e.domain 0 && (eqb e.aps 0
    && (not e.cacheable && not e.bufferable))))))

abbrev pub line_empty : Line → Bool
line_empty l = not l.valid && (eqb l.tag 0 && (eqb l.frame 0 && (not l.low && not l.high)))

abbrev pub is_zero : ℕ → Bool
is_zero n = eqb n 0

abbrev pub slot_empty : Slot → Bool
slot_empty s = eqb s.block 0 && (eqb s.mask 0 && all is_zero s.bytes)

-- "a TLB base not a multiple of its size", and the ranges of size, domain and AP0 to AP3
abbrev pub entry_in_range : Entry → Bool
entry_in_range e =
    ltb e.size 3 && (eqb (base_of e.size e.vbase) e.vbase && (eqb (base_of e.size e.pbase) e.pbase
    && (ltb e.vbase 0x100000000 && (ltb e.pbase 0x100000000 && (ltb e.domain 16 && ltb e.aps 256)))))

unfoldable pub entry_sound : Entry → Bool
entry_sound e = cond e.valid (entry_in_range e) (entry_empty e)

-- "a valid line ... outside the lent memory", of n bytes, and the tag's range
unfoldable pub line_sound : ℕ → Line → Bool
line_sound n l = cond l.valid (leb (l.frame * 32 + 32) n && ltb l.tag 0x800000) (line_empty l)

-- "a buffer entry with mask 0 or a nonzero byte outside its mask": no nonzero byte outside
unfoldable pub zero_outside : ℕ → List ℕ → Bool
zero_outside mask [] = true
zero_outside mask (x ∷ xs) = (bit mask 0 || eqb x 0) && zero_outside (mask / 2) xs

-- besides: "outside the lent memory" of n bytes, and the mask's range
unfoldable pub slot_sound : ℕ → Slot → Bool
slot_sound n s =
    leb (s.block * 16 + 16) n && (not (eqb s.mask 0) && (ltb s.mask 0x10000 && zero_outside s.mask s.bytes))

-- "more than 8 buffer entries"; entries, and empty places from `used` on
unfoldable pub buffer_sound : ℕ → Buffer → Bool
buffer_sound n b =
    leb b.used 8 && (all (slot_sound n) (take b.used b.slots) && all slot_empty (drop b.used b.slots))

-- "a register bit or field outside its range, a control combination outside the list": control has only the bits that are kept, the
-- table base only bits 31 to 14, FSR 8 bits, all others 32 bits
unfoldable pub registers_sound : Registers → Bool
registers_sound r =
    eqb (kept r.control) r.control && (listed r.control
    && (eqb (r.base / 0x4000 * 0x4000) r.base && (ltb r.base 0x100000000 && (ltb r.domains 0x100000000
    && (ltb r.fsr 256 && ltb r.far 0x100000000)))))

-- "TLB misses, hits or fills above the calls, or halves sent out plus dirty halves above the calls"
unfoldable pub counts_sound : Counts → List Line → Bool
counts_sound c lines =
    leb c.misses c.calls && (leb c.hits c.calls && (leb c.fills c.calls
    && leb (c.halves + sum dirty_halves lines) c.calls))

-- the state passes every test
unfoldable pub sound : Machine → Bool
sound m =
    let n = length (memory_of m) in
    let lines = m.side.cache.lines in
    pointer_sound m.cp15.pointer && (all pointer_sound m.side.cache.pointers
    && (tags_sound 16 lines
    && (all (line_sound n) lines
    && (buffer_sound n m.side.backing.buffer
    && (all entry_sound m.entries
    && (registers_sound m.cp15.registers
    && counts_sound m.counts lines))))))
