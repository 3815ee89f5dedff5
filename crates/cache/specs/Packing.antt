-- A Dcache line as one number of 64 bits, every bit of which belongs to a field: bit 0 valid, 1 dirty low half, 2 dirty high half, 3 to 31 the
-- physical line number, 32 to 63 the tag. 0 is the empty line.
use Rattle.std.specs.Prelude.{ℕ, ◌+◌, ◌*◌, ◌/◌, ◌%◌, ◌<◌, ◌≤◌, true, ◌||◌, ◌≡◌, List, map, length, get_or}
use Rattle.values.specs.Bits.{bit, number}
use Rattle.values.specs.Addresses.{set_of}
use Rattle.values.specs.declared.VirtualAddress.{VirtualAddress}
use Rattle.values.specs.declared.Line.{Line}
use Rattle.buffer.specs.Packing.{backing_of}
use Rattle.buffer.specs.Ranges.{Fits}
use Rattle.cache.specs.Dcache.{Side, Sent}
use Rattle.cache.specs.Dcache.{side_from}
use Rattle.cache.specs.Dcache.{dcache_from}

unfoldable pub line_of : ℕ → Line
line_of w = record { valid = bit w 0; tag = w / 0x100000000; frame = w / 8 % 0x20000000; low = bit w 1; high = bit w 2 }

-- the word of a line, the inverse of `line_of`
unfoldable pub word_of : Line → ℕ
word_of l = number l.valid + 2 * (number l.low + 2 * (number l.high + 2 * (l.frame + 0x20000000 * l.tag)))

-- the lines that words stand for
abbrev pub lines_of : List ℕ → List Line
lines_of words = map line_of words

-- the side that the lent lists stand for
abbrev pub side_of : List ℕ → List ℕ → List ℕ → List (List ℕ) → ℕ → List ℕ → List ℕ → List ℕ → Side
side_of memory bad words bytes used lines pointers store =
    (side_from (dcache_from (lines_of lines) pointers store) (backing_of memory bad words bytes used))

-- what the code leaves is this side with so many halves sent out, and the buffer fits
pub record SentIs (memory bad words : List ℕ) (bytes : List (List ℕ)) (used : ℕ) (lines pointers store : List ℕ) (halves : ℕ) (s : Sent) : Type 0 where
  pub side : side_of memory bad words bytes used lines pointers store ≡ s.side
  pub count : halves ≡ s.halves
  pub fits : Fits memory words bytes used

-- what the code asks of line i: the lists' lengths, and that the line lies inside memory
pub record HoldsLine (memory lines store : List ℕ) (i : ℕ) : Type 0 where
  pub lines_long : length lines ≡ 512
  pub store_long : length store ≡ 16384
  pub low : i < 512
  pub inside : (line_of (get_or lines i 0)).frame * 32 + 32 ≤ length memory
  pub short : length memory ≤ 0x1000000

-- what the code asks of a line whose dirty halves go out: those lie inside memory
pub record SendsLine (memory : List ℕ) (l : Line) : Type 0 where
  pub low_frame : l.frame < 0x20000000
  pub dirty_inside : (l.low || l.high) ≡ true → l.frame * 32 + 32 ≤ length memory

-- what the code asks of a fill: the lists' lengths, a pointer in range, and that the line that gives way can go out
pub record FillsLine (memory lines pointers store : List ℕ) (va : VirtualAddress) : Type 0 where
  pub lines_long : length lines ≡ 512
  pub pointers_long : length pointers ≡ 16
  pub store_long : length store ≡ 16384
  pub pointer : get_or pointers (set_of va) 0 < 32
  pub victim_sends : SendsLine memory (line_of (get_or lines (set_of va * 32 + get_or pointers (set_of va) 0) 0))
