-- How many bytes the text of a sound state has at most.
use Rattle.std.specs.Prelude.{ℕ, ◌≤◌, true, ◌≡◌, List, length}
use Rattle.values.specs.Counts.{count_limit}
use Rattle.values.specs.declared.Answer.TheVariants as answer
use Rattle.printed.specs.Code.{over}
use Rattle.machine.specs.Machine.{Machine, memory_of}
use Rattle.soundness.specs.Soundness.{sound}
use Rattle.soundness_test.specs.Formed.{Formed}
use Rattle.numbers.specs.Text.{text_of}
use Rattle.text.specs.Store.{stored_from, stored}

-- The first line has 159 bytes at most: 4 digits of control, 10 of table base and of domains, 3 of FSR, 10 of FAR, 8 of the memory length, 2 of the TLB
-- pointer, 16 times 2 of the set pointers, 1 of the number of buffer entries, 5 times 10 of the counts, and a separator behind each of the 29 fields.
-- Then 32 TLB lines of 41 bytes (valid 1, size 1, bases 10 and 10, domain 2, four APs, C and B 1 each, 11 separators), 512 cache lines of 21 (tag 7,
-- physical line number 6, three bits, 5 separators) and 8 buffer lines of 78 (16 bytes of 3, mask 5, block number 7, 18 separators).
-- 159 + 32 * 41 + 512 * 21 + 8 * 78
abbrev pub longest_text : ℕ
longest_text = 12847

-- the text of a sound state with the memory that it was started with, whose counts have 32 bits (none is above the calls), has at most that many bytes
abbrev pub LongestText : Type 0
LongestText =
    (m : Machine) → Formed m → sound m ≡ true → m.size ≡ length (memory_of m) → m.counts.calls ≤ count_limit → length (text_of m) ≤ longest_text

-- stored into a slice of at least that length, such a state is served
abbrev pub LongestEnough : Type 0
LongestEnough =
    (m : Machine) (slice : List ℕ) → Formed m → sound m ≡ true → m.size ≡ length (memory_of m) → m.counts.calls ≤ count_limit
    → longest_text ≤ length slice → stored m slice ≡ stored_from (over slice 0 (text_of m)) (answer.Value (length (text_of m)))
