-- Document 02, Four: "storing a sound state and reading it back yields that state". What the definitions of storing and reading say together, of a state
-- and a record by value.
use Rattle.std.specs.Prelude.{ℕ, ◌<◌, ◌≤◌, ◌≡◌, List, [], length, get_or}
use Rattle.values.specs.declared.Cp15.{Cp15}
use Rattle.values.specs.declared.Answer.TheVariants as answer
use Rattle.step.specs.Start.{started_from}
use Rattle.state.specs.State.{bytes_of, machine_in}
use Rattle.state.specs.declared.State.{State}
use Rattle.numbers.specs.Text.{text_of}
use Rattle.text.specs.Store.{stored, stored_from}
use Rattle.text.specs.Read.{read_back}
use Rattle.printed.specs.Code.{over}

-- a state and a record are values of their types in code: the arrays have their lengths, and each number has the bits of its type (`size` and `used` need no
-- clause)
pub record Typed (s : State) (r : Cp15) : Type 0 where
  pub control : r.registers.control < 0x100000000
  pub base : r.registers.base < 0x100000000
  pub domains : r.registers.domains < 0x100000000
  pub fsr : r.registers.fsr < 0x100000000
  pub far : r.registers.far < 0x100000000
  pub pointer : r.pointer < 0x100000000
  pub calls : s.counts.calls < 0x100000000
  pub misses : s.counts.misses < 0x100000000
  pub hits : s.counts.hits < 0x100000000
  pub fills : s.counts.fills < 0x100000000
  pub halves : s.counts.halves < 0x100000000
  pub entries_long : length s.entries ≡ 32
  pub entries : (i : ℕ) → get_or s.entries i 0 < 0x10000000000000000
  pub lines_long : length s.lines ≡ 512
  pub lines : (i : ℕ) → get_or s.lines i 0 < 0x10000000000000000
  pub pointers_long : length s.pointers ≡ 16
  pub pointers : (i : ℕ) → get_or s.pointers i 0 < 0x100000000
  pub words_long : length s.words ≡ 8
  pub words : (i : ℕ) → get_or s.words i 0 < 0x10000000000000000
  pub slots_long : length s.slots ≡ 8
  pub rows_long : (i : ℕ) → i < 8 → length (get_or (bytes_of s.slots) i []) ≡ 16
  pub rows : (i j : ℕ) → i < 8 → get_or (get_or (bytes_of s.slots) i []) j 0 < 0x100

-- the text that storing serves is read back as that state and record, with that memory, any map and any cache store
abbrev pub ReadStored : Type 0
ReadStored =
    (memory bad store slice : List ℕ) (s : State) (r : Cp15) (n : ℕ) → Typed s r → (stored (machine_in memory bad store s r) slice).answer ≡ answer.Value n
    → (n ≡ length (text_of (machine_in memory bad store s r)))
    × (read_back memory bad store (text_of (machine_in memory bad store s r)) ≡ started_from (machine_in memory bad store s r) 0)

-- a text that is read is the text of the machine read: stored into a slice that is long enough it is that very text
abbrev pub StoredRead : Type 0
StoredRead =
    (memory bad store text slice : List ℕ) → (read_back memory bad store text).refusal ≡ 0 → length text ≤ length slice
    → stored (read_back memory bad store text).machine slice ≡ stored_from (over slice 0 text) (answer.Value (length text))
