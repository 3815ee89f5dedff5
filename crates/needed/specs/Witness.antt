-- The rules can be kept: a run that keeps R1 to R6 and is cleaned and drained at its end, with a TLB miss, a line fill, a store that leaves a line
-- dirty, a refused call, a fault, a clean and a drain.
use Rattle.std.specs.Prelude.{ℕ, true, false, List, [], ◌∷◌, ◌++◌, ◌≡◌, take, drop, replicate}
use Rattle.values.specs.declared.Call.{Call}
use Rattle.values.specs.declared.Line.{Line}
use Rattle.values.specs.declared.Answer.{Answer}
use Rattle.values.specs.declared.Answer.TheVariants.{Value, Refused}
use Rattle.values.specs.declared.Status.TheVariants.{TranslationSection}
use Rattle.cache.specs.Dcache as cache
use Rattle.machine.specs.Machine.{Machine, memory_of}
use Rattle.step.specs.Start.{started}
use Rattle.step.specs.Run as steps
use Rattle.terms.specs.Positions.{keeps_rules, settled}
use Rattle.terms.specs.Term3.{RunUnder, library}
use Rattle.bus.specs.Physical.{no_bad_words}
use Rattle.marked.specs.MarkedCases as marked
use Rattle.needed.specs.Calls.{load, store, clean, drain, enabled, from_words, zero_store}

-- 40 bytes: level 1 word C0E at 0, and 9 at 20
abbrev pub memory : List ℕ
memory = from_words (0xC0E ∷ replicate 7 0 ++ (9 ∷ replicate 7 0))

-- no word of it is bad
abbrev pub bad : List ℕ
bad = no_bad_words memory

-- the access of 3 bytes is refused, and level 1 word 1 is 0
abbrev pub calls : List Call
calls =
    enabled (load 0x20 ∷ store 0x20 7 ∷ marked.load 3 0x20 ∷ load 0x100000 ∷ load 0x20 ∷ clean 0x20 ∷ drain ∷ [])

-- their answers: 9 was in memory, 7 was stored
abbrev pub answers : List Answer
answers =
    Value 0 ∷ Value 0
    ∷ Value 9 ∷ Value 0 ∷ Refused 6 ∷ marked.fault TranslationSection 0 0x100000 ∷ Value 7 ∷ Value 0 ∷ Value 0 ∷ []

-- the library's machine after so many of the calls
abbrev pub after : ℕ → Machine
after n = library memory bad zero_store (take n calls)

-- the line that holds address 20: set 1, way 0
abbrev pub held_line : Machine → Line
held_line m = cache.line_at m.side.cache 32

-- memory's four bytes from 20 on
abbrev pub word_bytes : Machine → List ℕ
word_bytes m = take 4 (drop 0x20 (memory_of m))

-- what holds of the run
pub record Witness : Type 0 where
  -- all that term 3 asks
  pub run : RunUnder (keeps_rules memory bad calls ≡ true) memory bad zero_store calls
  -- "after cleaning and draining"
  pub settled : settled memory bad calls ≡ true
  -- what the library answers
  pub answered : steps.answers (started memory bad zero_store).machine calls ≡ answers
  -- "TLB misses, Dcache hits, line fills, halves sent out"
  pub misses : (library memory bad zero_store calls).counts.misses ≡ 2
  pub hits : (library memory bad zero_store calls).counts.hits ≡ 2
  pub fills : (library memory bad zero_store calls).counts.fills ≡ 1
  pub halves : (library memory bad zero_store calls).counts.halves ≡ 1
  -- after the fill the line is clean; after the store it is dirty, and memory has the old word; after the clean and the drain, the new one
  pub clean_line_lem : (held_line (after 3)).low ≡ false
  pub dirty_line : (held_line (after 4)).low ≡ true
  pub old_word : word_bytes (after 4) ≡ 9 ∷ 0 ∷ 0 ∷ 0 ∷ []
  pub cleaned_line_lem : (held_line (library memory bad zero_store calls)).low ≡ false
  pub new_word : word_bytes (library memory bad zero_store calls) ≡ 7 ∷ 0 ∷ 0 ∷ 0 ∷ []
