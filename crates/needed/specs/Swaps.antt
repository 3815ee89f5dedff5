-- Swaps in a run (document 02, Two). A run with swaps keeps R1 to R6. And for each of R2, R3, R4 and the end there is a list in which a swap breaks it, and
-- the library differs from the plain machine; without the swap the list keeps the rules.
use Rattle.std.specs.Prelude.{ℕ, true, List, [], ◌∷◌, ◌++◌, ◌≡◌, take, drop}
use Rattle.values.specs.declared.Call.{Call}
use Rattle.values.specs.declared.Answer.{Answer}
use Rattle.values.specs.declared.Answer.TheVariants.{Value, Refused}
use Rattle.values.specs.declared.Status.TheVariants.{OtherSection, TranslationSection}
use Rattle.machine.specs.Machine.{Machine, memory_of}
use Rattle.step.specs.Start.{started}
use Rattle.step.specs.Run as steps
use Rattle.terms.specs.Positions.{keeps_rules, settled, r2_virtual, drained_since, drains}
use Rattle.terms.specs.Positions as positions
use Rattle.terms.specs.Term3.{RunUnder, library}
use Rattle.bus.specs.Physical.{no_bad_words}
use Rattle.marked.specs.MarkedCases as marked
use Rattle.needed.specs.Calls.{load, store, swap, swap_of, flush, clean, drain, enabled, twice, zero_store}
use Rattle.needed.specs.Witness.{memory, bad}
use Rattle.needed.specs.Needed.{R2, R3, R4, Differs, DiffersAtEnd, no_line_flush, r4_by, followed, anything}

-- ---- a run

-- 9 stands at 20. A buffered store of 3 to 24; a swap there, and a byte's at 20, miss and go to memory; a load fills the line; a swap hits; one of 2 bytes
-- is refused; a store to 8 is buffered; 40 lies outside memory, where a load would fill and a store would be dropped
abbrev pub calls : List Call
calls =
    enabled
    (store 0x24 3 ∷ swap 0x24 4 ∷ swap_of 1 0x20 5 ∷ load 0x20 ∷ swap 0x20 6 ∷ swap_of 2 0x20 7 ∷ store 8 1 ∷ swap 0x40 8 ∷ load 0x20 ∷ clean 0x20 ∷ clean 8
    ∷ drain ∷ [])

abbrev pub answers : List Answer
answers =
    Value 0 ∷ Value 0
    ∷ Value 0 ∷ Value 3 ∷ Value 9 ∷ Value 5 ∷ Value 5 ∷ Refused 6 ∷ Value 0 ∷ marked.fault OtherSection 0 0x40 ∷ Value 6 ∷ Value 0 ∷ Value 0 ∷ Value 0 ∷ []

-- the library's machine after so many of the calls
abbrev pub after : ℕ → Machine
after n = library memory bad zero_store (take n calls)

-- memory's eight bytes from 20 on
abbrev pub bytes_of : Machine → List ℕ
bytes_of m = take 8 (drop 0x20 (memory_of m))

pub record SwapWitness : Type 0 where
  -- all that term 3 asks
  pub run : RunUnder (keeps_rules memory bad calls ≡ true) memory bad zero_store calls
  -- "after cleaning and draining"
  pub settled : settled memory bad calls ≡ true
  -- what the library answers
  pub answered : steps.answers (started memory bad zero_store).machine calls ≡ answers
  -- the store waits in the buffer; "the buffer is drained and memory is read, then written, without filling a line"
  pub waiting : (after 3).side.backing.buffer.used ≡ 1
  pub drained : (after 4).side.backing.buffer.used ≡ 0
  pub not_filled : (after 5).counts.fills ≡ 0
  pub written : bytes_of (after 5) ≡ 5 ∷ 0 ∷ 0 ∷ 0 ∷ 4 ∷ 0 ∷ 0 ∷ 0 ∷ []
  -- "if the line is held, reads and writes the cached line": one hit, and memory is as it was
  pub one_hit : (after 7).counts.hits ≡ 1
  pub memory_kept : bytes_of (after 7) ≡ 5 ∷ 0 ∷ 0 ∷ 0 ∷ 4 ∷ 0 ∷ 0 ∷ 0 ∷ []
  -- "an aborted read, found before the drain": the store to 8 is in the buffer before and after
  pub waiting_again : (after 9).side.backing.buffer.used ≡ 1
  pub still_waiting : (after 10).side.backing.buffer.used ≡ 1
  -- the half that the swap wrote is dirty: the clean sends it out
  pub halves : (library memory bad zero_store calls).counts.halves ≡ 1
  pub at_end : bytes_of (library memory bad zero_store calls) ≡ 6 ∷ 0 ∷ 0 ∷ 0 ∷ 4 ∷ 0 ∷ 0 ∷ 0 ∷ []

-- ---- what the rules ask of a swap

-- a list of calls with a swap in the middle; without it the calls keep the rules, and ask nothing of the end
abbrev pub around : List Call → Call → List Call → List Call
around before swap behind = enabled (before ++ (swap ∷ behind))

abbrev pub KeptWithout : List Call → List Call → Type 0
KeptWithout before behind =
    (keeps_rules twice (no_bad_words twice) (enabled (before ++ behind)) ≡ true)
    × (positions.settled twice (no_bad_words twice) (enabled (before ++ behind)) ≡ true)

-- R2: a swap reaches its line
abbrev pub Reaches : Type 0
Reaches =
    Differs R2 r2_virtual twice (around (load 0x20 ∷ []) (swap 0x100020 7) (load 0x20 ∷ [])) (Value 0) (Value 7)
    × KeptWithout (load 0x20 ∷ []) (load 0x20 ∷ [])

-- R3: a swap is a store to its line
abbrev pub StoresLine : Type 0
StoresLine =
    Differs R3 no_line_flush twice (around (load 0x20 ∷ []) (swap 0x20 7) (flush ∷ load 0x20 ∷ [])) (Value 0) (Value 7)
    × KeptWithout (load 0x20 ∷ []) (flush ∷ load 0x20 ∷ [])

-- R4: a swap is a store to its word
abbrev pub StoresWord : Type 0
StoresWord =
    Differs R4 (r4_by drained_since) twice (around (load 0x100020 ∷ []) (swap 4 0) (clean 0 ∷ drain ∷ load 0x100020 ∷ []))
    (Value 0) (marked.fault TranslationSection 0 0x100020)
    × KeptWithout (load 0x100020 ∷ []) (clean 0 ∷ drain ∷ load 0x100020 ∷ [])

-- the end: a swap is a store to its line
abbrev pub StoresAtEnd : Type 0
StoresAtEnd =
    DiffersAtEnd (followed anything drains) twice (around (load 0x20 ∷ []) (swap 0x20 7) (drain ∷ [])) 0x20 0 7
    × KeptWithout (load 0x20 ∷ []) (drain ∷ [])

pub record SwapsNeeded : Type 0 where
  pub reaches : Reaches
  pub stores_line_lem : StoresLine
  pub stores_word_lem : StoresWord
  pub stores_at_end : StoresAtEnd
