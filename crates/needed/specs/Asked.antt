-- The rules can be kept where each of them asks something: a run that keeps R1 to R6 and is cleaned and drained at its end, with a store to a level 1
-- word that is walked later, a line flush and a whole flush of lines that were stored to, a table base write and a large page.
use Rattle.std.specs.Prelude.{ℕ, Bool, true, false, not, ◌&&◌, List, [], ◌∷◌, ◌++◌, ◌≡◌, replicate}
use Rattle.values.specs.declared.Call.{Call}
use Rattle.values.specs.declared.Answer.{Answer}
use Rattle.values.specs.declared.Answer.TheVariants.{Value}
use Rattle.step.specs.Start.{started}
use Rattle.step.specs.Run as steps
use Rattle.terms.specs.Positions as positions
use Rattle.terms.specs.Positions.{some}
use Rattle.terms.specs.Term3.{RunUnder}
use Rattle.bus.specs.Physical.{no_bad_words}
use Rattle.marked.specs.MarkedCases as marked
use Rattle.needed.specs.Calls.{load, store, flush, flush_line, clean, drain, flush_tlb, enabled, from_words, zero_store}

-- 440 bytes: level 1 word 0 is C0E, word 3 has its table at 400, of which words 0 to F are one large page at 0; 8 stands at 40
abbrev pub memory : List ℕ
memory = from_words (0xC0E ∷ 0 ∷ 0 ∷ 0x401 ∷ replicate 12 0 ++ (8 ∷ replicate 0xEF 0 ++ replicate 16 0xFFD))

-- no word of it is bad
abbrev pub bad : List ℕ
bad = no_bad_words memory

-- calls 2 to F: level 1 word 2 becomes C0E, and is walked once cleaned, drained and the TLB flushed
abbrev pub calls : List Call
calls =
    enabled
    (store 8 0xC0E ∷ clean 8 ∷ drain ∷ flush_tlb ∷ load 0x200020 ∷ store 0x200020 5 ∷ clean 0x200020 ∷ flush_line 0x200020 ∷ flush ∷ marked.write 2 0
    ∷ flush_tlb ∷ load 0x300040 ∷ load 0x20 ∷ drain ∷ [])

abbrev pub answers : List Answer
answers =
    Value 0 ∷ Value 0 ∷ Value 0 ∷ Value 0 ∷ Value 0 ∷ Value 0 ∷ Value 0 ∷ Value 0 ∷ Value 0 ∷ Value 0 ∷ Value 0 ∷ Value 0 ∷ Value 0 ∷ Value 8 ∷ Value 5
    ∷ Value 0 ∷ []

-- what R3 asks of the line stored to at i, before a flush at j, is asked
abbrev pub asks_r3 : ℕ → ℕ → Bool
asks_r3 i j =
    let l = positions.line_at memory bad calls i in
    positions.covers memory bad calls l j && (positions.last_to_line memory bad calls i j && not (some i j (positions.covers memory bad calls l)))

-- what R4 asks of the word stored to at i, before an access at j that walks over it, is asked
abbrev pub asks_r4 : ℕ → ℕ → Bool
asks_r4 i j =
    positions.translates memory bad calls j
    && (positions.reads_word memory bad calls (positions.word_at memory bad calls i) j && positions.last_to_word memory bad calls i j)

-- what R5 asks of a table base write at i, before an access at j, is asked
abbrev pub asks_r5 : ℕ → ℕ → Bool
asks_r5 i j =
    positions.writes_base memory bad calls i && (positions.translates memory bad calls j && not (some i j (positions.translates memory bad calls)))

pub record Asked : Type 0 where
  -- all that term 3 asks
  pub run : RunUnder (positions.keeps_rules memory bad calls ≡ true) memory bad zero_store calls
  -- "after cleaning and draining"
  pub settled : positions.settled memory bad calls ≡ true
  -- what the library answers
  pub answered : steps.answers (started memory bad zero_store).machine calls ≡ answers
  -- R2: calls 6 and 7 reach one line, through one virtual line
  pub asks_r2 : positions.both_reach memory bad calls 6 7 ≡ true
  -- R3: the line flush at 9 covers the line stored to at 7, the whole flush at A the line stored to at 2
  pub asks_r3_line : asks_r3 7 9 ≡ true
  pub asks_r3_whole : asks_r3 2 10 ≡ true
  -- R4: the walk at 6 reads the word stored to at 2
  pub asks_r4_lem : asks_r4 2 6 ≡ true
  -- R5: the table base is written at B, and D is the next translated access
  pub asks_r5_lem : asks_r5 11 13 ≡ true
  -- R6: the plain walk at D finds a large page, so that each word of the group is tested
  pub asks_r6 : positions.of_group memory bad calls (λ p a two. false) 13 ≡ false
