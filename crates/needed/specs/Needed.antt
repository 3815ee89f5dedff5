-- Each of R2 to R6 is needed, and so is what the end asks. For each of nineteen parts of them a short list of calls keeps all the rest, and the library
-- answers it otherwise than the plain machine, or is left with another memory.
use Rattle.std.specs.Prelude.{ℕ, Bool, true, false, not, ◌&&◌, ◌||◌, List, [], ◌∷◌, ◌++◌, ◌≡◌, eqb, get_or, replicate}
use Rattle.values.specs.declared.Call.{Call}
use Rattle.values.specs.declared.Answer.{Answer}
use Rattle.values.specs.declared.Answer.TheVariants.{Value}
use Rattle.values.specs.declared.Status.TheVariants.{WalkFirst, WalkSecond, TranslationSection, TranslationPage, FillPage, OtherSection}
use Rattle.words.specs.Words.{value_at}
use Rattle.bus.specs.Physical.{no_bad_words, aborts}
use Rattle.cp15.specs.Operations as cp15
use Rattle.machine.specs.Machine.{memory_of}
use Rattle.step.specs.Start.{started}
use Rattle.step.specs.Run.{answers}
use Rattle.plain.specs.Plain.{plain_start, plain_physical, plain_answers}
use Rattle.terms.specs.Positions.{reaches, some, given, before, writes, flushes_dcache, drains, flushes_tlb, address_at, translates}
use Rattle.terms.specs.Positions.{cleaned_since, drained_since, throughout}
use Rattle.terms.specs.Positions as positions
use Rattle.terms.specs.Term3.{RunUnder}
use Rattle.terms.specs.Term3 as term3
use Rattle.marked.specs.MarkedCases.{write, fault}
use Rattle.needed.specs.Calls.{load, store, flush, flush_line, clean, drain, flush_tlb, enabled, from_words, two_words, twice, zero_store, last}

-- ---- the rules, and what is left of a rule without a part of it

-- a test of a call of a list, and of what came between two calls: from the start's memory, the map, the list and positions in it
abbrev pub Test : Type 0
Test = List ℕ → List ℕ → List Call → ℕ → Bool

abbrev pub Since : Type 0
Since = List ℕ → List ℕ → List Call → ℕ → ℕ → Bool

-- the rules that a list of calls keeps or breaks
pub data Rule : Type 0 where
  R2 : Rule
  R3 : Rule
  R4 : Rule
  R5 : Rule
  R6 : Rule

-- R2: "each physical line is reached through one virtual line and each virtual line reaches one physical line"
abbrev pub r2 : Test
r2 memory bad list j = positions.r2_physical memory bad list j && positions.r2_virtual memory bad list j

-- R6: "the aligned group of sixteen words round that level 2 word lies in memory and all are equal"; document 02, Five: they "are good ones"
abbrev pub r6 : Test
r6 memory bad list j = positions.r6_inside memory bad list j && positions.r6_equal memory bad list j

-- a rule's test
abbrev pub test : Rule → Test
test R2 = r2
test R3 = positions.r3
test R4 = positions.r4
test R5 = positions.r5
test R6 = r6

-- R2 to R6 by five tests, each at every call
abbrev pub keeps_by : Test → Test → Test → Test → Test → List ℕ → List ℕ → List Call → Bool
keeps_by a b c d e memory bad list =
    throughout memory bad list (a memory bad list)
    && (throughout memory bad list (b memory bad list)
    && (throughout memory bad list (c memory bad list)
    && (throughout memory bad list (d memory bad list) && throughout memory bad list (e memory bad list))))

-- R2 to R6 with one of them replaced by what is left of it
abbrev pub keeps_but : Rule → Test → List ℕ → List ℕ → List Call → Bool
keeps_but R2 left = keeps_by left positions.r3 positions.r4 positions.r5 r6
keeps_but R3 left = keeps_by r2 left positions.r4 positions.r5 r6
keeps_but R4 left = keeps_by r2 positions.r3 left positions.r5 r6
keeps_but R5 left = keeps_by r2 positions.r3 positions.r4 left r6
keeps_but R6 left = keeps_by r2 positions.r3 positions.r4 positions.r5 left

-- R2 with its second half for translated accesses alone; for accesses whose word does not abort alone
abbrev pub r2_translated : Test
r2_translated memory bad list j = positions.r2_physical memory bad list j && given (translates memory bad list j) (positions.r2_virtual memory bad list j)

abbrev pub r2_inside : Test
r2_inside memory bad list j =
    positions.r2_physical memory bad list j
    && given (not (aborts (plain_physical (before memory bad list j)) (address_at memory bad list j))) (positions.r2_virtual memory bad list j)

-- nothing is left
abbrev pub nothing : Test
nothing memory bad list j = true

-- R3 is left for line flushes alone, of which the list has none; for whole flushes alone, of which it has none. To ask that there are none is more than
-- to ask R3 of them
abbrev pub no_line_flush : Test
no_line_flush memory bad list j = not (writes memory bad list cp15.flushes_line j)

abbrev pub no_whole_flush : Test
no_whole_flush memory bad list j = not (flushes_dcache memory bad list j)

-- R3 with another test for "has been cleaned after its last store"
abbrev pub r3_by : Since → Test
r3_by since memory bad list = positions.r3_by memory bad list (since memory bad list)

-- R4 with another test for "has, after its last store, had its line cleaned, then a drain, then a whole TLB flush"
abbrev pub r4_by : Since → Test
r4_by since memory bad list = positions.r4_by memory bad list (since memory bad list)

-- "all are equal", of those of the sixteen words that do not abort
abbrev pub equal_in_memory : Test
equal_in_memory memory bad list =
    positions.of_group memory bad list
    (λ p a two. aborts (plain_physical p) (record { 0 = a }) || eqb (value_at 4 p.memory a) (value_at 4 p.memory two))

-- R6 for accesses whose rights pass alone
abbrev pub r6_reaching : Test
r6_reaching memory bad list j = given (reaches memory bad list j) (r6 memory bad list j)

-- ---- what came after a store at i and before call j

-- "then": what came first, and after it a call that meets the test
abbrev pub followed : Since → Test → Since
followed since test memory bad list i j = some i j (λ k. test memory bad list k && since memory bad list i k)

-- any calls, or none
abbrev pub anything : Since
anything memory bad list i j = true

-- a clean of any virtual line
abbrev pub any_clean : Since
any_clean = followed anything (λ memory bad list. writes memory bad list cp15.cleans_line)

-- the line cleaned and a drain, in any order; and a whole TLB flush, in any order
abbrev pub cleaned_and_drained : Since
cleaned_and_drained memory bad list i j = cleaned_since memory bad list i j && some i j (drains memory bad list)

abbrev pub in_any_order : Since
in_any_order memory bad list i j = cleaned_and_drained memory bad list i j && some i j (flushes_tlb memory bad list)

-- the end, "after cleaning and draining", with another test for what came after each line's last store
abbrev pub settled_but : Since → List ℕ → List ℕ → List Call → Bool
settled_but since memory bad list = positions.all_settled_by memory bad list (since memory bad list)

-- Where all of a rule is left, the five tests are term 3's.
abbrev pub Whole : Type 0
Whole = (memory bad : List ℕ) (list : List Call) (rule : Rule) → keeps_but rule (test rule) memory bad list ≡ positions.keeps_rules memory bad list

-- ---- a row

-- The list keeps all that term 3 asks, but of this rule only what is left of it. The library's last answer and the plain machine's are these. No word of
-- memory is bad.
pub record Differs (rule : Rule) (left : Test) (memory : List ℕ) (list : List Call) (library plain : Answer) : Type 0 where
  pub run : RunUnder (keeps_but rule left memory (no_bad_words memory) list ≡ true) memory (no_bad_words memory) zero_store list
  pub broken : throughout memory (no_bad_words memory) list (test rule memory (no_bad_words memory) list) ≡ false
  pub library_last : last (answers (started memory (no_bad_words memory) zero_store).machine list) ≡ library
  pub plain_last : last (plain_answers (plain_start memory (no_bad_words memory)) list) ≡ plain
  pub differ : library ≡ plain → ⊥

-- The list keeps the rules, and of what the end asks only what is left of it. The answers are the same, and the byte at this address of the library's
-- memory and of the plain machine's are these. No word of memory is bad.
pub record DiffersAtEnd (left : Since) (memory : List ℕ) (list : List Call) (address library plain : ℕ) : Type 0 where
  pub run : RunUnder (positions.keeps_rules memory (no_bad_words memory) list ≡ true) memory (no_bad_words memory) zero_store list
  pub settled_but_lem : settled_but left memory (no_bad_words memory) list ≡ true
  pub broken : positions.settled memory (no_bad_words memory) list ≡ false
  pub same_answers : answers (started memory (no_bad_words memory) zero_store).machine list ≡ plain_answers (plain_start memory (no_bad_words memory)) list
  pub library_has : get_or (memory_of (term3.library memory (no_bad_words memory) zero_store list)) address 0 ≡ library
  pub plain_has : get_or (term3.plain memory (no_bad_words memory) list).memory address 0 ≡ plain
  pub differ : library ≡ plain → ⊥

-- So term 3 fails with what a row leaves of a rule, even if no word may be bad: not all answers are those of the plain machine.
abbrev pub Refutes : Type 0
Refutes =
    (rule : Rule) (left : Test) (memory : List ℕ) (list : List Call) (library plain : Answer) → Differs rule left memory list library plain
    → ((memory store : List ℕ) (list : List Call)
    → RunUnder (keeps_but rule left memory (no_bad_words memory) list ≡ true) memory (no_bad_words memory) store list
    → answers (started memory (no_bad_words memory) store).machine list ≡ plain_answers (plain_start memory (no_bad_words memory)) list)
    → ⊥

-- and with what a row leaves of the end: memory is not the plain machine's
abbrev pub RefutesAtEnd : Type 0
RefutesAtEnd =
    (left : Since) (memory : List ℕ) (list : List Call) (address library plain : ℕ) → DiffersAtEnd left memory list address library plain
    → ((memory store : List ℕ) (list : List Call)
    → RunUnder (positions.keeps_rules memory (no_bad_words memory) list ≡ true) memory (no_bad_words memory) store list
    → settled_but left memory (no_bad_words memory) list ≡ true
    → memory_of (term3.library memory (no_bad_words memory) store list) ≡ (term3.plain memory (no_bad_words memory) list).memory)
    → ⊥

-- ---- R2

-- "each physical line is reached through one virtual line"
abbrev pub R2Physical : Type 0
R2Physical = Differs R2 positions.r2_virtual twice (enabled (load 0x20 ∷ store 0x100020 7 ∷ load 0x20 ∷ [])) (Value 0) (Value 7)

-- "and each virtual line reaches one physical line", with M clear too: 1020 is page 1 of the table at 0, at physical 20, and flat it is physical 1020
abbrev pub pages : List ℕ
pages = from_words (1 ∷ 0xFFE ∷ replicate 6 0 ++ (9 ∷ replicate 0x407 0))

abbrev pub R2Flat : Type 0
R2Flat = Differs R2 r2_translated pages (enabled (load 0x1020 ∷ write 1 0 ∷ load 0x1020 ∷ [])) (Value 9) (Value 0)

-- "every data access whose translation and rights pass reaches a line, even one outside memory": in the second half
abbrev pub R2Outside : Type 0
R2Outside = Differs R2 r2_inside twice (enabled (load 0x100000 ∷ write 1 0 ∷ load 0x100000 ∷ [])) (Value 0xC0E) (fault OtherSection 0 0x100000)

-- ---- R3

-- "before a Dcache flush each line it covers that was stored to since the last flush covering it has been cleaned after its last store": a flush of
-- the whole Dcache, and one of a line
abbrev pub R3Whole : Type 0
R3Whole = Differs R3 no_line_flush twice (enabled (load 0x20 ∷ store 0x20 7 ∷ flush ∷ load 0x20 ∷ [])) (Value 0) (Value 7)

abbrev pub R3Line : Type 0
R3Line = Differs R3 no_whole_flush twice (enabled (load 0x20 ∷ store 0x20 7 ∷ flush_line 0x20 ∷ load 0x20 ∷ [])) (Value 0) (Value 7)

-- "A line is cleaned, here, in R4 and at the end, under the virtual line its last store before that clean went through.": here
abbrev pub R3Through : Type 0
R3Through =
    Differs R3 (r3_by any_clean) twice (enabled (load 0x20 ∷ store 0x20 7 ∷ clean 0x100020 ∷ flush ∷ load 0x20 ∷ [])) (Value 0) (Value 7)

-- ---- R4: "a word read by the plain walk of an access has, after its last store, had its line cleaned, then a drain, then a whole TLB flush"

-- "had its line cleaned"
abbrev pub R4Clean : Type 0
R4Clean =
    Differs R4 (r4_by (followed (followed anything drains) flushes_tlb)) twice
    (enabled (load 0 ∷ store 8 0xC0E ∷ drain ∷ flush_tlb ∷ load 0x200020 ∷ []))
    (fault TranslationSection 0 0x200020) (Value 0)

-- "under the virtual line its last store before that clean went through": in R4
abbrev pub R4Through : Type 0
R4Through =
    Differs R4 (r4_by (followed (followed any_clean drains) flushes_tlb)) twice
    (enabled (load 0 ∷ store 8 0xC0E ∷ clean 0x100000 ∷ drain ∷ flush_tlb ∷ load 0x200020 ∷ []))
    (fault TranslationSection 0 0x200020) (Value 0)

-- "then a drain"
abbrev pub R4Drain : Type 0
R4Drain =
    Differs R4 (r4_by (followed cleaned_since flushes_tlb)) twice (enabled (store 8 0xC0E ∷ clean 0 ∷ flush_tlb ∷ load 0x200020 ∷ []))
    (fault TranslationSection 0 0x200020) (Value 0)

-- "then a whole TLB flush"
abbrev pub R4Flush : Type 0
R4Flush =
    Differs R4 (r4_by drained_since) twice (enabled (load 0x100020 ∷ store 4 0 ∷ clean 0 ∷ drain ∷ load 0x100020 ∷ []))
    (Value 0) (fault TranslationSection 0 0x100020)

-- the order: a drain before the clean does not do
abbrev pub R4Order : Type 0
R4Order =
    Differs R4 (r4_by in_any_order) twice (enabled (load 0 ∷ store 8 0xC0E ∷ drain ∷ clean 0 ∷ flush_tlb ∷ load 0x200020 ∷ []))
    (fault TranslationSection 0 0x200020) (Value 0)

-- ---- R5

-- "after a table base write comes a whole TLB flush before the next translated access"
abbrev pub R5Flush : Type 0
R5Flush = Differs R5 nothing twice (enabled (load 0x20 ∷ write 2 0x4000 ∷ load 0x20 ∷ [])) (Value 0) (fault WalkFirst 0 0x20)

-- ---- R6

-- "all are equal": level 1 word 1 is 1D, with its table at 0; there page 1 is a large page at 0, by that same word, and page 0 is none. The first load
-- goes to 1020, outside memory: both machines fault, and the library's TLB has the large page
abbrev pub R6Equal : Type 0
R6Equal =
    Differs R6 positions.r6_inside (two_words 0 0x1D) (enabled (load 0x101020 ∷ load 0x100020 ∷ [])) (Value 0) (fault TranslationPage 0 0x100020)

-- "lies in memory": 20 bytes, eight words 21D; level 1 word 1 has its table at 0, with a large page at 0 in words 0 to 7, and words 8 to F outside
abbrev pub eight_words : List ℕ
eight_words = from_words (replicate 8 0x21D)

abbrev pub R6Inside : Type 0
R6Inside =
    Differs R6 equal_in_memory eight_words (enabled (load 0x100000 ∷ load 0x108000 ∷ [])) (fault FillPage 0 0x108000) (fault WalkSecond 0 0x108000)

-- "at each access for which the plain walk finds a large page", also one that its rights deny: level 1 word 1 has its table at 400, where page 0 is a
-- large page at 0 with AP0 00, and the others are none
abbrev pub denied_page : List ℕ
denied_page = from_words (0 ∷ 0x401 ∷ replicate 0xFE 0 ++ (0xFCD ∷ replicate 15 0))

abbrev pub R6Denied : Type 0
R6Denied =
    Differs R6 r6_reaching denied_page (enabled (load 0x100800 ∷ load 0x104000 ∷ [])) (fault FillPage 0 0x104000)
    (fault TranslationPage 0 0x104000)

-- ---- the end: "after cleaning and draining so is memory, byte for byte"

-- "cleaning"
abbrev pub EndClean : Type 0
EndClean = DiffersAtEnd (followed anything drains) twice (enabled (load 0x20 ∷ store 0x20 7 ∷ drain ∷ [])) 0x20 0 7

-- "under the virtual line its last store before that clean went through": at the end
abbrev pub EndThrough : Type 0
EndThrough = DiffersAtEnd (followed any_clean drains) twice (enabled (load 0x20 ∷ store 0x20 7 ∷ clean 0x100020 ∷ drain ∷ [])) 0x20 0 7

-- "draining"
abbrev pub EndDrain : Type 0
EndDrain = DiffersAtEnd cleaned_since twice (enabled (store 0x20 7 ∷ clean 0x20 ∷ [])) 0x20 0 7

-- the order: a drain before the clean does not do
abbrev pub EndOrder : Type 0
EndOrder = DiffersAtEnd cleaned_and_drained twice (enabled (load 0x20 ∷ store 0x20 7 ∷ drain ∷ clean 0x20 ∷ [])) 0x20 0 7

-- ---- the table

pub record Needed : Type 0 where
  pub r2_physical : R2Physical
  pub r2_flat : R2Flat
  pub r2_outside : R2Outside
  pub r3_whole : R3Whole
  pub r3_line : R3Line
  pub r3_through : R3Through
  pub r4_clean : R4Clean
  pub r4_through : R4Through
  pub r4_drain : R4Drain
  pub r4_flush : R4Flush
  pub r4_order : R4Order
  pub r5_flush : R5Flush
  pub r6_equal : R6Equal
  pub r6_inside : R6Inside
  pub r6_denied : R6Denied
  pub end_clean : EndClean
  pub end_through : EndThrough
  pub end_drain : EndDrain
  pub end_order : EndOrder
