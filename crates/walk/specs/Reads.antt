-- The words that a walk reads, for R4 and R6: "a word read by the plain walk", "a large page, ... that level 2 word".
use Rattle.std.specs.Prelude.{ℕ, ◌%◌, cond, List, [], ◌∷◌, ◌++◌, eqb, Option, Some, None}
use Rattle.values.specs.Addresses.{word_of}
use Rattle.values.specs.declared.VirtualAddress.{VirtualAddress}
use Rattle.values.specs.declared.PhysicalAddress.{PhysicalAddress}
use Rattle.bus.specs.Physical.{Physical}
use Rattle.bus.specs.Reader.{descriptor_at}
use Rattle.walk.specs.Walk.{first_address, second_address}

-- the word at an address, if the reader answered one
abbrev pub read_at : PhysicalAddress → Option ℕ → List ℕ
read_at pa None = []
read_at pa (Some w) = word_of pa ∷ []

-- the words read after the level 1 word
unfoldable pub second_reads : Physical → VirtualAddress → Option ℕ → List ℕ
second_reads memory va None = []
second_reads memory va (Some w) =
    cond (eqb (w % 4) 1) (read_at (second_address w va) (descriptor_at memory (second_address w va))) []

-- the numbers of the words read: a word's number is its address divided by 4
unfoldable pub words_read : Physical → ℕ → VirtualAddress → List ℕ
words_read memory base va =
    let d = descriptor_at memory (first_address base va) in
    read_at (first_address base va) d ++ second_reads memory va d
