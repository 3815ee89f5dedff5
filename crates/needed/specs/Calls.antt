-- The calls and memories of short runs (hexadecimal, as in document 01). "Register 7, as (opcode 2, CRm)".
use Rattle.std.specs.Prelude.{ℕ, ◌-◌, true, List, [], ◌∷◌, length, get_or, replicate}
use Rattle.values.specs.declared.Kind.TheVariants.{Swap}
use Rattle.values.specs.declared.Call.{Call}
use Rattle.values.specs.declared.Call.TheVariants.{Write}
use Rattle.values.specs.declared.Answer.{Answer}
use Rattle.values.specs.declared.Answer.TheVariants.{Refused}
use Rattle.marked.specs.MarkedCases as marked

-- ---- calls

-- a swap of a width
abbrev pub swap_of : ℕ → ℕ → ℕ → Call
swap_of width a v = marked.access true (Swap v) width a

-- a load, a store, and a swap, of a word
abbrev pub load : ℕ → Call
load a = marked.load 4 a

abbrev pub store : ℕ → ℕ → Call
store a v = marked.store 4 a v

abbrev pub swap : ℕ → ℕ → Call
swap a v = swap_of 4 a v

-- a write of register n with this opcode 2 and CRm
abbrev pub operate : ℕ → ℕ → ℕ → ℕ → Call
operate n opcode crm v = Write (record { privileged = true; register = n; opcode = opcode; crm = crm }) v

-- "(0,7) and (0,6) flush the Dcache"
abbrev pub flush : Call
flush = operate 7 0 7 0

-- "(1,6) flushes the line of the virtual address written"
abbrev pub flush_line : ℕ → Call
flush_line a = operate 7 1 6 a

-- "(1,10) cleans it"
abbrev pub clean : ℕ → Call
clean a = operate 7 1 10 a

-- "(4,10) drains the buffer"
abbrev pub drain : Call
drain = operate 7 4 10 0

-- "Register 8: (0,7) and (0,6) flush the TLB"
abbrev pub flush_tlb : Call
flush_tlb = operate 8 0 7 0

-- domain value 1 for domain 0; M, C and W set; then these calls
abbrev pub enabled : List Call → List Call
enabled calls = marked.write 3 1 ∷ marked.write 1 0xD ∷ calls

-- ---- memory and cache store

-- a memory of these words, from address 0 on: "Words in memory are little-endian."
abbrev pub from_words : List ℕ → List ℕ
from_words [] = []
from_words (w ∷ ws) = marked.word 0 0 w (from_words ws)

-- 40 bytes: level 1 words 0 and 1, and zeros; the table base is 0, as the start left it. C0E maps its megabyte to the section at 0, with C and B set,
-- AP 11 and domain 0.
abbrev pub two_words : ℕ → ℕ → List ℕ
two_words w₀ w₁ = from_words (w₀ ∷ w₁ ∷ replicate 14 0)

abbrev pub twice : List ℕ
twice = two_words 0xC0E 0xC0E

-- "The Dcache's bytes lie in a second lent buffer of 16,384."
abbrev pub zero_store : List ℕ
zero_store = replicate 16384 0

-- ---- answers

-- the last of a list of answers
abbrev pub last : List Answer → Answer
last answers = get_or answers (length answers - 1) (Refused 0)
