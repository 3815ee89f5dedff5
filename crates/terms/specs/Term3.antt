-- Term 3: "For every list of calls that keeps rules R1 to R6, all answers are those of the plain machine (no TLB, cache or buffer), and after
-- cleaning and draining so is memory, byte for byte."
use Rattle.std.specs.Prelude.{ℕ, ◌+◌, ◌*◌, ◌<◌, true, ◌↔◌, ◌≡◌, List, [], ◌∷◌, get_or}
use Rattle.values.specs.declared.Call.{Call}
use Rattle.words.specs.Words.{Bytes}
use Rattle.step.specs.Meets.{start_refusal}
use Rattle.step.specs.Start.{started}
use Rattle.step.specs.Call.{Numbers}
use Rattle.step.specs.Run.{answers, final}
use Rattle.plain.specs.Plain.{Plain, plain_start, plain_answers, plain_final}
use Rattle.terms.specs.History.{no_history, history_after}
use Rattle.terms.specs.Rules.{is_drained, Keeps, Settled}
use Rattle.terms.specs.Positions.{keeps_rules, settled_line, settled}
use Rattle.machine.specs.Machine.{Machine, memory_of}

-- "32 bits each": every call's address, and the value that it stores or writes
unfoldable pub AllNumbers : List Call → Type 0
AllNumbers [] = Unit {0}
AllNumbers (c ∷ cs) = Numbers c × AllNumbers cs

-- "after a served start on memory and store of any bytes", a list of calls that keeps rules, with any map
pub record RunUnder (rules : Type 0) (memory bad store : List ℕ) (calls : List Call) : Type 0 where
  pub memory_bytes : Bytes memory
  pub store_bytes : Bytes store
  pub served_start : start_refusal memory store ≡ 0
  pub numbers : AllNumbers calls
  pub keeps : rules

-- the rules call by call, as the proof uses them
abbrev pub Run : List ℕ → List ℕ → List ℕ → List Call → Type 0
Run memory bad store calls = RunUnder (Keeps (plain_start memory bad) no_history calls) memory bad store calls

-- the two machines after the calls
abbrev pub library : List ℕ → List ℕ → List ℕ → List Call → Machine
library memory bad store calls = final (started memory bad store).machine calls

abbrev pub plain : List ℕ → List ℕ → List Call → Plain
plain memory bad calls = plain_final (plain_start memory bad) calls

-- line l of two memories is the same, byte for byte
abbrev pub SameLine : List ℕ → List ℕ → ℕ → Type 0
SameLine one other l = (k : ℕ) → k < 32 → get_or one (l * 32 + k) 0 ≡ get_or other (l * 32 + k) 0

-- What term 3 says of a list of calls, by what settles a line and what settles all of memory.
pub record SameAsPlain (memory bad store : List ℕ) (calls : List Call) (line : ℕ → Type 0) (whole : Type 0) : Type 0 where
  -- "all answers are those of the plain machine"
  pub same_answers : answers (started memory bad store).machine calls ≡ plain_answers (plain_start memory bad) calls
  -- the five registers and the count of calls
  pub same_registers : (library memory bad store calls).cp15.registers ≡ (plain memory bad calls).registers
  pub same_calls : (library memory bad store calls).counts.calls ≡ (plain memory bad calls).calls
  -- each line that has been cleaned and drained, whether or not others have
  pub same_line : (l : ℕ) → line l → SameLine (memory_of (library memory bad store calls)) (plain memory bad calls).memory l
  -- "and after cleaning and draining so is memory, byte for byte"
  pub same_memory : whole → memory_of (library memory bad store calls) ≡ (plain memory bad calls).memory

-- with the rules call by call, as the proof uses them
abbrev pub Term3 : Type 0
Term3 =
    (memory bad store : List ℕ) (calls : List Call) → Run memory bad store calls
    → SameAsPlain memory bad store calls (λ l. is_drained ((history_after (plain_start memory bad) no_history calls).line_stage l) ≡ true)
    (Settled (history_after (plain_start memory bad) no_history calls))

-- the rules over positions in the list, in document 01's words, are those call by call, and so is what settles a line and all of memory
pub record RulesAlike (memory bad : List ℕ) (calls : List Call) : Type 0 where
  pub rules : Keeps (plain_start memory bad) no_history calls ↔ (keeps_rules memory bad calls ≡ true)
  pub line : (l : ℕ) → (is_drained ((history_after (plain_start memory bad) no_history calls).line_stage l) ≡ true) ↔ (settled_line memory bad calls l ≡ true)
  pub all_lines : Settled (history_after (plain_start memory bad) no_history calls) ↔ (settled memory bad calls ≡ true)

abbrev pub SameRules : Type 0
SameRules = (memory bad : List ℕ) (calls : List Call) → RulesAlike memory bad calls

-- with the rules over positions
abbrev pub Term3Printed : Type 0
Term3Printed =
    (memory bad store : List ℕ) (calls : List Call) → RunUnder (keeps_rules memory bad calls ≡ true) memory bad store calls
    → SameAsPlain memory bad store calls (λ l. settled_line memory bad calls l ≡ true) (settled memory bad calls ≡ true)
