-- What the replay prints: the paper's example, how many lines, where 13 stands, what stores and writes answer, and the plain machine's lines.
use Rattle.std.specs.Prelude.{ℕ, ◌≤◌, Bool, true, false, cond, not, ◌&&◌, ◌≡◌, List, [], ◌∷◌, ◌++◌, length}
use Rattle.values.specs.Kinds.{is_store, is_swap}
use Rattle.values.specs.declared.Call.{Call}
use Rattle.values.specs.declared.Call.TheVariants.{Read, Write}
use Rattle.values.specs.declared.Call.TheVariants as calls
use Rattle.values.specs.declared.Answer.{Answer}
use Rattle.values.specs.declared.Answer.TheVariants as answer
use Rattle.trace.specs.Codes.{numbers_of}
use Rattle.printed.specs.Printed.{feeds}
use Rattle.fields.specs.Lines.{Line, lines_of, calls_of, departs}
use Rattle.machine.specs.Machine.{Machine}
use Rattle.step.specs.Run.{next, answered}
use Rattle.plain.specs.Plain.{plain_start, plain_next, plain_answered}
use Rattle.terms.specs.History.{no_history}
use Rattle.terms.specs.Rules.{Keeps}
use Rattle.terms.specs.Positions.{keeps_rules}
use Rattle.batch.specs.Batch.{refused13}
use Rattle.replay.specs.Replay.{line_answers, prints, replay_from, zero_memory, zero_map, replay}

-- ---- the example

-- "Input lines `3,1,1,0,0`, `0,1,4,0,0`, `0,1,3,0,0`", each with its line feed
abbrev pub example_text : List ℕ
example_text =
    51 ∷ 44 ∷ 49 ∷ 44 ∷ 49 ∷ 44 ∷ 48 ∷ 44 ∷ 48 ∷ 10
    ∷ 48 ∷ 44 ∷ 49 ∷ 44 ∷ 52 ∷ 44 ∷ 48 ∷ 44 ∷ 48 ∷ 10
    ∷ 48 ∷ 44 ∷ 49 ∷ 44 ∷ 51 ∷ 44 ∷ 48 ∷ 44 ∷ 48 ∷ 10 ∷ []

-- "print exactly `1,0,112`, `2,0,0`, `3,2,6`, with no header"
abbrev pub example_printed : List ℕ
example_printed =
    49 ∷ 44 ∷ 48 ∷ 44 ∷ 49 ∷ 49 ∷ 50 ∷ 10
    ∷ 50 ∷ 44 ∷ 48 ∷ 44 ∷ 48 ∷ 10
    ∷ 51 ∷ 44 ∷ 50 ∷ 44 ∷ 54 ∷ 10 ∷ []

abbrev pub Example : Type 0
Example = replay example_text ≡ example_printed

-- ---- how many lines

-- As many lines are printed as the text has, where none departs; else no more than that.
pub record Counted (m : Machine) (text : List ℕ) : Type 0 where
  pub as_many : departs (lines_of text) ≡ false → feeds (replay_from m text) ≡ length (lines_of text)
  pub at_most : feeds (replay_from m text) ≤ length (lines_of text)

abbrev pub AsMany : Type 0
AsMany = (m : Machine) (text : List ℕ) → Counted m text

-- ---- 13

-- none of the answers is 13
unfoldable pub Without13 : List Answer → Type 0
Without13 [] = Unit {0}
Without13 (a ∷ rest) = (a ≡ answer.Refused 13 → ⊥) × Without13 rest

-- "13 when a line departs from this ...; it is printed as refused and the replay stops there": 13 stands at most once, and last, exactly where a line departs.
pub record ThirteenOnce (m : Machine) (lines : List Line) : Type 0 where
  pub before : List Answer
  pub last : List Answer
  pub whole : line_answers next answered m lines ≡ before ++ last
  pub none_before : Without13 before
  pub one_last : last ≡ cond (departs lines) refused13 []

abbrev pub ThirteenLast : Type 0
ThirteenLast = (m : Machine) (lines : List Line) → ThirteenOnce m lines

-- ---- stores and writes

-- a store or a CP15 write; a swap, of which no text has one, answers the old value
abbrev pub stores_or_writes : Call → Bool
stores_or_writes (calls.Access a) = is_store a.kind && not (is_swap a.kind)
stores_or_writes (Read t) = false
stores_or_writes (Write t v) = true

-- "a served store or write prints 0"; kind "0 served"
abbrev pub ZeroPrinted : Type 0
ZeroPrinted = (m : Machine) (c : Call) → stores_or_writes c ≡ true → (numbers_of (answered m c)).kind ≡ 0 → answered m c ≡ answer.Value 0

-- ---- the plain machine

-- what the plain machine prints of a text
abbrev pub plain_replay : List ℕ → List ℕ
plain_replay text = prints plain_next plain_answered (plain_start zero_memory zero_map) 1 text

-- Term 3, of a text: where its calls keep the rules, the replay prints what the plain machine prints. With the rules call by call, and over positions.
abbrev pub PlainReplay : Type 0
PlainReplay = (text : List ℕ) → Keeps (plain_start zero_memory zero_map) no_history (calls_of (lines_of text)) → replay text ≡ plain_replay text

abbrev pub PlainReplayPrinted : Type 0
PlainReplayPrinted = (text : List ℕ) → keeps_rules zero_memory zero_map (calls_of (lines_of text)) ≡ true → replay text ≡ plain_replay text
