-- A run of a machine, by its step: `next`, the machine that a call leaves, and `answer`, what the call answers. Over a list of calls, and over a
-- lent list of numbers, five a call, with the answers as numbers.
use Rattle.std.specs.Prelude.{ℕ, zero, suc, ◌+◌, ◌*◌, ◌≤◌, cond, List, [], ◌∷◌, ◌++◌, map, length, drop}
use Rattle.values.specs.declared.Call.{Call}
use Rattle.values.specs.declared.Answer.{Answer}
use Rattle.trace.specs.Calls.{call_at, is_call_at}
use Rattle.trace.specs.Codes.{code_of}

-- the calls of a list of numbers: at most n from call i on, up to five numbers that are no call
unfoldable pub calls_in : ℕ → List ℕ → ℕ → List Call
calls_in zero list i = []
calls_in (suc n) list i = cond (is_call_at list i) (call_at list i ∷ calls_in n list (i + 1)) []

-- n calls fit both lists
pub record Holds (list answers : List ℕ) (n : ℕ) : Type 0 where
  pub calls_hold : n * 5 ≤ length list
  pub answers_hold : n ≤ length answers

-- what a run leaves: the machine, the list of answers, and the number of calls made
pub record Left (S : Type 0) : Type 0 where
  pub machine : S
  pub answers : List ℕ
  pub made : ℕ

abbrev pub leaves : {S : Type 0} → S → List ℕ → ℕ → Left S
leaves machine answers made = record { machine = machine; answers = answers; made = made }

-- each call gets the machine as the call before it left it
module _ {S : Type 0} (next : S → Call → S) (answer : S → Call → Answer) where
  -- the answers of a list of calls
  unfoldable pub answers_of : S → List Call → List Answer
  answers_of s [] = []
  answers_of s (c ∷ cs) = answer s c ∷ answers_of (next s c) cs

  -- the machine after them
  unfoldable pub final_of : S → List Call → S
  final_of s [] = s
  final_of s (c ∷ cs) = final_of (next s c) cs

  -- what they leave, with a lent list of answers: the answers of the calls stand at its front, and the rest of it is as it was
  unfoldable pub left_of : S → List Call → List ℕ → Left S
  left_of s calls answers = leaves (final_of s calls) (map code_of (answers_of s calls) ++ drop (length calls) answers) (length calls)
