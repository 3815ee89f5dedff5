-- Where the calls of a text keep the rules, the replay prints what the plain machine prints.
use Prim.Native.Nat.{ℕ}
use mathlib.Core.Bool.{true, cond}
use mathlib.Core.Path.{◌≡◌, refl, ap}
use mathlib.Core.List.{List, [], ◌∷◌, ◌++◌}
use lib.ListN.{replicate}
use Rattle.values.specs.declared.Answer.{Answer}
use Rattle.values.proofs.Cases.{case}
use Rattle.values.specs.Rows.{first_met}
use Rattle.trace.specs.Fold.{calls_in}
use Rattle.printed.specs.Printed.{printed}
use Rattle.fields.specs.Lines.{Line, lines_of, numbers_in, is_line, calls_of, departs}
use Rattle.fields.proofs.First.{line_stands}
use Rattle.fields.proofs.Calls.{line_32}
use Rattle.soundness_laws.proofs.LowBytes.{bytes_zeros}
use Rattle.step.specs.Meets.{start_refusal}
use Rattle.plain.specs.Plain.{plain_start}
use Rattle.terms.specs.History.{no_history}
use Rattle.terms.specs.Rules.{Keeps}
use Rattle.terms.specs.Term3.{AllNumbers, Run}
use Rattle.terms.proofs.Term3.{term3}
use Rattle.terms.proofs.Positions.{same_rules}
use Rattle.terms.proofs.Corollaries.{calls_numbers}
use Rattle.batch.specs.Batch.{refused13}
use Rattle.replay.specs.Replay.{line_answers, zero_memory, zero_map}
use Rattle.replay_terms.specs.Printed.{PlainReplay, PlainReplayPrinted}

-- ---- the numbers of a line have 32 bits

-- the call of a line has numbers of 32 bits
line_numbers : (l : Line) → is_line l ≡ true → AllNumbers (calls_in 1 (numbers_in l) 0)
line_numbers l t = calls_numbers (numbers_in l) (line_32 l t) 1 0

-- and so have the calls of lines
lines_numbers : (lines : List Line) → AllNumbers (calls_of lines)
unfolding calls_of AllNumbers calls_in
lines_numbers [] = tt
lines_numbers (l ∷ ls) =
    case (is_line l)
    (λ t. let n : AllNumbers (calls_in 1 (numbers_in l) 0) = line_numbers l t in rw t ((rw (line_stands l t).is_call_lem at n).0, lines_numbers ls))
    (λ t. rw t tt)

-- ---- a start on zero bytes

-- the start is served
pub start_served : start_refusal zero_memory (replicate 16384 0) ≡ 0
unfolding start_refusal first_met
start_served = refl

module _ (text : List ℕ) (k : Keeps (plain_start zero_memory zero_map) no_history (calls_of (lines_of text))) where
  -- the run of the text's calls, as term 3 asks for it
  zero_run : Run zero_memory zero_map (replicate 16384 0) (calls_of (lines_of text))
  zero_run =
      record {
        memory_bytes = bytes_zeros 65536;
        store_bytes = bytes_zeros 16384;
        served_start = start_served;
        numbers = lines_numbers (lines_of text);
        keeps = k;
      }

-- the rules call by call
pub plain_replay_lem : PlainReplay
unfolding line_answers
plain_replay_lem text k =
    let lines = lines_of text in
    let t = term3 zero_memory zero_map (replicate 16384 0) (calls_of lines) (zero_run text k) in
    ap (λ (l : List Answer). printed 1 (l ++ cond (departs lines) refused13 [])) t.same_answers

-- the rules over positions
pub plain_replay_printed : PlainReplayPrinted
plain_replay_printed text k = plain_replay_lem text ((same_rules zero_memory zero_map (calls_of (lines_of text))).rules.1 k)
