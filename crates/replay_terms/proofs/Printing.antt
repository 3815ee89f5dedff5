-- What is printed of lines one after another, and what is printed by a part and after it.
use Prim.Native.Nat.{ℕ, ◌+◌, ◌-◌, min}
use native.Mathlib.Omega.{arith}
use mathlib.Core.Bool.{Bool, true, false, cond}
use mathlib.Core.Path.{◌≡◌, refl, sym, ◌∙◌, ap}
use mathlib.Core.List.{List, [], ◌++◌, append-nil, append_assoc}
use lib.Dec.{eqb}
use lib.ListN.{length, take, drop, replicate, length-append, length-drop, take-append-drop}
use lib.Seq.{take_at, length-take-le}
use Rattle.values.specs.declared.Call.{Call}
use Rattle.values.specs.declared.Answer.{Answer}
use Rattle.values.proofs.Cases.{case}
use Rattle.trace.specs.Fold.{answers_of, final_of}
use Rattle.trace.proofs.Folds.{answers_append, answers_long}
use Rattle.printed.specs.Printed.{printed}
use Rattle.printed.proofs.Told.{printed_append}
use Rattle.fields.specs.Lines.{lines_of, calls_of, departs}
use Rattle.fields.specs.Parse.{departing, Parsed, parse}
use Rattle.fields.proofs.Calls.{parse_calls}
use Rattle.machine.specs.Machine.{Machine}
use Rattle.step.specs.Run.{next, answered}
use Rattle.pieces.specs.Pieces.{padded}
use Rattle.batch.specs.Batch.{refused13}
use Rattle.replay.specs.Replay.{line_answers, prints}
use Rattle.replay.specs.Parts.{Held, begun_line, waiting_bytes, put_out, settled}
use Rattle.replay_terms.specs.Uses.{wrote, to_print}
use Rattle.replay_terms.proofs.Reading.{calls_read, Reads}

-- the answer of a line that departs is one
pub refused_one : (b : Bool) → length (cond b refused13 []) ≡ cond b 1 0
refused_one true = refl
refused_one false = refl

-- as many answers as calls, and one for a line that departs
pub answers_counted : {S : Type 0} (step : S → Call → S) (answer : S → Call → Answer) (s : S) (cs : List Call) (b : Bool)
    → length (answers_of step answer s cs ++ cond b refused13 []) ≡ length cs + cond b 1 0
answers_counted step answer s cs b =
    length-append (answers_of step answer s cs) (cond b refused13 [])
    ∙ ap (λ (k : ℕ). k + length (cond b refused13 [])) (answers_long step answer s cs) ∙ ap (λ (k : ℕ). length cs + k) (refused_one b)

-- ---- a text of which lines were read

module _ {S : Type 0} (step : S → Call → S) (answer : S → Call → Answer) (s : S) (i : ℕ) (ends : Bool) (n : ℕ) (t z : List ℕ)
    (r : Reads ends n t z (parse ends n t)) where
  abbrev p : Parsed
  p = parse ends n t

  -- the answers of the lines read
  abbrev given : List Answer
  given = answers_of step answer s (calls_read p) ++ cond (eqb p.verdict departing) refused13 []

  -- what the text prints: the lines read, then the text behind them on the machine that they leave
  abbrev Printed : Type 0
  Printed =
      prints step answer s i (t ++ z) ≡ printed i given
      ++ cond (eqb p.verdict departing) [] (prints step answer (final_of step answer s (calls_read p)) (i + p.made) (drop p.end t ++ z))

  -- a line departed
  prints_departing : eqb p.verdict departing ≡ true → Printed
  unfolding line_answers
  prints_departing h =
      let c : calls_of (lines_of (t ++ z)) ≡ calls_read p = r.calls ∙ rw h (append-nil (calls_read p)) in
      let d : departs (lines_of (t ++ z)) ≡ true = r.departed ∙ rw h in
      rw (h, c, d) (sym (append-nil (printed i (answers_of step answer s (calls_read p) ++ refused13))))

  -- no line departed
  prints_on : eqb p.verdict departing ≡ false → Printed
  unfolding line_answers
  prints_on h =
      let cs = calls_read p in
      let ls = lines_of (drop p.end t ++ z) in
      let c : calls_of (lines_of (t ++ z)) ≡ cs ++ calls_of ls = r.calls ∙ rw h in
      let d : departs (lines_of (t ++ z)) ≡ departs ls = r.departed ∙ rw h in
      let front = answers_of step answer s cs in
      let back = answers_of step answer (final_of step answer s cs) (calls_of ls) in
      let l : length front ≡ p.made = answers_long step answer s cs ∙ parse_calls ends n t in
      rw (h, c, d, append-nil front)
      (ap (λ (x : List Answer). printed i (x ++ cond (departs ls) refused13 [])) (answers_append step answer s cs (calls_of ls))
      ∙ ap (printed i) (append_assoc front back (cond (departs ls) refused13 []))
      ∙ printed_append i front (back ++ cond (departs ls) refused13 [])
      ∙ ap (λ (k : ℕ). printed i front ++ printed (i + k) (back ++ cond (departs ls) refused13 [])) l)

  -- either way
  pub prints_read : Printed
  prints_read = case (eqb p.verdict departing) prints_departing prints_on

-- ---- bytes put out

-- what is still to be printed behind the bytes that wait
abbrev pub rest_of : Held → List ℕ → List ℕ
rest_of h left = cond (eqb h.stopped 0) (prints next answered h.machine (h.lines + 1) (begun_line h ++ left)) []

-- what is still to be printed, by what waits and the rest
pub to_print_lem : (h : Held) (left : List ℕ) → to_print h left ≡ waiting_bytes h ++ rest_of h left
unfolding to_print
to_print_lem h left = refl

-- bytes with zeros behind them
pub front_padded : (bytes : List ℕ) → take (length bytes) (padded bytes) ≡ bytes
front_padded bytes = take_at bytes (replicate (64 - length bytes) 0) (length bytes) refl

module _ (h : Held) (bytes out : List ℕ) (taken : ℕ) where
  -- what is written and what waits are the bytes
  put_bytes : wrote (put_out h bytes out taken) ++ waiting_bytes (put_out h bytes out taken).replay ≡ bytes
  unfolding put_out
  put_bytes =
      let n = min (length bytes) (length out) in
      let l = length-take-le n bytes (omega arith) in
      let a : take n (take n bytes ++ drop n out) ≡ take n bytes = take_at (take n bytes) (drop n out) n l in
      let d : length bytes - n ≡ length (drop n bytes) = sym (length-drop n bytes) in
      let b : take (length bytes - n) (padded (drop n bytes)) ≡ drop n bytes =
      ap (λ (k : ℕ). take k (padded (drop n bytes))) d ∙ front_padded (drop n bytes)
      in
      rw (a, b) (take-append-drop n bytes)

  -- what is then to be printed
  put_rest : (left : List ℕ) → to_print (put_out h bytes out taken).replay left ≡ waiting_bytes (put_out h bytes out taken).replay ++ rest_of h left
  unfolding put_out
  put_rest left = to_print_lem (put_out h bytes out taken).replay left

  -- what is written, and what is then to be printed
  pub put_printed : (left : List ℕ) → wrote (put_out h bytes out taken) ++ to_print (put_out h bytes out taken).replay left ≡ bytes ++ rest_of h left
  put_printed left =
      let w = wrote (put_out h bytes out taken) in
      let x = waiting_bytes (put_out h bytes out taken).replay in
      ap (λ (l : List ℕ). w ++ l) (put_rest left) ∙ sym (append_assoc w x (rest_of h left)) ∙ ap (λ (l : List ℕ). l ++ rest_of h left) put_bytes

-- ---- what is held behind lines, by what comes behind them

module _ (m : Machine) (lines made v : ℕ) (behind left : List ℕ) where
  -- nothing, behind a line that departed
  pub rest_departing : v ≡ 2 → rest_of (settled m lines made v behind) left ≡ []
  unfolding settled
  rest_departing e = rw e

  -- the line carried over and what is left
  pub rest_open : v ≡ 1 → rest_of (settled m lines made v behind) left ≡ prints next answered m (lines + 1 + made) (behind ++ left)
  unfolding settled
  rest_open e =
      let k : lines + made + 0 + 1 ≡ lines + 1 + made = omega arith in
      rw (e, k) (ap (λ (l : List ℕ). prints next answered m (lines + 1 + made) (l ++ left)) (front_padded behind))

  -- what is left
  pub rest_more : v ≡ 0 → rest_of (settled m lines made v behind) left ≡ prints next answered m (lines + 1 + made) left
  unfolding settled
  rest_more e = let k : lines + made + 0 + 1 ≡ lines + 1 + made = omega arith in rw (e, k)
