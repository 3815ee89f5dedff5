-- Replayed lines printed: from the codes of a run's answers to the lines of the answers.
use Prim.Native.Nat.{ℕ, zero, suc, ◌+◌, ◌*◌, ◌/◌, ◌≤◌, ◌<◌, min}
use native.Mathlib.Omega.{arith}
use native.Mathlib.Nat.{add-zero, zero-add}
use mathlib.Core.Bool.{Bool, false, cond}
use mathlib.Core.Path.{◌≡◌, sym, ◌∙◌, ap, subst}
use mathlib.Core.List.{List, [], ◌∷◌, ◌++◌, map, append-nil}
use lib.Dec.{eqb}
use lib.ListN.{length, get_or, take, drop}
use lib.Seq.{get_or-take, get_or-drop, drop-drop}
use borrow.Author.Tests.{eqb-true, ne_eqb}
use Rattle.values.proofs.Cases.{case}
use Rattle.values.specs.declared.Call.{Call}
use Rattle.values.specs.declared.Answer.{Answer}
use Rattle.values.specs.declared.Answer.TheVariants as answer
use Rattle.trace.specs.Codes.{code_of}
use Rattle.trace.specs.Fold.{calls_in, Left, left_of}
use Rattle.trace.proofs.Folds.{answers_long}
use Rattle.printed.specs.Printed.{line_of, printed}
use Rattle.printed.specs.Code.{Laid, code_line, code_lines, Told}
use Rattle.printed.proofs.Laying.{over_none, laid_as, laid_then, laid_within}
use Rattle.printed.proofs.Told.{told_line, told_code, AllTold, told_lines, printed_append}
use Rattle.fields.specs.Parse.{departing, verdict_number, Parsed, parse}
use Rattle.fields.specs.Code.{LinesRead}
use Rattle.fields.specs.declared.Parsed as read
use Rattle.fields.proofs.First.{parse_few}
use Rattle.fields.proofs.Calls.{parse_32, parse_long, parse_calls, parse_room}
use Rattle.answers.specs.Signed.{Tells}
use Rattle.answers.proofs.Told.{list_told}
use Rattle.soundness_test.specs.Formed.{Formed}
use Rattle.step.specs.Meets.{state_refusal}
use Rattle.machine.specs.Machine.{Machine}
use Rattle.step.specs.Run.{next, answered, answers, run}
use Rattle.step.proofs.Runs.{run_as}
use Rattle.batch.specs.Batch.{refused13, machine_after, parsed_answers, stops}
use Rattle.batch.specs.Code.{Departed}

-- ---- the line of a line that departed

pub departed_line : (before after : List ℕ) (at end line verdict : ℕ) → verdict ≡ 2 → Laid before after at end 34 (code_line line false 0x20000000D)
    → Departed before after at end line verdict
unfolding printed
departed_line before after at end line verdict e l =
    let s : code_line line false 0x20000000D ≡ printed line refused13 =
    told_line line false (answer.Refused 13) (omega arith) ∙ sym (append-nil (line_of line (answer.Refused 13)))
    in
    record { laid = rw e (laid_as before after at end 34 (code_line line false 0x20000000D) l (printed line refused13) s) }

pub departed_none : (out : List ℕ) (at line verdict : ℕ) → (verdict ≡ 2 → ⊥) → Departed out out at at line verdict
unfolding printed
departed_none out at line verdict z =
    record {
      laid = rw (ne_eqb verdict 2 z) (record { same = sym (over_none out at); ends = sym (add-zero at); short = omega arith });
    }

-- ---- the answers' lines

-- answers that their codes tell, over a list of calls of which a front was run
pub all_told : (calls codes behind : List ℕ) (made n i : ℕ) (ys : List Answer) → i + length ys ≤ made → drop i codes ≡ map code_of ys ++ behind
    → Tells n (take (made * 5) calls) i ys → AllTold calls codes i ys
unfolding Tells AllTold
all_told calls codes behind made n i [] h e t = tt
all_told calls codes behind made zero i (y ∷ ys) h e t = absurd t
all_told calls codes behind made (suc n) i (y ∷ ys) h e t =
    let c : get_or codes i 0 ≡ code_of y =
    ap (λ (j : ℕ). get_or codes j 0) (sym (add-zero i)) ∙ sym (get_or-drop i codes 0 0) ∙ ap (λ (l : List ℕ). get_or l 0 0) e
    in
    let d : drop (i + 1) codes ≡ map code_of ys ++ behind = sym (drop-drop 1 i codes) ∙ ap (drop 1) e in
    let g : get_or (take (made * 5) calls) (i * 5) 0 ≡ get_or calls (i * 5) 0 = get_or-take (made * 5) calls (i * 5) 0 (omega arith) in
    (c, subst (λ (x : ℕ). Told (eqb x 1) y) g t.0, all_told calls codes behind made n (i + 1) ys (omega arith) d t.1)

-- each code is below 3 × 2^32
told_low : (calls codes : List ℕ) (i : ℕ) (ys : List Answer) → AllTold calls codes i ys → (k : ℕ) → k < length ys → get_or codes (i + k) 0 < 0x300000000
unfolding AllTold
told_low calls codes i [] t k h = absurd (omega arith)
told_low calls codes i (y ∷ ys) t zero h =
    let c = told_code (eqb (get_or calls (i * 5) 0) 1) y t.1 in
    let e : get_or codes (i + 0) 0 ≡ code_of y = ap (λ (j : ℕ). get_or codes j 0) (add-zero i) ∙ t.0 in
    omega arith
told_low calls codes i (y ∷ ys) t (suc k) h =
    let e : i + 1 + k ≡ i + suc k = omega arith in
    subst (λ (j : ℕ). get_or codes j 0 < 0x300000000) e (told_low calls codes (i + 1) ys t.2 k (omega arith))

-- the same from the front
pub codes_low : (calls codes : List ℕ) (ys : List Answer) → AllTold calls codes 0 ys → (k : ℕ) → k < length ys → get_or codes k 0 < 0x300000000
codes_low calls codes ys t k h = subst (λ (j : ℕ). get_or codes j 0 < 0x300000000) (zero-add k) (told_low calls codes 0 ys t k h)

-- ---- lines parsed, run and printed

-- the lines made, and one that departs, are as many as asked at most
pub made_few : (ends : Bool) (n : ℕ) (t : List ℕ) → (parse ends n t).made + stops (parse ends n t).verdict ≤ n
made_few ends n t =
    let few = parse_few ends n t in
    case (eqb (parse ends n t).verdict departing)
    (λ u. let k = parse_room ends n t (eqb-true (parse ends n t).verdict 2 u) in rw u (omega arith))
    (λ u. rw u (omega arith))

module _ (m : Machine) (ends : Bool) (n : ℕ) (text calls : List ℕ) (p : read.Parsed) (l : LinesRead (parse ends n text) calls p) where
  abbrev P : Parsed
  P = parse ends n text

  abbrev cs : List Call
  cs = calls_in P.made P.numbers 0

  -- the numbers that are run
  pub numbers_run : take (p.made * 5) calls ≡ P.numbers
  numbers_run = l.numbers

  pub calls_made_lem : length (answers m cs) ≡ p.made
  calls_made_lem = answers_long next answered m cs ∙ parse_calls ends n text ∙ sym l.made

  few : verdict_number p.verdict ≡ 2 → P.made < n
  few v = parse_room ends n text (sym l.verdict ∙ v)

  -- where a line departed, there is room for one more
  pub departed_room : (out middle : List ℕ) (at : ℕ) (bytes : List ℕ) → Laid out middle 0 at (p.made * 34) bytes → n * 34 ≤ length middle
      → verdict_number p.verdict ≡ 2 → at + 34 ≤ length middle
  departed_room out middle at bytes a w v =
      let ends = a.ends in
      let short = a.short in
      let k = few v in
      let made = l.made in
      omega arith

  -- what the run leaves
  module _ (codes₀ : List ℕ) (r : Left Machine) (room : p.made ≤ length codes₀) (e : r ≡ run m (take (p.made * 5) calls) codes₀) where
    ran : r ≡ left_of next answered m cs codes₀
    ran =
        let long = ap length numbers_run ∙ parse_long ends n text in
        let made = l.made in
        let k : P.made ≡ min (length (take (p.made * 5) calls) / 5) (length codes₀) = omega arith in
        e ∙ run_as m (take (p.made * 5) calls) codes₀ P.made k ∙ ap (λ (x : List ℕ). left_of next answered m (calls_in P.made x 0) codes₀) numbers_run

    pub ran_machine : r.machine ≡ machine_after m P
    unfolding left_of
    ran_machine = ap (λ (x : Left Machine). x.machine) ran

    ran_codes : r.answers ≡ map code_of (answers m cs) ++ drop (length cs) codes₀
    unfolding left_of
    ran_codes = ap (λ (x : Left Machine). x.answers) ran

    pub ran_told : (state_refusal m ≡ 0 → Formed m) → AllTold calls r.answers 0 (answers m cs)
    ran_told f =
        let t = list_told m P.numbers f (parse_32 ends n text) P.made 0 in
        all_told calls r.answers (drop (length cs) codes₀) p.made P.made 0 (answers m cs) (let c = calls_made_lem in omega arith) ran_codes
        (subst (λ (x : List ℕ). Tells P.made x 0 (answers m cs)) (sym numbers_run) t)

    -- what is printed
    module _ (t : AllTold calls r.answers 0 (answers m cs)) (lines : ℕ) (out middle after : List ℕ) (at end : ℕ) (wide : n * 34 ≤ length out)
        (fits : p.made ≤ n) (a : Laid out middle 0 at (p.made * 34) (code_lines p.made (lines + 1) calls r.answers 0))
        (b : Departed middle after at end (lines + 1 + p.made) (verdict_number p.verdict)) where
      lines_are : code_lines p.made (lines + 1) calls r.answers 0 ≡ printed (lines + 1) (answers m cs)
      lines_are =
          ap (λ (k : ℕ). code_lines k (lines + 1) calls r.answers 0) (sym calls_made_lem) ∙ told_lines (lines + 1) calls r.answers 0 (answers m cs) t

      abbrev tail : List Answer
      tail = cond (eqb (verdict_number p.verdict) departing) refused13 []

      whole : printed (lines + 1) (answers m cs) ++ printed (lines + 1 + p.made) tail ≡ printed (lines + 1) (parsed_answers m P)
      whole =
          ap (λ (k : ℕ). printed (lines + 1) (answers m cs) ++ printed (lines + 1 + k) tail) (sym calls_made_lem)
          ∙ sym (printed_append (lines + 1) (answers m cs) tail)
          ∙ ap (λ (v : ℕ). printed (lines + 1) (answers m cs ++ cond (eqb v departing) refused13 [])) l.verdict

      stops_room : p.made + stops (verdict_number p.verdict) ≤ n
      stops_room = rw (l.made, l.verdict) (made_few ends n text)

      pub batch_laid : Laid out after 0 end (n * 34) (printed (lines + 1) (parsed_answers m P))
      batch_laid =
          let xs = code_lines p.made (lines + 1) calls r.answers 0 in
          let ys = printed (lines + 1 + p.made) tail in
          let short = a.short in
          let ab = laid_then out middle 0 at (p.made * 34) xs a after end (stops (verdict_number p.verdict) * 34) ys (omega arith) b.laid in
          let w : length (xs ++ ys) ≤ n * 34 = (let s = ab.short in let k : p.made + stops (verdict_number p.verdict) ≤ n = stops_room in omega arith) in
          laid_as out after 0 end (n * 34) (xs ++ ys) (laid_within out after 0 end (p.made * 34 + stops (verdict_number p.verdict) * 34) (xs ++ ys) ab (n * 34) w)
          (printed (lines + 1) (parsed_answers m P)) (ap (λ (x : List ℕ). x ++ ys) lines_are ∙ whole)
