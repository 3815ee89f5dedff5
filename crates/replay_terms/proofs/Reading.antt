-- What is read of the lines at the front of a text: their calls, and those behind them, are the calls of the whole text.
use Prim.Native.Nat.{ℕ, zero, suc, ◌+◌, ◌≤◌}
use native.Mathlib.Omega.{arith}
use mathlib.Core.Bool.{Bool, true, false, cond}
use mathlib.Core.Path.{◌≡◌, refl, sym, ◌∙◌, ap, subst}
use mathlib.Core.List.{List, [], ◌∷◌, ◌++◌}
use lib.Dec.{eqb}
use lib.ListN.{length, drop, length-append}
use lib.Seq.{drop-drop, drop-append-le}
use Rattle.values.specs.declared.Call.{Call}
use Rattle.values.proofs.Cases.{case}
use Rattle.trace.specs.Calls.{call_at}
use Rattle.trace.specs.Fold.{calls_in}
use Rattle.fields.specs.Lines.{Line, lines_of, numbers_in, is_line, calls_of, departs}
use Rattle.fields.specs.Parse.{first_line, size_of, decided, more, open_line, departing, Parsed, parse}
use Rattle.fields.proofs.First.{first_ended, first_within, line_stands}
use Rattle.fields.proofs.Calls.{parse_first}
use Rattle.replay_terms.proofs.FirstLines.{lines_of_lem, decided_departs}

-- the calls read
abbrev pub calls_read : Parsed → List Call
calls_read p = calls_in p.made p.numbers 0

-- What was read of a text `t`, behind which `z` comes: the calls and whether a line departs, of the whole text by those behind the lines read.
pub record Reads (ends : Bool) (n : ℕ) (t z : List ℕ) (p : Parsed) : Type 0 where
  pub calls : calls_of (lines_of (t ++ z)) ≡ calls_read p ++ cond (eqb p.verdict departing) [] (calls_of (lines_of (drop p.end t ++ z)))
  pub departed : departs (lines_of (t ++ z)) ≡ cond (eqb p.verdict departing) true (departs (lines_of (drop p.end t ++ z)))
  -- the lines read, one that departs or those behind them, are lines of the text
  pub counted : p.made + cond (eqb p.verdict departing) 1 (length (lines_of (drop p.end t ++ z))) ≤ length (lines_of (t ++ z))
  -- as many lines as were asked for where more may come
  pub all_made : p.verdict ≡ more → p.made ≡ n
  -- the verdict is one of the three, and a line that is not decided is not
  pub one_of : p.verdict ≤ 2
  pub undecided_line : p.verdict ≡ open_line → decided ends (drop p.end t) ≡ false

-- a text that begins with a line that does not depart
module _ (t z : List ℕ) (h : is_line (first_line t) ≡ true) where
  abbrev l : Line
  l = first_line t

  abbrev rest : List ℕ
  rest = drop (size_of l) t

  -- its lines
  whole_lines : lines_of (t ++ z) ≡ l ∷ lines_of (rest ++ z)
  whole_lines =
      let e = (line_stands l h).has_ended in
      let i = first_within t e in
      let f = first_ended t z e in
      let n : 1 ≤ length (t ++ z) = (let k = length-append t z in omega arith) in
      let d : drop (size_of l) (t ++ z) ≡ rest ++ z = drop-append-le (size_of l) t z i in
      lines_of_lem (t ++ z) n ∙ rw f (ap (λ (x : List ℕ). l ∷ lines_of x) d)

  -- its calls
  whole_calls : calls_of (lines_of (t ++ z)) ≡ call_at (numbers_in l) 0 ∷ calls_of (lines_of (rest ++ z))
  unfolding calls_of
  whole_calls = ap calls_of whole_lines ∙ rw h

  -- whether a line departs
  whole_departs : departs (lines_of (t ++ z)) ≡ departs (lines_of (rest ++ z))
  unfolding departs
  whole_departs = ap departs whole_lines ∙ rw h

-- nothing is read, and more may come
reads_none : (ends : Bool) (t z : List ℕ) → Reads ends zero t z (parse ends zero t)
unfolding parse calls_in
reads_none ends t z =
    record {
      calls = refl;
      departed = refl;
      counted = omega arith;
      all_made = λ e. refl;
      one_of = omega arith;
      undecided_line = λ e. absurd (omega arith);
    }

-- a first line that is not decided
reads_open : (ends : Bool) (n : ℕ) (t z : List ℕ) → is_line (first_line t) ≡ false → decided ends t ≡ false → Reads ends (suc n) t z (parse ends (suc n) t)
unfolding parse calls_in
reads_open ends n t z h d =
    rw (h, d) (record {
      calls = refl;
      departed = refl;
      counted = omega arith;
      all_made = λ e. absurd (omega arith);
      one_of = omega arith;
      undecided_line = λ e. d;
    })

-- a first line that departs
reads_departing : (ends : Bool) (n : ℕ) (t z : List ℕ) → (ends ≡ true → z ≡ []) → is_line (first_line t) ≡ false → decided ends t ≡ true
    → Reads ends (suc n) t z (parse ends (suc n) t)
unfolding parse calls_in calls_of departs
reads_departing ends n t z none h d =
    let f = decided_departs ends t z none h d in
    let e = lines_of_lem (t ++ z) f.0 in
    let c : calls_of (lines_of (t ++ z)) ≡ [] = ap calls_of e ∙ rw f.1 in
    let g : departs (lines_of (t ++ z)) ≡ true = ap departs e ∙ rw f.1 in
    let y : length (lines_of (t ++ z)) ≡ suc (length (lines_of (drop (size_of (first_line (t ++ z))) (t ++ z)))) = ap length e in
    rw (h, d) (record {
      calls = c;
      departed = g;
      counted = omega arith;
      all_made = λ e. absurd (omega arith);
      one_of = omega arith;
      undecided_line = λ e. absurd (omega arith);
    })

-- a line that does not depart, before what is read behind it
reads_line : (ends : Bool) (n : ℕ) (t z : List ℕ) (h : is_line (first_line t) ≡ true)
    → Reads ends n (rest t z h) z (parse ends n (rest t z h)) → Reads ends (suc n) t z (parse ends (suc n) t)
unfolding parse
reads_line ends n t z h r =
    let p = parse ends n (rest t z h) in
    let s = size_of (first_line t) in
    let five = numbers_in (first_line t) in
    let f = parse_first ends n t h in
    let w : calls_in (p.made + 1) (five ++ p.numbers) 0 ≡ call_at five 0 ∷ calls_read p = rw h at f in
    let d : drop p.end (rest t z h) ≡ drop (s + p.end) t = drop-drop p.end s t in
    let c : calls_of (lines_of (t ++ z)) ≡ call_at five 0 ∷ calls_read p ++ cond (eqb p.verdict departing) [] (calls_of (lines_of (drop (s + p.end) t ++ z))) =
    whole_calls t z h ∙ ap (λ (x : List Call). call_at five 0 ∷ x) r.calls
    ∙ ap (λ (x : List ℕ). call_at five 0 ∷ calls_read p ++ cond (eqb p.verdict departing) [] (calls_of (lines_of (x ++ z)))) d
    in
    let g : departs (lines_of (t ++ z)) ≡ cond (eqb p.verdict departing) true (departs (lines_of (drop (s + p.end) t ++ z))) =
    whole_departs t z h ∙ r.departed ∙ ap (λ (x : List ℕ). cond (eqb p.verdict departing) true (departs (lines_of (x ++ z)))) d
    in
    let q : p.made + cond (eqb p.verdict departing) 1 (length (lines_of (drop (s + p.end) t ++ z))) ≤ length (lines_of (rest t z h ++ z)) =
    subst (λ (x : List ℕ). p.made + cond (eqb p.verdict departing) 1 (length (lines_of (x ++ z))) ≤ length (lines_of (rest t z h ++ z))) d r.counted
    in
    let y : length (lines_of (t ++ z)) ≡ suc (length (lines_of (rest t z h ++ z))) = ap length (whole_lines t z h) in
    let u : p.verdict ≡ open_line → decided ends (drop (s + p.end) t) ≡ false = λ e. ap (decided ends) (sym d) ∙ r.undecided_line e in
    rw h (record {
      calls = c ∙ ap (λ (x : List Call). x ++ cond (eqb p.verdict departing) [] (calls_of (lines_of (drop (s + p.end) t ++ z)))) (sym w);
      departed = g;
      counted = omega arith;
      all_made = λ e. let m = r.all_made e in omega arith;
      one_of = r.one_of;
      undecided_line = u;
    })

-- at most n lines of any text
pub reads : (ends : Bool) (n : ℕ) (t z : List ℕ) → (ends ≡ true → z ≡ []) → Reads ends n t z (parse ends n t)
reads ends zero t z none = reads_none ends t z
reads ends (suc n) t z none =
    case (is_line (first_line t)) (λ h. reads_line ends n t z h (reads ends n (rest t z h) z none))
    (λ h. case (decided ends t) (λ d. reads_departing ends n t z none h d) (λ d. reads_open ends n t z h d))

-- where more may come, and one line was asked for, the first line has been read
pub past_first : (ends : Bool) (n : ℕ) (t : List ℕ) → (parse ends (suc n) t).verdict ≡ more → size_of (first_line t) ≤ (parse ends (suc n) t).end
unfolding parse
past_first ends n t =
    case (is_line (first_line t)) (λ h. rw h (λ e. omega arith))
    (λ h. case (decided ends t) (λ d. rw (h, d) (λ e. absurd (omega arith))) (λ d. rw (h, d) (λ e. absurd (omega arith))))
