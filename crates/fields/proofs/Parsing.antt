-- Lines read one after another: the loop that reads them into a list of calls.
use Prim.Native.Nat.{ℕ, suc, ◌+◌, ◌*◌, ◌-◌, ◌≤◌, ◌<◌}
use native.Mathlib.Omega.{arith}
use native.Mathlib.Nat.{add-zero}
use mathlib.Core.Bool.{Bool, true, false, cond}
use mathlib.Core.Path.{◌≡◌, refl, sym, ◌∙◌, ap, subst}
use mathlib.Core.List.{List, [], ◌++◌, append-nil, append_assoc}
use lib.ListN.{length, take, drop, length-append}
use lib.Seq.{sets-eq, drop-drop, length-take-le, take_at}
use Rattle.std.specs.Prelude.{Option, Some, None, is_some, unwrap_or}
use Rattle.values.proofs.Cases.{case, clash}
use Rattle.fields.specs.Lines.{Line, numbers_in, is_line}
use Rattle.fields.specs.Parse.{first_line, size_of, decided, departing, open_line, verdict_number, Parsed, parse}
use Rattle.fields.specs.declared.Verdict.{Verdict}
use Rattle.fields.specs.declared.Verdict.TheVariants.{More}
use Rattle.fields.specs.Code.{LineRead, LinesRead}
use Rattle.fields.proofs.First.{line_five}

-- what holds before each turn of the loop: the lines read, and those still to be read, are the whole
pub record Parsing (ends : Bool) (n : ℕ) (text calls₀ calls : List ℕ) (at k : ℕ) : Type 0 where
  pub low : k ≤ n
  pub high : at ≤ length text
  pub long : length calls ≡ length calls₀
  pub made : k + (parse ends (n - k) (drop at text)).made ≡ (parse ends n text).made
  pub end : at + (parse ends (n - k) (drop at text)).end ≡ (parse ends n text).end
  pub verdict : (parse ends (n - k) (drop at text)).verdict ≡ (parse ends n text).verdict
  pub numbers : take (k * 5) calls ++ (parse ends (n - k) (drop at text)).numbers ≡ (parse ends n text).numbers

module _ (ends : Bool) (n : ℕ) (text calls₀ calls : List ℕ) (at k : ℕ) (g : Parsing ends n text calls₀ calls at k) where
  -- nothing more is read, where what is still to be read is nothing but a verdict
  stops : (v : Verdict) (after : List ℕ) → parse ends (n - k) (drop at text) ≡ (record { numbers = []; made = 0; end = 0; verdict = verdict_number v })
      → take (k * 5) after ≡ take (k * 5) calls → LinesRead (parse ends n text) after (record { made = k; end = at; verdict = v })
  stops v after e f =
      record {
        made = sym (add-zero k) ∙ ap (λ (p : Parsed). k + p.made) (sym e) ∙ g.made;
        end = sym (add-zero at) ∙ ap (λ (p : Parsed). at + p.end) (sym e) ∙ g.end;
        verdict = ap (λ (p : Parsed). p.verdict) (sym e) ∙ g.verdict;
        numbers = f ∙ sym (append-nil (take (k * 5) calls)) ∙ ap (λ (p : Parsed). take (k * 5) calls ++ p.numbers) (sym e) ∙ g.numbers;
      }

  pub parsing_end : n ≤ k → LinesRead (parse ends n text) calls (record { made = n; end = at; verdict = More })
  unfolding parse
  parsing_end h =
      let low = g.low in
      let same : k ≡ n = omega arith in
      let e : n - k ≡ 0 = omega arith in
      subst (λ (j : ℕ). LinesRead (parse ends n text) calls (record { made = j; end = at; verdict = More })) same
      (stops More calls (ap (λ (j : ℕ). parse ends j (drop at text)) e) refl)

  module _ (h : k < n) (after : List ℕ) where
    abbrev l : Line
    l = first_line (drop at text)

    one_more : parse ends (n - k) (drop at text) ≡ parse ends (suc (n - (k + 1))) (drop at text)
    one_more = let e : n - k ≡ suc (n - (k + 1)) = omega arith in ap (λ (j : ℕ). parse ends j (drop at text)) e

    pub parsing_stop : (v : Verdict) → LineRead (drop at text) calls after k None
        → verdict_number v ≡ cond (decided ends (drop at text)) departing open_line
        → LinesRead (parse ends n text) after (record { made = k; end = at; verdict = v })
    unfolding parse
    parsing_stop v r e =
        let none : is_line l ≡ false = case (is_line l) (λ t. let z = ap is_some r.sized in let y : false ≡ true = z ∙ rw t in clash {b = false} y refl) (λ t. t) in
        stops v after (one_more ∙ rw (none, e)) r.front

    pub parsing_on : (size : ℕ) → LineRead (drop at text) calls after k (Some size) → at + size ≤ length text → k * 5 + 5 ≤ length calls
        → length after ≡ length calls → Parsing ends n text calls₀ after (at + size) (k + 1)
    unfolding parse
    parsing_on size r w room long =
        let t : is_line l ≡ true = case (is_line l) (λ t. t) (λ t. let z = ap is_some r.sized in let y : true ≡ false = z ∙ rw t in clash {b = true} refl y) in
        let s : size ≡ size_of l = ap (λ (o : Option ℕ). unwrap_or o 0) r.sized ∙ rw t in
        let vs : List ℕ = numbers_in l in
        let five = line_five l t in
        let p : Parsed = parse ends (n - (k + 1)) (drop (at + size) text) in
        let d : drop (size_of l) (drop at text) ≡ drop (at + size) text = drop-drop (size_of l) at text ∙ ap (λ (j : ℕ). drop (at + j) text) (sym s) in
        let e : parse ends (n - k) (drop at text) ≡ (record { numbers = vs ++ p.numbers; made = p.made + 1; end = size_of l + p.end; verdict = p.verdict }) =
        one_more ∙ rw (t, d)
        in
        let m : k + (parse ends (n - k) (drop at text)).made ≡ (parse ends n text).made = g.made in
        let m' : (parse ends (n - k) (drop at text)).made ≡ p.made + 1 = ap (λ (q : Parsed). q.made) e in
        let b : at + (parse ends (n - k) (drop at text)).end ≡ (parse ends n text).end = g.end in
        let b' : (parse ends (n - k) (drop at text)).end ≡ size_of l + p.end = ap (λ (q : Parsed). q.end) e in
        let a : after ≡ take (k * 5) calls ++ vs ++ drop (k * 5 + length vs) calls = r.read t ∙ sets-eq vs calls (k * 5) (omega arith) in
        let c : length (take (k * 5) calls ++ vs) ≡ (k + 1) * 5 =
        (let x = length-append (take (k * 5) calls) vs in let y = length-take-le (k * 5) calls (omega arith) in omega arith)
        in
        let f : take ((k + 1) * 5) after ≡ take (k * 5) calls ++ vs =
        ap (take ((k + 1) * 5)) a ∙ take_at (take (k * 5) calls ++ vs) (drop (k * 5 + length vs) calls) ((k + 1) * 5) c
        in
        record {
          low = omega arith;
          high = w;
          long = long ∙ g.long;
          made = omega arith;
          end = omega arith;
          verdict = ap (λ (q : Parsed). q.verdict) (sym e) ∙ g.verdict;
          numbers = ap (λ (x : List ℕ). x ++ p.numbers) f ∙ append_assoc (take (k * 5) calls) vs p.numbers
              ∙ ap (λ (q : Parsed). take (k * 5) calls ++ q.numbers) (sym e) ∙ g.numbers;
        }
