-- A line begun, with what belongs to it of the text behind it: it is the first line of both, and what is parsed of it is what is parsed of both.
use Prim.Native.Nat.{ℕ, zero, suc, ◌+◌, ◌-◌, ◌≤◌}
use native.Mathlib.Omega.{arith}
use mathlib.Core.Bool.{Bool, true, false, cond, ◌&&◌, and-true}
use mathlib.Core.Logic.{◌⊎◌, inl, inr, ⊎_elim}
use mathlib.Core.Path.{◌≡◌, refl, sym, ◌∙◌, ap}
use mathlib.Core.List.{List, [], ◌∷◌, ◌++◌, append_assoc, append-nil}
use lib.Dec.{eqb}
use lib.ListN.{length, drop, length-append, length-drop, drop_of_length-le}
use lib.Seq.{drop-append_seam}
use borrow.Author.Tests.{eq-eqb}
use Rattle.values.specs.Lists.{any}
use Rattle.values.proofs.Cases.{case, clash}
use Rattle.printed.specs.Printed.{line_feed}
use Rattle.fields.specs.Lines.{Line, line_from, is_line}
use Rattle.fields.specs.Parse.{first_line, size_of, decided, more, open_line, departing, Parsed, parsed_from, with_line, parse}
use Rattle.fields.proofs.First.{first_ended, first_open, first_goes_on, no_feed_open, long_departs, open_departs, long_decided, ended_decided}
use Rattle.pieces.specs.Pieces.{is_feed, onto}

-- ---- the bytes that go onto a line

-- they are the text's front
pub onto_front : (n : ℕ) (t : List ℕ) → onto n t ++ drop (length (onto n t)) t ≡ t
unfolding onto
onto_front zero t = refl
onto_front (suc n) [] = refl
onto_front (suc n) (b ∷ bs) =
    case (eqb b line_feed) (λ u. rw u) (λ u. rw u (ap (λ (r : List ℕ). b ∷ r) (onto_front n bs)))

-- a line feed is the last of them
pub onto_ended : (n : ℕ) (t : List ℕ) → (first_line (onto n t)).ended ≡ true → length (onto n t) ≡ size_of (first_line (onto n t))
unfolding onto first_line
onto_ended zero t h = clash {b = false} h refl
onto_ended (suc n) [] h = clash {b = false} h refl
onto_ended (suc n) (b ∷ bs) h =
    case (eqb b line_feed) (λ u. rw u)
    (λ u.
    let k : (first_line (onto n bs)).ended ≡ true = rw u at h in
    let r = onto_ended n bs k in
    rw u (omega arith))

-- without a line feed they are all of the text, or as many as asked
pub onto_open : (n : ℕ) (t : List ℕ) → (first_line (onto n t)).ended ≡ false → (length (onto n t) ≡ n) ⊎ (length (onto n t) ≡ length t)
unfolding onto first_line
onto_open zero t h = inl refl
onto_open (suc n) [] h = inr refl
onto_open (suc n) (b ∷ bs) h =
    case (eqb b line_feed) (λ u. let z : true ≡ false = rw u at h in clash {b = true} refl z)
    (λ u.
    let k : (first_line (onto n bs)).ended ≡ false = rw u at h in
    rw u (⊎_elim (λ e. inl (ap suc e)) (λ e. inr (ap suc e)) (onto_open n bs k)))

-- ---- one line parsed

-- by the first line, and whether it is decided
abbrev one_by : Line → Bool → Parsed
one_by l d = cond (is_line l) (with_line l (parsed_from [] 0 0 more)) (parsed_from [] 0 0 (cond d departing open_line))

one_is : (ends : Bool) (t : List ℕ) → parse ends 1 t ≡ one_by (first_line t) (decided ends t)
unfolding parse
one_is ends t = refl

-- what is parsed of a line begun with what belongs to it of the text
pub record OneParsed (ends : Bool) (begun text whole : List ℕ) (taken : ℕ) : Type 0 where
  pub same : parse ends 1 (begun ++ text) ≡ parse (ends && eqb taken (length text)) 1 whole
  pub open_behind : (parse ends 1 (begun ++ text)).verdict ≡ 1
      → drop (parse ends 1 (begun ++ text)).end whole ≡ drop (parse ends 1 (begun ++ text)).end (begun ++ text)
  pub more_taken : (parse ends 1 (begun ++ text)).verdict ≡ 0 → taken ≡ length text - length (drop (parse ends 1 (begun ++ text)).end (begun ++ text))

module _ (ends : Bool) (begun text : List ℕ) (k : ℕ) (nf : any is_feed begun ≡ false) (e : length begun + k ≡ 64) where
  abbrev x : List ℕ
  x = onto k text

  abbrev rest : List ℕ
  rest = drop (length x) text

  abbrev last : Bool
  last = ends && eqb (length x) (length text)

  both : begun ++ text ≡ begun ++ x ++ rest
  both = ap (λ (r : List ℕ). begun ++ r) (sym (onto_front k text)) ∙ sym (append_assoc begun x rest)

  first_whole : first_line (begun ++ x) ≡ line_from (begun ++ (first_line x).bytes) (first_line x).ended
  first_whole = first_goes_on begun x (no_feed_open begun nf)

  -- the line feed is there
  one_ended : (first_line x).ended ≡ true → OneParsed ends begun text (begun ++ x) (length x)
  one_ended h =
      let w : (first_line (begun ++ x)).ended ≡ true = ap (λ (l : Line). l.ended) first_whole ∙ h in
      let f : first_line (begun ++ text) ≡ first_line (begun ++ x) = ap first_line both ∙ first_ended (begun ++ x) rest w in
      let fe : (first_line (begun ++ text)).ended ≡ true = ap (λ (l : Line). l.ended) f ∙ w in
      let s : parse ends 1 (begun ++ text) ≡ one_by (first_line (begun ++ x)) true =
      one_is ends (begun ++ text) ∙ ap (one_by (first_line (begun ++ text))) (ended_decided ends (begun ++ text) fe)
      ∙ ap (λ (l : Line). one_by l true) f
      in
      let v : parse last 1 (begun ++ x) ≡ one_by (first_line (begun ++ x)) true =
      one_is last (begun ++ x) ∙ ap (one_by (first_line (begun ++ x))) (ended_decided last (begun ++ x) w)
      in
      record {
        same = s ∙ sym v;
        open_behind = λ q. absurd (never s q);
        more_taken = λ q. taken s q;
      }
    where
      -- the verdict is 0 or 2
      never : parse ends 1 (begun ++ text) ≡ one_by (first_line (begun ++ x)) true → (parse ends 1 (begun ++ text)).verdict ≡ 1 → ⊥
      never s q =
          case (is_line (first_line (begun ++ x)))
          (λ u. let z : ◌≡◌ {A = ℕ} 0 1 = sym (ap (λ (p : Parsed). p.verdict) s ∙ rw u) ∙ q in absurd (omega arith))
          (λ u. let z : ◌≡◌ {A = ℕ} 2 1 = sym (ap (λ (p : Parsed). p.verdict) s ∙ rw u) ∙ q in absurd (omega arith))

      taken : parse ends 1 (begun ++ text) ≡ one_by (first_line (begun ++ x)) true → (parse ends 1 (begun ++ text)).verdict ≡ 0
          → length x ≡ length text - length (drop (parse ends 1 (begun ++ text)).end (begun ++ text))
      taken s q =
          case (is_line (first_line (begun ++ x)))
          (λ u.
          let n : (parse ends 1 (begun ++ text)).end ≡ size_of (first_line (begun ++ x)) + 0 = ap (λ (p : Parsed). p.end) s ∙ rw u in
          let z : size_of (first_line (begun ++ x)) ≡ length begun + length (first_line x).bytes + 1 =
          ap size_of first_whole ∙ ap (λ (j : ℕ). j + 1) (length-append begun (first_line x).bytes)
          in
          let y = onto_ended k text h in
          let l = length-append begun x in
          let a : (parse ends 1 (begun ++ text)).end ≡ length (begun ++ x) = omega arith in
          let d : drop (parse ends 1 (begun ++ text)).end (begun ++ text) ≡ rest =
          ap (λ (j : ℕ). drop j (begun ++ text)) a ∙ ap (drop (length (begun ++ x))) both ∙ drop-append_seam (begun ++ x) rest
          in
          let r = length-drop (length x) text in
          let b = ap length (onto_front k text) in
          let c = length-append x rest in
          let f = ap length d in
          omega arith)
          (λ u. let z : ◌≡◌ {A = ℕ} 2 0 = sym (ap (λ (p : Parsed). p.verdict) s ∙ rw u) ∙ q in absurd (omega arith))

  module _ (h : (first_line x).ended ≡ false) where
    open_whole : first_line (begun ++ x) ≡ line_from (begun ++ x) false
    open_whole = first_whole ∙ rw (h, first_open x h)

    still_open : (first_line (begun ++ x)).ended ≡ false
    still_open = ap (λ (l : Line). l.ended) open_whole

    -- 64 bytes are there, and no line feed
    one_long : length x ≡ k → OneParsed ends begun text (begun ++ x) (length x)
    one_long q =
        let l = length-append begun x in
        let w : 64 ≤ length (first_line (begun ++ x)).bytes = (let y = ap (λ (z : Line). length z.bytes) open_whole in omega arith) in
        let f : first_line (begun ++ text) ≡ line_from (begun ++ x ++ (first_line rest).bytes) (first_line rest).ended =
        ap first_line both ∙ first_goes_on (begun ++ x) rest still_open
        in
        let y : 64 ≤ length (first_line (begun ++ text)).bytes =
        (let a = ap (λ (z : Line). length z.bytes) f in let b = length-append (begun ++ x) (first_line rest).bytes in omega arith)
        in
        let s : parse ends 1 (begun ++ text) ≡ parsed_from [] 0 0 departing =
        one_is ends (begun ++ text) ∙ rw (long_departs (first_line (begun ++ text)) y, long_decided ends (begun ++ text) y)
        in
        let v : parse last 1 (begun ++ x) ≡ parsed_from [] 0 0 departing =
        one_is last (begun ++ x) ∙ rw (long_departs (first_line (begun ++ x)) w, long_decided last (begun ++ x) w)
        in
        record {
          same = s ∙ sym v;
          open_behind = λ u. let z : ◌≡◌ {A = ℕ} 2 1 = sym (ap (λ (p : Parsed). p.verdict) s) ∙ u in absurd (omega arith);
          more_taken = λ u. let z : ◌≡◌ {A = ℕ} 2 0 = sym (ap (λ (p : Parsed). p.verdict) s) ∙ u in absurd (omega arith);
        }

    -- the text has no more
    one_all : length x ≡ length text → OneParsed ends begun text (begun ++ x) (length x)
    one_all q =
        let r : rest ≡ [] = drop_of_length-le text {i = length x} (omega arith) in
        let a : x ≡ text = sym (append-nil x) ∙ ap (λ (z : List ℕ). x ++ z) (sym r) ∙ onto_front k text in
        let b : last ≡ ends = ap (λ (z : Bool). ends && z) (eq-eqb (length x) (length text) q) ∙ and-true ends in
        let f : (first_line (begun ++ text)).ended ≡ false = ap (λ (z : List ℕ). (first_line (begun ++ z)).ended) (sym a) ∙ still_open in
        let s : parse ends 1 (begun ++ text) ≡ parsed_from [] 0 0 (cond (decided ends (begun ++ text)) departing open_line) =
        one_is ends (begun ++ text) ∙ rw (open_departs (first_line (begun ++ text)) f)
        in
        record {
          same = ap (λ (z : List ℕ). parse ends 1 (begun ++ z)) (sym a) ∙ ap (λ (z : Bool). parse z 1 (begun ++ x)) (sym b);
          open_behind = λ u. ap (λ (z : List ℕ). drop (parse ends 1 (begun ++ text)).end (begun ++ z)) a;
          more_taken = λ u. absurd (other s u);
        }
      where
        other : parse ends 1 (begun ++ text) ≡ parsed_from [] 0 0 (cond (decided ends (begun ++ text)) departing open_line)
            → (parse ends 1 (begun ++ text)).verdict ≡ 0 → ⊥
        other s u =
            case (decided ends (begun ++ text))
            (λ d. let z : ◌≡◌ {A = ℕ} 2 0 = sym (ap (λ (p : Parsed). p.verdict) s ∙ rw d) ∙ u in absurd (omega arith))
            (λ d. let z : ◌≡◌ {A = ℕ} 1 0 = sym (ap (λ (p : Parsed). p.verdict) s ∙ rw d) ∙ u in absurd (omega arith))

  pub one_parsed : OneParsed ends begun text (begun ++ x) (length x)
  one_parsed =
      case (first_line x).ended one_ended
      (λ h. ⊎_elim (one_long h) (one_all h) (onto_open k text h))
