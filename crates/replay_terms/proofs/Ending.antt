-- A part goes on while something is to be done, so that all is printed where the last part is repeated until nothing comes.
use Prim.Native.Nat.{ℕ, ◌+◌, ◌-◌, ◌≤◌, min}
use native.Mathlib.Omega.{arith}
use mathlib.Core.Bool.{Bool, true, false, cond}
use mathlib.Core.Path.{◌≡◌, refl, sym, ◌∙◌, ap, subst}
use mathlib.Core.List.{List, [], ◌∷◌, ◌++◌, append-nil}
use lib.Dec.{eqb, leb}
use lib.ListN.{length, take, drop, replicate, length-append, length-drop}
use lib.Seq.{length-take-le}
use borrow.Author.Tests.{leb-false, eqb-false}
use Rattle.values.specs.Lists.{any}
use Rattle.values.specs.declared.Answer.{Answer}
use Rattle.values.proofs.Cases.{case, and_no}
use Rattle.printed.specs.Printed.{printed, feeds}
use Rattle.printed.proofs.Told.{lines_counted}
use Rattle.fields.specs.Parse.{Parsed, parse}
use Rattle.fields.proofs.First.{undecided}
use Rattle.fields.proofs.Calls.{parse_calls}
use Rattle.step.specs.Run.{next, answered}
use Rattle.pieces.specs.Pieces.{is_feed}
use Rattle.batch.specs.Batch.{machine_after, parsed_answers}
use Rattle.replay.specs.Replay.{prints}
use Rattle.replay.specs.Parts.{Held, begun_line, waiting_bytes, kept, Parted, put_out, lines_at_most, replayed}
use Rattle.held.proofs.Keeping.{kept_means}
use Rattle.replay_terms.specs.Uses.{Use, ends_with, used, fed, to_print, WaitingThere, IsKept, NothingComes, GoesOn, Repeated}
use Rattle.replay_terms.proofs.Reading.{calls_read}
use Rattle.replay_terms.proofs.Printing.{rest_of, to_print_lem, answers_counted}
use Rattle.replay_terms.proofs.OnePart.{
  some_lines,
  part_refused,
  part_waiting,
  part_stopped,
  part_replayed,
  none_waiting,
  verdict_cases,
  bytes,
  after,
  behind,
  read,
  after_open,
  by_verdict,
}
use Rattle.replay_terms.proofs.Uses.{none_behind, whole_text, parts_agree, start_prints, nothing_printed}

-- a list without elements
no_elements : (l : List ℕ) → length l ≡ 0 → l ≡ []
no_elements [] h = refl
no_elements (x ∷ xs) h = absurd (omega arith)

-- nothing is printed where there are no answers, only
none_answered : (i : ℕ) (answers : List Answer) → printed i answers ≡ [] → length answers ≡ 0
unfolding feeds
none_answered i answers e = sym (lines_counted i answers) ∙ ap feeds e

-- ---- lines replayed

module _ (ends : Bool) (yes : ends ≡ true) (n : ℕ) (h : Held) (text z out : List ℕ) (none : ends ≡ true → z ≡ []) (some : 1 ≤ n) where
  abbrev p : Parsed
  p = parse ends n (begun_line h ++ text)

  -- where nothing is printed, a line is not decided
  only_open : bytes ends n h text z out none ≡ [] → p.verdict ≡ 1
  only_open b =
      let r = read ends n h text z out none in
      let a = none_answered (h.lines + 1) (parsed_answers h.machine p) b in
      let c = answers_counted next answered h.machine (calls_read p) (eqb p.verdict 2) in
      let l = parse_calls ends n (begun_line h ++ text) in
      verdict_cases p.verdict r.one_of (λ e. let d = r.all_made e in absurd (omega arith)) (λ e. e)
      (λ e.
      let d : cond {A = ℕ} (eqb p.verdict 2) 1 0 ≡ 1 = rw e in
      absurd (omega arith))

  -- and nothing is behind the lines
  none_left : p.verdict ≡ 1 → behind ends n h text z out none ≡ []
  none_left e =
      let x = behind ends n h text z out none in
      let u = undecided ends x ((read ends n h text z out none).undecided_line e) in
      let l = leb-false 1 (length x) (and_no ends (leb 1 (length x)) yes u.2) in
      no_elements x (omega arith)

  -- so the text prints nothing
  prints_nothing : any is_feed (begun_line h) ≡ false → bytes ends n h text z out none ≡ []
      → prints next answered h.machine (h.lines + 1) (begun_line h ++ text ++ z) ≡ []
  prints_nothing k b =
      let e = only_open b in
      let m = machine_after h.machine p in
      let i = h.lines + 1 + p.made in
      by_verdict ends n h text z out none some k ∙ ap (λ (l : List ℕ). l ++ after ends n h text z out none) b ∙ after_open ends n h text z out none e
      ∙ ap (λ (l : List ℕ). prints next answered m i (l ++ z)) (none_left e) ∙ ap (λ (l : List ℕ). prints next answered m i l) (none yes)
      ∙ nothing_printed m i

-- ---- a part

-- how much is written
put_written : (h : Held) (bytes out : List ℕ) (taken : ℕ) → (put_out h bytes out taken).written ≡ min (length bytes) (length out)
unfolding put_out
put_written h bytes out taken = refl

-- nothing is written of bytes only where there are none
none_put : (h : Held) (bytes out : List ℕ) (taken : ℕ) → 1 ≤ length out → (put_out h bytes out taken).written ≡ 0 → length bytes ≡ 0
none_put h bytes out taken r w = let e = put_written h bytes out taken in omega arith

module _ (h : Held) (left : List ℕ) (u : Use) (k : IsKept h) (there : WaitingThere h) (c : NothingComes h left u) where
  abbrev t : List ℕ
  t = take u.offered left

  -- no bytes wait
  some_waiting : eqb h.waiting 0 ≡ false → ⊥
  some_waiting w =
      let e = part_waiting (ends_with u left) h t u.slice k w in
      let z = none_put h (waiting_bytes h) u.slice 0 c.room (ap (λ (r : Parted). r.written) (sym e) ∙ c.none_written) in
      let l : length (waiting_bytes h) ≡ h.waiting = length-take-le h.waiting h.pending there in
      eqb-false h.waiting 0 w (sym l ∙ z)

  -- a line departed
  has_stopped : eqb h.waiting 0 ≡ true → eqb h.stopped 0 ≡ false → to_print h left ≡ []
  has_stopped w s = to_print_lem h left ∙ ap (λ (l : List ℕ). l ++ rest_of h left) (none_waiting h w) ∙ rw s

  -- lines are replayed
  goes_replayed : eqb h.waiting 0 ≡ true → eqb h.stopped 0 ≡ true → to_print h left ≡ []
  unfolding replayed
  goes_replayed w s =
      let ends = ends_with u left in
      let n = lines_at_most h.held (length u.slice) in
      let none = none_behind h left u in
      let b = bytes ends n h t (drop u.offered left) u.slice none in
      let e : used h left u ≡ replayed ends n h t u.slice = part_replayed ends h t u.slice k w s in
      let o = none_put _ b u.slice _ c.room (ap (λ (r : Parted). r.written) (sym e) ∙ c.none_written) in
      let f = (kept_means h.lines h.held h.waiting h.begun k).no_feed in
      sym (whole_text h left u w s)
      ∙ prints_nothing ends c.ends n h t (drop u.offered left) u.slice none (some_lines h.held (length u.slice)) f (no_elements b o)

  -- in every case
  goes : to_print h left ≡ []
  goes = case (eqb h.waiting 0) (λ w. case (eqb h.stopped 0) (goes_replayed w) (has_stopped w)) (λ w. absurd (some_waiting w))

pub goes_on : GoesOn
goes_on = goes

-- ---- the last part repeated

-- a part that is not refused passed the test
kept_unrefused : (h : Held) (left : List ℕ) (u : Use) → (used h left u).refusal ≡ 0 → IsKept h
kept_unrefused h left u e =
    case (kept h.lines h.held h.waiting h.begun) (λ k. k)
    (λ k.
    let q = part_refused (ends_with u left) h (take u.offered left) u.slice k in
    let z : ◌≡◌ {A = ℕ} 3 0 = ap (λ (r : Parted). r.refusal) (sym q) ∙ e in
    absurd (omega arith))

-- the bytes that wait are there, behind any part
put_there : (h : Held) (bytes out : List ℕ) (taken : ℕ) → WaitingThere (put_out h bytes out taken).replay
unfolding put_out
put_there h bytes out taken =
    let n = min (length bytes) (length out) in
    let a = length-append (drop n bytes) (replicate (64 - length (drop n bytes)) 0) in
    let d = length-drop n bytes in
    omega arith

-- by its case
part_there : (h : Held) (left : List ℕ) (u : Use) → WaitingThere h → WaitingThere (used h left u).replay
unfolding replayed
part_there h left u there =
    let ends = ends_with u left in
    let t = take u.offered left in
    let out = u.slice in
    case (kept h.lines h.held h.waiting h.begun)
    (λ k.
    case (eqb h.waiting 0)
    (λ w.
    case (eqb h.stopped 0)
    (λ s. subst (λ (r : Parted). WaitingThere r.replay) (sym (part_replayed ends h t out k w s)) (put_there _ _ out _))
    (λ s. subst (λ (r : Parted). WaitingThere r.replay) (sym (part_stopped ends h t out k w s)) there))
    (λ w. subst (λ (r : Parted). WaitingThere r.replay) (sym (part_waiting ends h t out k w)) (put_there h (waiting_bytes h) out 0)))
    (λ k. subst (λ (r : Parted). WaitingThere r.replay) (sym (part_refused ends h t out k)) there)

-- and behind uses
fed_there : (h : Held) (text : List ℕ) (us : List Use) → WaitingThere h → WaitingThere (fed h text us).replay
unfolding fed
fed_there h text [] there = there
fed_there h text (u ∷ us) there = let r = used h text u in fed_there r.replay (drop r.taken text) us (part_there h text u there)

pub repeated : Repeated
repeated h text us u n c e =
    let f = fed h text us in
    let w = n.none_waiting in
    let there : WaitingThere h = omega arith in
    let g = goes_on f.replay f.left u (kept_unrefused f.replay f.left u e) (fed_there h text us there) c in
    sym (append-nil f.written) ∙ ap (λ (l : List ℕ). f.written ++ l) (sym g) ∙ parts_agree h text us ∙ start_prints h text n
