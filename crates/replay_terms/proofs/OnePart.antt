-- One part: what it writes, and what is then to be printed, is what was to be printed.
use Prim.Native.Nat.{ℕ, zero, suc, ◌+◌, ◌-◌, ◌≤◌}
use native.Mathlib.Omega.{arith}
use mathlib.Core.Bool.{Bool, true, false, cond, ◌&&◌}
use mathlib.Core.Path.{◌≡◌, refl, sym, ◌∙◌, ap}
use mathlib.Core.List.{List, [], ◌++◌}
use lib.Dec.{eqb, leb}
use lib.ListN.{length, take, drop, length-append, length-drop}
use lib.Seq.{drop-append-le, drop-append-add, drop-append_seam}
use borrow.Author.Tests.{eqb-true, eqb-false}
use Rattle.values.specs.Lists.{any}
use Rattle.values.proofs.Cases.{case}
use Rattle.printed.specs.Printed.{printed}
use Rattle.fields.specs.Parse.{first_line, size_of, Parsed, parse, more}
use Rattle.fields.proofs.First.{first_goes_on, no_feed_open, parse_within}
use Rattle.step.specs.Run.{next, answered}
use Rattle.pieces.specs.Pieces.{is_feed}
use Rattle.batch.specs.Batch.{machine_after, parsed_answers}
use Rattle.replay.specs.Replay.{prints}
use Rattle.replay.specs.Parts as parts
use Rattle.replay.specs.Parts.{Held, begun_line, waiting_bytes, kept, parted_from, put_out, lines_at_most, settled, replayed, part}
use Rattle.replay.proofs.Parting as parting
use Rattle.replay.proofs.Parting.{roomy}
use Rattle.replay_terms.specs.Uses.{wrote, to_print}
use Rattle.replay_terms.proofs.Reading.{Reads, reads, past_first}
use Rattle.replay_terms.proofs.Printing.{prints_read, rest_of, put_printed, rest_departing, rest_open, rest_more}

-- a part asks for at least one line
pub some_lines : (held room : ℕ) → 1 ≤ lines_at_most held room
some_lines held room =
    case (eqb held 0 && leb 34 room)
    (λ t. let h = (roomy held room t).1 in rw t (omega arith))
    (λ t. rw t (omega arith))

-- ---- the cases of a part, by the tests

module _ (ends : Bool) (h : Held) (text out : List ℕ) where
  abbrev test : Bool
  test = kept h.lines h.held h.waiting h.begun

  -- what is held does not pass the test
  pub part_refused : test ≡ false → part ends h text out ≡ parted_from h 0 0 out 3
  part_refused k = sym (parting.part_refused ends h text out k)

  -- bytes wait
  pub part_waiting : test ≡ true → eqb h.waiting 0 ≡ false → part ends h text out ≡ put_out h (waiting_bytes h) out 0
  part_waiting k w = sym (parting.part_waits ends h text out k (eqb-false h.waiting 0 w))

  -- a line departed
  pub part_stopped : test ≡ true → eqb h.waiting 0 ≡ true → eqb h.stopped 0 ≡ false
      → part ends h text out ≡ parted_from h (length text) 0 out 0
  part_stopped k w s = sym (parting.part_stopped ends h text out k (eqb-true h.waiting 0 w) (eqb-false h.stopped 0 s))

  -- lines are replayed
  pub part_replayed : test ≡ true → eqb h.waiting 0 ≡ true → eqb h.stopped 0 ≡ true
      → part ends h text out ≡ replayed ends (lines_at_most h.held (length out)) h text out
  part_replayed k w s = sym (parting.part_lines ends h text out k (eqb-true h.waiting 0 w) (eqb-true h.stopped 0 s))

-- nothing waits
pub none_waiting : (h : Held) → eqb h.waiting 0 ≡ true → waiting_bytes h ≡ []
none_waiting h w = let e = eqb-true h.waiting 0 w in ap (λ (k : ℕ). take k h.pending) e

-- a verdict is one of three
pub verdict_cases : {A : Type 0} (v : ℕ) → v ≤ 2 → (v ≡ 0 → A) → (v ≡ 1 → A) → (v ≡ 2 → A) → A
verdict_cases zero o a b c = a refl
verdict_cases (suc zero) o a b c = b refl
verdict_cases (suc (suc zero)) o a b c = c refl
verdict_cases (suc (suc (suc v))) o a b c = absurd (omega arith)

-- ---- lines replayed

-- `text` is offered of a text that goes on with `z`
module _ (ends : Bool) (n : ℕ) (h : Held) (text z out : List ℕ) (none : ends ≡ true → z ≡ []) where
  abbrev pub t : List ℕ
  t = begun_line h ++ text

  abbrev pub p : Parsed
  p = parse ends n t

  abbrev pub behind : List ℕ
  behind = drop p.end t

  abbrev pub taken : ℕ
  taken = length text - parts.left p.verdict behind

  -- what was read
  pub read : Reads ends n t z p
  read = reads ends n t z none

  -- what the part prints
  abbrev pub bytes : List ℕ
  bytes = printed (h.lines + 1) (parsed_answers h.machine p)

  -- what is then to be printed
  abbrev pub after : List ℕ
  after = rest_of (settled (machine_after h.machine p) h.lines p.made p.verdict behind) (drop taken (text ++ z))

  -- where a line departed
  pub by_departing : p.verdict ≡ 2 → prints next answered h.machine (h.lines + 1) (t ++ z) ≡ bytes ++ after
  by_departing e =
      let a = rest_departing (machine_after h.machine p) h.lines p.made p.verdict behind (drop taken (text ++ z)) e in
      prints_read next answered h.machine (h.lines + 1) ends n t z read
      ∙ ap (λ (v : ℕ). bytes ++ cond (eqb v 2) [] (prints next answered (machine_after h.machine p) (h.lines + 1 + p.made) (behind ++ z))) e
      ∙ ap (λ (l : List ℕ). bytes ++ l) (sym a)

  -- where none did, by the bytes that are left
  by_left : (v : ℕ) → p.verdict ≡ v → eqb v 2 ≡ false → after ≡ prints next answered (machine_after h.machine p) (h.lines + 1 + p.made) (behind ++ z)
      → prints next answered h.machine (h.lines + 1) (t ++ z) ≡ bytes ++ after
  by_left v e f a =
      let g : eqb p.verdict 2 ≡ false = ap (λ (k : ℕ). eqb k 2) e ∙ f in
      prints_read next answered h.machine (h.lines + 1) ends n t z read
      ∙ ap (λ (b : Bool). bytes ++ cond b [] (prints next answered (machine_after h.machine p) (h.lines + 1 + p.made) (behind ++ z))) g
      ∙ ap (λ (l : List ℕ). bytes ++ l) (sym a)

  -- where a line is not decided, all was taken
  pub left_open : p.verdict ≡ 1 → drop taken (text ++ z) ≡ z
  left_open e =
      let l : taken ≡ length text = ap (λ (v : ℕ). length text - parts.left v behind) e ∙ omega arith in
      ap (λ (k : ℕ). drop k (text ++ z)) l ∙ drop-append_seam text z

  -- what is then to be printed
  pub after_open : p.verdict ≡ 1 → after ≡ prints next answered (machine_after h.machine p) (h.lines + 1 + p.made) (behind ++ z)
  after_open e =
      let m = machine_after h.machine p in
      rest_open m h.lines p.made p.verdict behind (drop taken (text ++ z)) e
      ∙ ap (λ (x : List ℕ). prints next answered m (h.lines + 1 + p.made) (behind ++ x)) (left_open e)

  -- so what is printed goes on there
  pub by_open : p.verdict ≡ 1 → prints next answered h.machine (h.lines + 1) (t ++ z) ≡ bytes ++ after
  by_open e = by_left 1 e refl (after_open e)

  -- where more may come, what is behind the lines is left
  module _ (some : 1 ≤ n) (k : any is_feed (begun_line h) ≡ false) (e : p.verdict ≡ 0) where
    -- the line begun has been read
    past_begun : length (begun_line h) ≤ p.end
    past_begun =
        let s : n ≡ suc (n - 1) = omega arith in
        let q = ap (λ (j : ℕ). parse ends j t) s in
        let v : (parse ends (suc (n - 1)) t).verdict ≡ more = ap (λ (x : Parsed). x.verdict) (sym q) ∙ e in
        let w = past_first ends (n - 1) t v in
        let x : p.end ≡ (parse ends (suc (n - 1)) t).end = ap (λ (x : Parsed). x.end) q in
        let f = first_goes_on (begun_line h) text (no_feed_open (begun_line h) k) in
        let y : size_of (first_line t) ≡ length (begun_line h ++ (first_line text).bytes) + 1 = ap size_of f in
        let u = length-append (begun_line h) (first_line text).bytes in
        omega arith

    -- what is left is what comes behind the lines
    pub left_behind : drop taken (text ++ z) ≡ behind ++ z
    left_behind =
        let b = begun_line h in
        let g = past_begun in
        let j = p.end - length b in
        let a : behind ≡ drop j text =
        (let x : p.end ≡ length b + j = omega arith in ap (λ (i : ℕ). drop i t) x ∙ drop-append-add b text j) in
        let i = parse_within ends n t in
        let c = length-append b text in
        let d = length-drop p.end t in
        let l : taken ≡ j = ap (λ (v : ℕ). length text - parts.left v behind) e ∙ omega arith in
        ap (λ (i : ℕ). drop i (text ++ z)) l ∙ drop-append-le j text z (omega arith) ∙ ap (λ (x : List ℕ). x ++ z) (sym a)

    -- so what is printed goes on there
    pub by_more : prints next answered h.machine (h.lines + 1) (t ++ z) ≡ bytes ++ after
    by_more =
        let m = machine_after h.machine p in
        by_left 0 e refl
        (rest_more m h.lines p.made p.verdict behind (drop taken (text ++ z)) e
        ∙ ap (λ (x : List ℕ). prints next answered m (h.lines + 1 + p.made) x) left_behind)

  -- by each verdict
  pub by_verdict : 1 ≤ n → any is_feed (begun_line h) ≡ false → prints next answered h.machine (h.lines + 1) (t ++ z) ≡ bytes ++ after
  by_verdict some k = verdict_cases p.verdict read.one_of (by_more some k) by_open by_departing

  -- what is written, and what is then to be printed, is what the line begun and the text print
  pub replayed_printed : 1 ≤ n → any is_feed (begun_line h) ≡ false → wrote (replayed ends n h text out)
      ++ to_print (replayed ends n h text out).replay (drop (replayed ends n h text out).taken (text ++ z))
      ≡ prints next answered h.machine (h.lines + 1) (t ++ z)
  unfolding replayed put_out
  replayed_printed some k =
      put_printed (settled (machine_after h.machine p) h.lines p.made p.verdict behind) bytes out taken (drop taken (text ++ z))
      ∙ sym (by_verdict some k)
