-- No part is refused up to the limit of lines, and the whole text is printed.
use Prim.Native.Nat.{ℕ, ◌+◌, ◌≤◌}
use native.Mathlib.Omega.{arith}
use mathlib.Core.Bool.{Bool, true, false, cond}
use mathlib.Core.Path.{◌≡◌, refl, sym, ◌∙◌, ap, subst}
use mathlib.Core.List.{List, [], ◌∷◌, ◌++◌, append_assoc}
use lib.Dec.{eqb}
use lib.ListN.{length, take, drop, take-append-drop}
use Rattle.values.specs.Lists.{any}
use Rattle.values.proofs.Cases.{case}
use Rattle.fields.specs.Lines.{lines_of}
use Rattle.machine.specs.Machine.{Machine}
use Rattle.pieces.specs.Pieces.{is_feed}
use Rattle.batch.specs.Batch.{lines_limit, machine_after}
use Rattle.replay.specs.Replay.{replay_from}
use Rattle.replay.specs.Parts.{Held, begun_line, waiting_bytes, Parted, put_out, lines_at_most, settled, replayed}
use Rattle.held.proofs.Keeping.{kept_means}
use Rattle.replay_terms.specs.Uses.{
  Use,
  ends_with,
  used,
  fed,
  NothingHeld,
  IsKept,
  Well,
  StaysWell,
  lines_in_all,
  NeverRefused,
  ReplayWhole,
}
use Rattle.replay_terms.proofs.Printing.{front_padded}
use Rattle.replay_terms.proofs.OnePart.{
  some_lines,
  part_waiting,
  part_stopped,
  part_replayed,
  verdict_cases,
  p,
  behind,
  taken,
  bytes,
  read,
  left_open,
  left_behind,
}
use Rattle.replay_terms.proofs.Uses.{none_behind}
use Rattle.replay_terms.proofs.Ending.{repeated}
use Rattle.replay_terms.proofs.Staying.{stays_kept, starts_well}

-- ---- the lines in all, behind a part

-- bytes put out change none
put_count : (h : Held) (bytes out : List ℕ) (taken : ℕ) (left : List ℕ) → lines_in_all (put_out h bytes out taken).replay left ≡ lines_in_all h left
unfolding put_out lines_in_all
put_count h bytes out taken left = refl

module _ (m : Machine) (lines made v : ℕ) (behind left : List ℕ) where
  -- a line departed
  count_departing : v ≡ 2 → lines_in_all (settled m lines made v behind) left ≡ lines + made + 1
  unfolding settled lines_in_all
  count_departing e = rw e (omega arith)

  -- a line is carried over
  count_open : v ≡ 1 → lines_in_all (settled m lines made v behind) left ≡ lines + made + length (lines_of (behind ++ left))
  unfolding settled lines_in_all
  count_open e = let f = ap (λ (l : List ℕ). length (lines_of (l ++ left))) (front_padded behind) in rw e (omega arith)

  -- more may come
  count_more : v ≡ 0 → lines_in_all (settled m lines made v behind) left ≡ lines + made + length (lines_of left)
  unfolding settled lines_in_all
  count_more e = rw e (omega arith)

-- lines replayed
module _ (ends : Bool) (n : ℕ) (h : Held) (text z out : List ℕ) (none : ends ≡ true → z ≡ []) (some : 1 ≤ n) (k : any is_feed (begun_line h) ≡ false) where
  abbrev q : ℕ
  q = taken ends n h text z out none

  replayed_count : lines_in_all (replayed ends n h text out).replay (drop (replayed ends n h text out).taken (text ++ z))
      ≤ h.lines + length (lines_of (begun_line h ++ text ++ z))
  unfolding replayed put_out
  replayed_count =
      let p = p ends n h text z out none in
      let b = behind ends n h text z out none in
      let m = machine_after h.machine p in
      let l = drop q (text ++ z) in
      let s = settled m h.lines p.made p.verdict b in
      let r = read ends n h text z out none in
      let c = r.counted in
      let e = put_count s (bytes ends n h text z out none) out q l in
      verdict_cases p.verdict r.one_of
      (λ v.
      let x = count_more m h.lines p.made p.verdict b l v in
      let y = ap (λ (l : List ℕ). length (lines_of l)) (left_behind ends n h text z out none some k v) in
      let w : cond (eqb p.verdict 2) 1 (length (lines_of (b ++ z))) ≡ length (lines_of (b ++ z)) = rw v in
      omega arith)
      (λ v.
      let x = count_open m h.lines p.made p.verdict b l v in
      let y = ap (λ (l : List ℕ). length (lines_of (b ++ l))) (left_open ends n h text z out none v) in
      let w : cond (eqb p.verdict 2) 1 (length (lines_of (b ++ z))) ≡ length (lines_of (b ++ z)) = rw v in
      omega arith)
      (λ v.
      let x = count_departing m h.lines p.made p.verdict b l v in
      let w : cond (eqb p.verdict 2) 1 (length (lines_of (b ++ z))) ≡ 1 = rw v in
      omega arith)

-- a part makes them no more
module _ (h : Held) (left : List ℕ) (u : Use) (k : IsKept h) where
  abbrev offer : List ℕ
  offer = take u.offered left

  -- behind a part
  abbrev Fewer : Parted → Type 0
  Fewer r = lines_in_all r.replay (drop r.taken left) ≤ lines_in_all h left

  -- bytes wait
  fewer_waiting : Fewer (put_out h (waiting_bytes h) u.slice 0)
  unfolding put_out
  fewer_waiting = let e = put_count h (waiting_bytes h) u.slice 0 left in omega arith

  -- a line departed
  fewer_stopped : eqb h.stopped 0 ≡ false → lines_in_all h (drop (length offer) left) ≤ lines_in_all h left
  unfolding lines_in_all
  fewer_stopped s = rw s (omega arith)

  -- lines are replayed
  all_lines : eqb h.stopped 0 ≡ true → lines_in_all h left ≡ h.lines + length (lines_of (begun_line h ++ left))
  unfolding lines_in_all
  all_lines s = rw s

  fewer_replayed : eqb h.stopped 0 ≡ true → Fewer (replayed (ends_with u left) (lines_at_most h.held (length u.slice)) h offer u.slice)
  fewer_replayed s =
      let n = lines_at_most h.held (length u.slice) in
      let z = drop u.offered left in
      let e : offer ++ z ≡ left = take-append-drop u.offered left in
      let f = (kept_means h.lines h.held h.waiting h.begun k).no_feed in
      let r = replayed (ends_with u left) n h offer u.slice in
      let c = replayed_count (ends_with u left) n h offer z u.slice (none_behind h left u) (some_lines h.held (length u.slice)) f in
      let x = ap (λ (l : List ℕ). lines_in_all r.replay (drop r.taken l)) e in
      let y = ap (λ (l : List ℕ). length (lines_of l)) (append_assoc (begun_line h) offer z ∙ ap (λ (l : List ℕ). begun_line h ++ l) e) in
      let a = all_lines s in
      omega arith

  -- in every case
  part_fewer : Fewer (used h left u)
  part_fewer =
      let ends = ends_with u left in
      let out = u.slice in
      case (eqb h.waiting 0)
      (λ w.
      case (eqb h.stopped 0) (λ s. subst Fewer (sym (part_replayed ends h offer out k w s)) (fewer_replayed s))
      (λ s. subst Fewer (sym (part_stopped ends h offer out k w s)) (fewer_stopped s)))
      (λ w. subst Fewer (sym (part_waiting ends h offer out k w)) fewer_waiting)

-- ---- no part is refused

-- the lines replayed are among them
lines_among : (h : Held) (left : List ℕ) → h.lines ≤ lines_in_all h left
unfolding lines_in_all
lines_among h left = omega arith

-- a part leaves what passes the test
part_stays : (h : Held) (left : List ℕ) (u : Use) → Well h → lines_in_all h left ≤ lines_limit → StaysWell (used h left u)
part_stays h left u g l =
    let r = used h left u in
    let f = part_fewer h left u g.is_kept in
    let a = lines_among r.replay (drop r.taken left) in
    stays_kept h left u g (omega arith)

pub never_refused : NeverRefused
unfolding fed
never_refused h text g l [] u = (part_stays h text u g l).not_refused
never_refused h text g l (v ∷ us) u =
    let r = used h text v in
    let f = part_fewer h text v g.is_kept in
    never_refused r.replay (drop r.taken text) (part_stays h text v g l).well (omega arith) us u

-- ---- the whole text

-- at the start they are the text's
start_lines : (h : Held) (text : List ℕ) → NothingHeld h → lines_in_all h text ≡ length (lines_of text)
unfolding lines_in_all
start_lines h text n = rw (n.no_lines_lem, n.none_begun, n.not_stopped) (omega arith)

pub replay_whole : ReplayWhole
replay_whole h text us u n e l c =
    let s = start_lines h text n in
    repeated h text us u n c (never_refused h text (starts_well h n e) (omega arith) us u) ∙ ap (λ (m : Machine). replay_from m text) e
