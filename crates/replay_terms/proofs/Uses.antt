-- Parts do not matter.
use Prim.Native.Nat.{ℕ, ◌+◌}
use mathlib.Core.Bool.{true, false}
use mathlib.Core.Path.{◌≡◌, refl, sym, ◌∙◌, ap, subst}
use mathlib.Core.List.{List, [], ◌∷◌, ◌++◌, append-nil, append_assoc}
use lib.Dec.{eqb, leb}
use lib.ListN.{length, take, drop, take-append-drop, drop_of_length-le}
use borrow.Author.Tests.{leb-true, eqb-true}
use Rattle.values.proofs.Cases.{case, and_right}
use Rattle.machine.specs.Machine.{Machine}
use Rattle.fields.specs.Lines.{lines_of, calls_of, departs}
use Rattle.trace.specs.Fold.{answers_of}
use Rattle.printed.specs.Printed.{printed}
use Rattle.step.specs.Run.{next, answered}
use Rattle.replay.specs.Replay.{line_answers, prints, replay_from}
use Rattle.replay.specs.Parts.{Held, begun_line, waiting_bytes, kept, Parted, put_out, lines_at_most, replayed, start_replay}
use Rattle.held.proofs.Keeping.{kept_means}
use Rattle.replay_terms.specs.Uses.{Use, ends_with, used, wrote, fed, to_print, PartsAgree, NothingHeld, AllPrinted, StartBegins}
use Rattle.replay_terms.proofs.Printing.{rest_of, to_print_lem, put_printed}
use Rattle.replay_terms.proofs.OnePart.{
  some_lines,
  part_refused,
  part_waiting,
  part_stopped,
  part_replayed,
  none_waiting,
  replayed_printed,
}

-- one use of a part
module _ (h : Held) (left : List ℕ) (u : Use) where
  abbrev pub text : List ℕ
  text = take u.offered left

  abbrev pub z : List ℕ
  z = drop u.offered left

  -- what a part writes, and what is then to be printed, is what was to be printed
  abbrev Whole : Parted → Type 0
  Whole r = wrote r ++ to_print r.replay (drop r.taken left) ≡ to_print h left

  -- where the text ends, nothing comes behind
  pub none_behind : ends_with u left ≡ true → z ≡ []
  none_behind e = drop_of_length-le left (leb-true (length left) u.offered (and_right u.told (leb (length left) u.offered) e))

  -- bytes wait
  whole_waiting : Whole (put_out h (waiting_bytes h) u.slice 0)
  unfolding put_out
  whole_waiting = put_printed h (waiting_bytes h) u.slice 0 left ∙ sym (to_print_lem h left)

  -- a line departed
  whole_stopped : eqb h.waiting 0 ≡ true → eqb h.stopped 0 ≡ false → to_print h (drop (length text) left) ≡ to_print h left
  unfolding to_print
  whole_stopped w s = rw s

  -- nothing waits and no line departed: what the line begun and the text print
  pub whole_text : eqb h.waiting 0 ≡ true → eqb h.stopped 0 ≡ true
      → prints next answered h.machine (h.lines + 1) (begun_line h ++ text ++ z) ≡ to_print h left
  whole_text w s =
      let b = begun_line h in
      let e : text ++ z ≡ left = take-append-drop u.offered left in
      let rest : rest_of h left ≡ prints next answered h.machine (h.lines + 1) (b ++ left) = rw s in
      ap (λ (l : List ℕ). prints next answered h.machine (h.lines + 1) l) (append_assoc b text z ∙ ap (λ (l : List ℕ). b ++ l) e)
      ∙ sym rest ∙ ap (λ (l : List ℕ). l ++ rest_of h left) (sym (none_waiting h w)) ∙ sym (to_print_lem h left)

  -- lines are replayed
  whole_replayed : kept h.lines h.held h.waiting h.begun ≡ true → eqb h.waiting 0 ≡ true → eqb h.stopped 0 ≡ true
      → Whole (replayed (ends_with u left) (lines_at_most h.held (length u.slice)) h text u.slice)
  whole_replayed k w s =
      let n = lines_at_most h.held (length u.slice) in
      let r = replayed (ends_with u left) n h text u.slice in
      let f = (kept_means h.lines h.held h.waiting h.begun k).no_feed in
      ap (λ (l : List ℕ). wrote r ++ to_print r.replay (drop r.taken l)) (sym (take-append-drop u.offered left))
      ∙ replayed_printed (ends_with u left) n h text z u.slice none_behind (some_lines h.held (length u.slice)) f
      ∙ whole_text w s

  -- in every case
  pub one_part : Whole (used h left u)
  one_part =
      let ends = ends_with u left in
      let out = u.slice in
      case (kept h.lines h.held h.waiting h.begun)
      (λ k.
      case (eqb h.waiting 0)
      (λ w.
      case (eqb h.stopped 0)
      (λ s. subst Whole (sym (part_replayed ends h text out k w s)) (whole_replayed k w s))
      (λ s. subst Whole (sym (part_stopped ends h text out k w s)) (whole_stopped w s)))
      (λ w. subst Whole (sym (part_waiting ends h text out k w)) whole_waiting))
      (λ k. subst Whole (sym (part_refused ends h text out k)) refl)

-- any uses
pub parts_agree : PartsAgree
unfolding fed
parts_agree h text [] = refl
parts_agree h text (u ∷ us) =
    let r = used h text u in
    let left = drop r.taken text in
    let f = fed r.replay left us in
    append_assoc (wrote r) f.written (to_print f.replay f.left)
    ∙ ap (λ (l : List ℕ). wrote r ++ l) (parts_agree r.replay left us) ∙ one_part h text u

-- ---- all is printed

-- nothing is held: the whole text is to be printed
pub start_prints : (h : Held) (text : List ℕ) → NothingHeld h → to_print h text ≡ replay_from h.machine text
unfolding to_print
start_prints h text n = rw (n.no_lines_lem, n.none_begun, n.none_waiting, n.not_stopped)

-- nothing is printed of nothing
pub nothing_printed : (m : Machine) (i : ℕ) → prints next answered m i [] ≡ []
unfolding line_answers lines_of calls_of departs answers_of printed
nothing_printed m i = refl

-- all is done: nothing is to be printed
end_prints : (h : Held) (left : List ℕ) → left ≡ [] → h.waiting ≡ 0 → (h.stopped ≡ 0 → h.held ≡ 0) → to_print h left ≡ []
unfolding to_print
end_prints h left l w s =
    case (eqb h.stopped 0)
    (λ t. rw (l, w, t, s (eqb-true h.stopped 0 t)) (nothing_printed h.machine (h.lines + 1)))
    (λ t. rw (w, t))

pub all_printed : AllPrinted
all_printed h text us n d =
    let f = fed h text us in
    sym (append-nil f.written)
    ∙ ap (λ (l : List ℕ). f.written ++ l) (sym (end_prints f.replay f.left d.none_left d.none_waiting d.stopped_or_ended))
    ∙ parts_agree h text us ∙ start_prints h text n

-- a start holds nothing
pub start_begins : StartBegins
unfolding start_replay
start_begins memory bad store =
    record {
      nothing_held = record { no_lines_lem = refl; none_begun = refl; none_waiting = refl; not_stopped = refl };
      machine = refl;
    }
