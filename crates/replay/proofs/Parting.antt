-- A part, by each of its cases.
use Prim.Native.Nat.{ℕ, ◌≤◌}
use mathlib.Core.Bool.{Bool, true, false, ◌&&◌}
use mathlib.Core.Path.{◌≡◌, sym}
use mathlib.Core.List.{List}
use lib.Dec.{eqb, leb}
use lib.ListN.{length}
use borrow.Author.Tests.{eq-eqb, ne_eqb, eqb-true, leb-true}
use Rattle.values.proofs.Cases.{and_left, and_right}
use Rattle.replay.specs.Parts.{Held, waiting_bytes, kept, parted_from, put_out, lines_at_most, replayed, part}

-- where lines have room
pub roomy : (held room : ℕ) → (eqb held 0 && leb 34 room) ≡ true → (held ≡ 0) × (34 ≤ room)
roomy held room t = (eqb-true held 0 (and_left (eqb held 0) (leb 34 room) t), leb-true 34 room (and_right (eqb held 0) (leb 34 room) t))

module _ (ends : Bool) (h : Held) (text out : List ℕ) where
  abbrev test : Bool
  test = kept h.lines h.held h.waiting h.begun

  pub part_refused : test ≡ false → parted_from h 0 0 out 3 ≡ part ends h text out
  unfolding part
  part_refused t = sym (rw t)

  module _ (t : test ≡ true) where
    pub part_waits : (h.waiting ≡ 0 → ⊥) → put_out h (waiting_bytes h) out 0 ≡ part ends h text out
    unfolding part
    part_waits w = sym (rw (t, ne_eqb h.waiting 0 w))

    module _ (w : h.waiting ≡ 0) where
      pub part_stopped : (h.stopped ≡ 0 → ⊥) → parted_from h (length text) 0 out 0 ≡ part ends h text out
      unfolding part
      part_stopped s = sym (rw (t, eq-eqb h.waiting 0 w, ne_eqb h.stopped 0 s))

      pub part_lines : h.stopped ≡ 0 → replayed ends (lines_at_most h.held (length out)) h text out ≡ part ends h text out
      unfolding part
      part_lines s = sym (rw (t, eq-eqb h.waiting 0 w, eq-eqb h.stopped 0 s))
