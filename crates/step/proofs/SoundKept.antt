-- A served start makes a sound machine, and every call keeps it sound.
use Prim.Native.Nat.{ℕ}
use native.Mathlib.Omega.{arith}
use mathlib.Core.Bool.{true, cond}
use mathlib.Core.Path.{◌≡◌, refl, sym, ◌∙◌}
use mathlib.Core.List.{List, [], ◌∷◌}
use lib.Dec.{eqb}
use lib.ListN.{length}
use borrow.Author.Tests.{eqb-true, not-false}
use Rattle.values.specs.declared.Call.{Call}
use Rattle.values.specs.Counts.{counted}
use Rattle.values.specs.declared.Call.TheVariants.{Read, Write}
use Rattle.values.specs.declared.Call.TheVariants as calls
use Rattle.values.proofs.Cases.{case}
use Rattle.words.specs.Words.{Bytes}
use Rattle.refusals.proofs.Rows.{row_passed, rows_passed, access_accepted}
use Rattle.step.proofs.StateRefusals.{fitting, state_numbered, refusal_rows}
use Rattle.soundness.specs.Soundness.{sound}
use Rattle.soundness_test.specs.Meaning.{lines_of}
use Rattle.soundness_test.specs.Formed.{Formed}
use Rattle.soundness_laws.proofs.ScalarParts.{CountsAre}
use Rattle.soundness_laws.proofs.MapKept.{bad_access, bad_read, bad_write}
use Rattle.soundness_laws.proofs.FreshSound.{fresh_counts, fresh_holding}
use Rattle.soundness_laws.proofs.Reader.{sound_means, sound_of}
use Rattle.soundness_laws.proofs.Holding.{Holding, Kept, Roomy, holding_formed, holding_sound}
use Rattle.soundness_laws.proofs.AccessKept.{access_kept, counted_roomy}
use Rattle.soundness_laws.proofs.Cp15Kept.{read_kept, write_kept}
use Rattle.step.specs.Meets.{start_refusal, state_meets, refusal}
use Rattle.step.specs.Start.{started}
use Rattle.step.specs.Call.{done, served, Numbers}
use Rattle.refusals.specs.Refusals.{length_fits, store_fits, row1, row2, row5, call_rows, call_refusal}
use Rattle.machine.specs.Machine.{Machine, memory_of, bad_of, with_counts}

-- ---- a served start

module _ (memory bad store : List ℕ) (mb : Bytes memory) (sb : Bytes store) (e : start_refusal memory store ≡ 0) where
  start_holding : Holding (length memory) (length memory) (started memory bad store).machine
  unfolding start_refusal started
  start_holding =
      let n = length memory in
      let h1 = row_passed (row1 n) (row2 (length store) ∷ []) (omega arith) e in
      let h2 = row_passed (row2 (length store)) [] (omega arith) h1.1 in
      let fits = fitting n (not-false (length_fits n) h1.0) in
      let long : length store ≡ 16384 = eqb-true (length store) 16384 (not-false (store_fits (length store)) h2.0) in
      rw e (fresh_holding n memory bad store fits.whole fits.short mb long sb)

  start_counts : CountsAre (started memory bad store).machine.counts (lines_of (started memory bad store).machine)
  unfolding started
  start_counts = fresh_counts (cond (eqb (start_refusal memory store) 0) (length memory) 0) memory bad store

  pub start_sound : Formed (started memory bad store).machine × (sound (started memory bad store).machine ≡ true)
      × (length (memory_of (started memory bad store).machine) ≡ length memory) × ((started memory bad store).machine.size ≡ length memory)
  start_sound =
      let n = length memory in
      let h = start_holding in (
        holding_formed n n (started memory bad store).machine h,
        holding_sound n n (started memory bad store).machine h start_counts,
        h.side.backing.memory_long,
        h.size,
      )

-- ---- a call that is not refused

pub call_accepted : (m : Machine) (c : Call) → refusal m c ≡ 0 → call_refusal c ≡ 0
call_accepted m c h =
    let k = rows_passed (state_meets m) (row5 m.counts.calls ∷ call_rows c) (state_numbered m) (sym (refusal_rows m c) ∙ h) in
    (row_passed (row5 m.counts.calls) (call_rows c) (omega arith) k.1).1

pub done_kept : (m : Machine) (c : Call) → Roomy m → call_refusal c ≡ 0 → Numbers c → Kept m (done m c).machine
done_kept m (calls.Access a) r h n = access_kept m a r (access_accepted a h).0 n.0
done_kept m (Read t) r h n = read_kept m t r
done_kept m (Write t v) r h n = write_kept m t v r h n

-- ---- a call

module _ (m : Machine) (c : Call) (f : Formed m) (s : sound m ≡ true) (n : Numbers c) where
  pub served_kept : Kept m (served m c).machine
  unfolding served
  served_kept =
      let i = sound_means m f.lines_long s in
      case (eqb (refusal m c) 0)
      (λ t.
      let r = counted_roomy m f i in
      let k = done_kept (with_counts m (counted m.counts)) c r (call_accepted m c (eqb-true (refusal m c) 0 t)) n in
      rw t (record { formed = k.formed; sound = k.sound; memory = k.memory; size = k.size }))
      (λ t. rw t (record { formed = f; sound = i; memory = refl; size = refl }))

  pub sound_kept : Formed (served m c).machine × (sound (served m c).machine ≡ true)
      × (length (memory_of (served m c).machine) ≡ length (memory_of m)) × ((served m c).machine.size ≡ m.size)
  sound_kept =
      let k = served_kept in
      (k.formed, sound_of (served m c).machine k.formed.lines_long k.sound, k.memory, k.size)

-- "unchanged through a run"
pub map_kept : (m : Machine) (c : Call) → bad_of (served m c).machine ≡ bad_of m
unfolding served
map_kept m c =
    case (eqb (refusal m c) 0) (λ t. rw t (by (with_counts m (counted m.counts)) c)) (λ t. rw t)
  where
    by : (x : Machine) (d : Call) → bad_of (done x d).machine ≡ bad_of x
    by x (calls.Access a) = bad_access x a
    by x (Read t) = bad_read x t
    by x (Write t v) = bad_write x t v
