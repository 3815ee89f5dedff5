-- Storing: its refusals by cases, and the text that is laid.
use Prim.Native.Nat.{ℕ, ◌<◌, ◌≤◌}
use native.Mathlib.Omega.{arith}
use mathlib.Core.Bool.{true, false}
use mathlib.Core.Path.{◌≡◌, sym, ◌∙◌, ap}
use mathlib.Core.List.{List, [], ◌∷◌}
use lib.Dec.{eqb, ltb}
use lib.ListN.{length}
use borrow.Author.Tests.{eq-eqb, ne_eqb, eqb-true, lt-ltb, le-ltb, not-false}
use Rattle.values.specs.Rows.{first_met}
use Rattle.values.specs.declared.Answer.TheVariants as answer
use Rattle.values.proofs.Cases.{case}
use Rattle.printed.specs.Code.{over}
use Rattle.refusals.specs.Refusals.{refusal_in, length_fits, row1, row3, row4}
use Rattle.refusals.proofs.Rows.{row_passed, rows_met}
use Rattle.machine.specs.Machine.{Machine, memory_of}
use Rattle.soundness.specs.Soundness.{sound}
use Rattle.form.specs.Texts.{Place, text_by}
use Rattle.form.specs.Code.{places_of, text_size}
use Rattle.form.proofs.Back.{text_size_lem}
use Rattle.numbers.specs.Text.{form, saved_of, text_of}
use Rattle.numbers.proofs.Whole.{form_wide}
use Rattle.text.specs.Store.{stored_from, row15, store_meets, store_refusal, stored}
use Rattle.text.specs.Code.{separators, store_state_refusal, stored_room}
use Rattle.text.proofs.Places.{form_places}

module _ (m : Machine) where
  -- ---- 1, 3 and 4

  pub store_one : length_fits (length (memory_of m)) ≡ false → 1 ≡ store_state_refusal m
  unfolding store_state_refusal first_met
  store_one h = rw h

  module _ (e : length_fits (length (memory_of m)) ≡ true) where
    pub store_three : sound m ≡ false → 3 ≡ store_state_refusal m
    unfolding store_state_refusal first_met
    store_three h = rw (e, h)

    pub store_four : sound m ≡ true → (m.size ≡ length (memory_of m) → ⊥) → 4 ≡ store_state_refusal m
    unfolding store_state_refusal first_met
    store_four s h = rw (e, s, ne_eqb m.size (length (memory_of m)) h)

    pub store_none : sound m ≡ true → m.size ≡ length (memory_of m) → 0 ≡ store_state_refusal m
    unfolding store_state_refusal first_met
    store_none s h = rw (e, s, eq-eqb m.size (length (memory_of m)) h)

  -- what none of them says
  pub record Storable : Type 0 where
    pub fits : length_fits (length (memory_of m)) ≡ true
    pub is_sound : sound m ≡ true
    pub size : m.size ≡ length (memory_of m)

  pub storable : store_state_refusal m ≡ 0 → Storable
  unfolding store_state_refusal
  storable h =
      let r4 = row4 m.size (length (memory_of m)) in
      let h1 = row_passed (row1 (length (memory_of m))) (row3 (sound m) ∷ r4 ∷ []) (omega arith) h in
      let h2 = row_passed (row3 (sound m)) (r4 ∷ []) (omega arith) h1.1 in
      let h3 = row_passed r4 [] (omega arith) h2.1 in
      record {
        fits = not-false (length_fits (length (memory_of m))) h1.0;
        is_sound = not-false (sound m) h2.0;
        size = eqb-true m.size (length (memory_of m)) (not-false (eqb m.size (length (memory_of m))) h3.0);
      }

  -- ---- with 15

  module _ (slice : List ℕ) where
    pub stored_refused : (n : ℕ) → n ≡ store_state_refusal m → (n ≡ 0 → ⊥) → stored_from slice (answer.Refused n) ≡ stored m slice
    unfolding stored store_refusal store_state_refusal
    stored_refused n e z =
        let rows = row1 (length (memory_of m)) ∷ row3 (sound m) ∷ row4 m.size (length (memory_of m)) ∷ [] in
        let q : refusal_in (store_meets m (length slice)) ≡ n =
        rows_met rows (row15 (length (text_of m)) (length slice) ∷ []) (λ h. z (e ∙ h)) ∙ sym e
        in
        rw (q, ne_eqb n 0 z)

    pub stored_room_lem : store_state_refusal m ≡ 0 → stored_room m slice ≡ stored m slice
    unfolding stored stored_room store_refusal first_met
    stored_room_lem h =
        let s = storable h in
        rw (s.fits, s.is_sound, eq-eqb m.size (length (memory_of m)) s.size)
        (case (ltb (length slice) (length (text_of m))) (λ t. rw t) (λ t. rw t))

    -- the slice is too short
    pub room_short : (n : ℕ) → n ≡ length (text_of m) → length slice < n → stored_from slice (answer.Refused 15) ≡ stored_room m slice
    unfolding stored_room
    room_short n e h = rw (lt-ltb (length slice) (length (text_of m)) (omega arith))

    -- it is long enough
    pub room_enough : (n : ℕ) (after : List ℕ) → n ≡ length (text_of m) → n ≤ length slice → after ≡ over slice 0 (text_of m)
        → stored_from after (answer.Value n) ≡ stored_room m slice
    unfolding stored_room
    room_enough n after e h f =
        rw (le-ltb (length slice) (length (text_of m)) (omega arith)) (rw (f, e))

  -- ---- the text, by the code's lists

  pub numbers_text : (ns bs : List ℕ) → ns ≡ form.numbers (saved_of m) → bs ≡ separators → text_by (places_of bs) ns ≡ text_of m
  unfolding text_of
  numbers_text ns bs e f =
      ap (λ (l : List ℕ). text_by (places_of l) ns) f ∙ ap (λ (l : List ℕ). text_by (places_of separators) l) e
      ∙ ap (λ (ps : List Place). text_by ps (form.numbers (saved_of m))) (sym form_places)

  pub numbers_size : (ns : List ℕ) → ns ≡ form.numbers (saved_of m) → length ns ≡ 3085 → text_size ns ≡ length (text_of m)
  unfolding text_of
  numbers_size ns e long =
      sym (text_size_lem form.places ns (form_wide ∙ sym long)) ∙ ap (λ (l : List ℕ). length (text_by form.places l)) e
