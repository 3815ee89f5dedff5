-- What is stored is read back, and what is read is stored again.
use Prim.Native.Nat.{ℕ, ◌≤◌}
use native.Mathlib.Omega.{arith}
use mathlib.Core.Bool.{true}
use mathlib.Core.Path.{◌≡◌, refl, sym, ◌∙◌, ap}
use mathlib.Core.List.{List, [], ◌∷◌}
use lib.Dec.{eqb}
use lib.ListN.{length}
use borrow.Author.Tests.{eq-eqb, eqb-true, not-false}
use Rattle.values.specs.declared.Answer.{Answer}
use Rattle.values.specs.declared.Answer.TheVariants as answer
use Rattle.values.proofs.Cases.{case, and_left, and_right}
use Rattle.printed.specs.Code.{over}
use Rattle.refusals.specs.Refusals.{length_fits, row1, row3, row4}
use Rattle.values.specs.Lists.{all}
use Rattle.refusals.proofs.Rows.{row_passed, rows_passed}
use Rattle.machine.specs.Machine.{Machine, memory_of}
use Rattle.soundness.specs.Soundness.{sound}
use Rattle.step.specs.Start.{started_from}
use Rattle.state.specs.State.{machine_in}
use Rattle.form.specs.Texts.{Numbers, numbers_from, text_by}
use Rattle.form.proofs.Back.{read_text, text_read, read_within, within_long}
use Rattle.numbers.specs.Text.{Saved, form, saved_of, machine_with, text_of}
use Rattle.numbers.proofs.Law.{SavedGood, form_lawful}
use Rattle.text.specs.Store.{stored_from, row15, store_refusal, stored}
use Rattle.text.specs.Read.{text_numbers, row14, machine_read, sound_read, read_refusal, read_back}
use Rattle.text.specs.Code.{store_state_refusal}
use Rattle.text.proofs.Storing.{Storable, storable, store_none, stored_room_lem, room_enough}
use Rattle.text.proofs.Reading.{read_none, read_formed}
use Rattle.text_terms.specs.Texts.{ReadStored, StoredRead}
use Rattle.text_terms.proofs.Good.{saved_good}

-- ---- read what was stored

-- the numbers of a text are those that it was made of
text_numbers_lem : (m : Machine) → SavedGood (saved_of m) → text_numbers (text_of m) ≡ numbers_from true (form.numbers (saved_of m))
unfolding text_of
text_numbers_lem m g =
    let l = form_lawful in
    let s = saved_of m in
    read_text form.places (form.numbers s) l.no_digits (l.within (form.numbers s) (l.long s g) (l.fit s g))

-- a machine that can be stored is read back
pub back : (memory bad store : List ℕ) (m : Machine) → m ≡ machine_with memory bad store (saved_of m) → memory_of m ≡ memory → SavedGood (saved_of m) → Storable m
    → read_back memory bad store (text_of m) ≡ started_from m 0
back memory bad store m e f g k =
    let l = form_lawful in
    let s = saved_of m in
    let ns = form.numbers s in
    let n = text_numbers_lem m g in
    let thing : machine_with memory bad store (form.thing ns) ≡ m = ap (λ (x : Saved). machine_with memory bad store x) (l.back s g) ∙ sym e in
    let fits : length_fits (length memory) ≡ true = ap (λ (x : List ℕ). length_fits (length x)) (sym f) ∙ k.fits in
    sym (read_formed memory bad store (text_of m) fits ns (ap (λ (x : Numbers). x.numbers) (sym n)) (ap (λ (x : Numbers). x.formed) n))
    ∙ sym (read_none memory bad store ns (l.fit s g) (ap sound thing ∙ k.is_sound) m (sym thing)
    (ap (λ (x : Machine). x.size) thing ∙ k.size ∙ ap length f))

-- the kind and the number of an answer
kind_of : Answer → ℕ
kind_of (answer.Value v) = 0
kind_of (answer.Signed z) = 1
kind_of (answer.Fault f) = 2
kind_of (answer.Refused v) = 3

number_of : Answer → ℕ
number_of (answer.Value v) = v
number_of (answer.Signed z) = 0
number_of (answer.Fault f) = 0
number_of (answer.Refused v) = v

value_same : (a b : ℕ) → answer.Value a ≡ answer.Value b → a ≡ b
unfolding number_of
value_same a b q = ap number_of q

no_value : {A : Type 0} (a b : ℕ) → answer.Value a ≡ answer.Refused b → A
unfolding kind_of
no_value a b q = let z : ◌≡◌ {A = ℕ} 0 3 = ap kind_of q in absurd (omega arith)

-- storing that is served says that nothing refuses, and its number is the text's length
pub served_says : (m : Machine) (slice : List ℕ) (n : ℕ) → (stored m slice).answer ≡ answer.Value n
    → (n ≡ length (text_of m)) × (store_refusal m (length slice) ≡ 0)
unfolding stored
served_says m slice n e =
    case (eqb (store_refusal m (length slice)) 0)
    (λ t. (value_same n (length (text_of m)) (sym e ∙ rw t), eqb-true (store_refusal m (length slice)) 0 t))
    (λ t. no_value n (store_refusal m (length slice)) (sym e ∙ rw t))

-- where nothing refuses, 1, 3 and 4 do not
state_unrefused : (m : Machine) (room : ℕ) → store_refusal m room ≡ 0 → store_state_refusal m ≡ 0
unfolding store_refusal store_state_refusal all
state_unrefused m room h =
    (rows_passed (row1 (length (memory_of m)) ∷ row3 (sound m) ∷ row4 m.size (length (memory_of m)) ∷ []) (row15 (length (text_of m)) room ∷ []) refl h).0

pub read_stored : ReadStored
read_stored memory bad store slice s r n t e =
    let m = machine_in memory bad store s r in
    let h = served_says m slice n e in
    let k = storable m (state_unrefused m (length slice) h.1) in
    (h.0, back memory bad store m refl refl (saved_good memory bad store s r t k) k)

-- ---- store what was read

module _ (memory bad store text : List ℕ) (h : (read_back memory bad store text).refusal ≡ 0) where
  abbrev ns : List ℕ
  ns = (text_numbers text).numbers

  -- a text that is read has the form, its numbers fit, and its machine is sound and of that memory's length
  record ReadSays : Type 0 where
    length_fits_lem : length_fits (length memory) ≡ true
    formed : (text_numbers text).formed ≡ true
    fits : form.fits ns ≡ true
    is_sound : sound (machine_read memory bad store text) ≡ true
    size : (machine_read memory bad store text).size ≡ length memory

  unrefused : read_refusal memory bad store text ≡ 0
  unfolding read_back
  unrefused = h

  read_says : ReadSays
  unfolding read_refusal
  read_says =
      let m = machine_read memory bad store text in
      let r3 = row3 (sound_read memory bad store text) in
      let r4 = row4 m.size (length memory) in
      let h1 = row_passed (row1 (length memory)) (row14 (text_numbers text).formed ∷ r3 ∷ r4 ∷ []) (omega arith) unrefused in
      let h2 = row_passed (row14 (text_numbers text).formed) (r3 ∷ r4 ∷ []) (omega arith) h1.1 in
      let h3 = row_passed r3 (r4 ∷ []) (omega arith) h2.1 in
      let h4 = row_passed r4 [] (omega arith) h3.1 in
      let both = not-false (sound_read memory bad store text) h3.0 in
      record {
        length_fits_lem = not-false (length_fits (length memory)) h1.0;
        formed = not-false (text_numbers text).formed h2.0;
        fits = and_left (form.fits ns) (sound m) both;
        is_sound = and_right (form.fits ns) (sound m) both;
        size = eqb-true m.size (length memory) (not-false (eqb m.size (length memory)) h4.0);
      }

  machine_is : (read_back memory bad store text).machine ≡ machine_read memory bad store text
  unfolding read_back
  machine_is = rw (eq-eqb (read_refusal memory bad store text) 0 unrefused)

  -- the text of the machine read is that text
  text_is : text_of (machine_read memory bad store text) ≡ text
  unfolding text_of
  text_is =
      let k = read_says in
      let long = within_long form.places ns (read_within form.places text k.formed) in
      ap (λ (l : List ℕ). text_by form.places l) (form_lawful.again ns long k.fits) ∙ text_read form.places text form_lawful.no_digits k.formed

  again : (slice : List ℕ) → length text ≤ length slice
      → stored (read_back memory bad store text).machine slice ≡ stored_from (over slice 0 text) (answer.Value (length text))
  again slice room =
      let k = read_says in
      let m = machine_read memory bad store text in
      let none = sym (store_none m k.length_fits_lem k.is_sound k.size) in
      ap (λ (x : Machine). stored x slice) machine_is ∙ sym (stored_room_lem m slice none)
      ∙ sym (room_enough m slice (length text) (over slice 0 text) (ap length (sym text_is)) room (ap (λ (l : List ℕ). over slice 0 l) (sym text_is)))

pub stored_read : StoredRead
stored_read memory bad store text slice h room = again memory bad store text h slice room
