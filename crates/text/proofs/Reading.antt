-- Reading: its refusals by cases.
use Prim.Native.Nat.{ℕ}
use mathlib.Core.Bool.{Bool, true, false, ◌&&◌}
use mathlib.Core.Path.{◌≡◌, sym, ◌∙◌, ap}
use mathlib.Core.List.{List}
use lib.ListN.{length}
use borrow.Author.Tests.{eq-eqb, ne_eqb}
use Rattle.values.specs.Rows.{first_met}
use Rattle.refusals.specs.Refusals.{length_fits}
use Rattle.machine.specs.Machine.{Machine}
use Rattle.soundness.specs.Soundness.{sound}
use Rattle.step.specs.Start.{started_from}
use Rattle.form.specs.Texts.{Place, read_by}
use Rattle.form.specs.Code.{places_of, NumbersRead}
use Rattle.numbers.specs.Text.{form, machine_with}
use Rattle.text.specs.Read.{text_numbers, read_refusal, read_back}
use Rattle.text.specs.Code.{separators, refused_by, read_numbers}
use Rattle.text.proofs.Places.{form_places}

-- ---- by the numbers: 3 and 4

module _ (memory bad store ns : List ℕ) where
  abbrev m : Machine
  m = machine_with memory bad store (form.thing ns)

  pub read_three : (form.fits ns && sound m) ≡ false → refused_by memory bad store 3 ≡ read_numbers memory bad store ns
  unfolding read_numbers first_met
  read_three h = rw h

  module _ (f : form.fits ns ≡ true) (s : sound m ≡ true) where
    pub read_four : (m.size ≡ length memory → ⊥) → refused_by memory bad store 4 ≡ read_numbers memory bad store ns
    unfolding read_numbers first_met
    read_four h = rw (f, s, ne_eqb m.size (length memory) h)

    pub read_none : (n : Machine) → n ≡ m → m.size ≡ length memory → started_from n 0 ≡ read_numbers memory bad store ns
    unfolding read_numbers first_met
    read_none n e h = rw (f, s, eq-eqb m.size (length memory) h) (ap (λ (x : Machine). started_from x 0) e)

-- ---- by the text: 1 and 14 before them

module _ (memory bad store text : List ℕ) where
  pub read_one : length_fits (length memory) ≡ false → refused_by memory bad store 1 ≡ read_back memory bad store text
  unfolding read_back read_refusal first_met
  read_one h = rw h

  module _ (e : length_fits (length memory) ≡ true) where
    pub read_fourteen : (text_numbers text).formed ≡ false → refused_by memory bad store 14 ≡ read_back memory bad store text
    unfolding read_back read_refusal first_met
    read_fourteen h = rw (e, h)

    pub read_formed : (ns : List ℕ) → ns ≡ (text_numbers text).numbers → (text_numbers text).formed ≡ true
        → read_numbers memory bad store ns ≡ read_back memory bad store text
    unfolding read_back read_refusal read_numbers first_met
    read_formed ns q h = rw (q, e, h)

-- what the code reads of a text
pub read_by_lem : (bs text ns : List ℕ) (r : Bool) → bs ≡ separators → NumbersRead (places_of bs) text ns r
    → (r ≡ (text_numbers text).formed) × (r ≡ true → ns ≡ (text_numbers text).numbers)
read_by_lem bs text ns r e n =
    let q : places_of bs ≡ form.places = ap (λ (l : List ℕ). places_of l) e ∙ sym form_places in
    (n.same ∙ ap (λ (ps : List Place). (read_by ps text).formed) q, λ t. n.numbered t ∙ ap (λ (ps : List Place). (read_by ps text).numbers) q)
