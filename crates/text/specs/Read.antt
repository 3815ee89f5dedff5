-- Reading back: "14 when a text read back departs from the form"; "reading 1, 14, 3, 4; a refused read gives a state all zeros".
use Rattle.std.specs.Prelude.{ℕ, Bool, cond, not, ◌&&◌, List, [], ◌∷◌, eqb, length}
use Rattle.values.specs.Rows.{Row}
use Rattle.refusals.specs.Refusals.{refuses, refusal_in, row1, row3, row4}
use Rattle.machine.specs.Machine.{Machine, fresh}
use Rattle.soundness.specs.Soundness.{sound}
use Rattle.step.specs.Start.{Started, started_from}
use Rattle.form.specs.Texts.{Numbers, read_by}
use Rattle.numbers.specs.Text.{form, machine_with}

-- the numbers of a text, or that it departs
abbrev pub text_numbers : List ℕ → Numbers
text_numbers text = read_by form.places text

-- "14 when a text read back departs from the form"
abbrev pub row14 : Bool → Row ℕ
row14 formed = refuses 14 (not formed)

module _ (memory bad store text : List ℕ) where
  -- the machine whose state and record a text has, with memory, map and cache store
  abbrev pub machine_read : Machine
  machine_read = machine_with memory bad store (form.thing (text_numbers text).numbers)

  -- a number that does not fit its field is unsound
  abbrev pub sound_read : Bool
  sound_read = form.fits (text_numbers text).numbers && sound machine_read

  -- "reading 1, 14, 3, 4"
  abbrev pub read_meets : List (Row ℕ)
  read_meets =
      row1 (length memory) ∷ row14 (text_numbers text).formed ∷ row3 sound_read ∷ row4 machine_read.size (length memory) ∷ []

  unfoldable pub read_refusal : ℕ
  read_refusal = refusal_in read_meets

  -- the machine read, or "a state all zeros", and the refusal's number, 0 where the text is read
  unfoldable pub read_back : Started
  read_back = started_from (cond (eqb read_refusal 0) machine_read (fresh 0 memory bad store)) read_refusal
