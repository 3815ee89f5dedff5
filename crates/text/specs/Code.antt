-- What the code of storing and reading has: the bytes behind the numbers, and each step's part of the definitions.
use Rattle.std.specs.Prelude.{ℕ, Result, Ok, Err, true, cond, ◌&&◌, ◌≡◌, List, [], ◌∷◌, ◌++◌, eqb, ltb, length}
use Rattle.values.specs.declared.Answer.{Answer}
use Rattle.values.specs.declared.Answer.TheVariants as answer
use Rattle.printed.specs.Code.{over}
use Rattle.refusals.specs.declared.Refusal.{Refusal}
use Rattle.refusals.specs.Numbers.{number_of}
use Rattle.refusals.specs.Refusals.{refusal_in, row1, row3, row4}
use Rattle.machine.specs.Machine.{Machine, memory_of, fresh}
use Rattle.soundness.specs.Soundness.{sound}
use Rattle.step.specs.Start.{Started, started_from}
use Rattle.state.specs.State.{machine_in}
use Rattle.form.specs.Code.{lines_separators}
use Rattle.numbers.specs.Text.{form, machine_with, text_of}
use Rattle.numbers.specs.Code.{Unfit}
use Rattle.text.specs.Store.{Stored, stored_from}
use Rattle.text.specs.declared.Restored.{Restored}

-- the bytes behind the numbers of the form
unfoldable pub separators : List ℕ
separators = lines_separators 1 29 ++ (lines_separators 32 11 ++ (lines_separators 512 5 ++ lines_separators 8 18))

-- 1, 3 and 4 of storing
unfoldable pub store_state_refusal : Machine → ℕ
store_state_refusal m = refusal_in (row1 (length (memory_of m)) ∷ row3 (sound m) ∷ row4 m.size (length (memory_of m)) ∷ [])

-- storing by 15 alone
unfoldable pub stored_room : Machine → List ℕ → Stored
stored_room m slice =
    cond (ltb (length slice) (length (text_of m))) (stored_from slice (answer.Refused 15))
    (stored_from (over slice 0 (text_of m)) (answer.Value (length (text_of m))))

-- a refused read
abbrev pub refused_by : List ℕ → List ℕ → List ℕ → ℕ → Started
refused_by memory bad store n = started_from (fresh 0 memory bad store) n

-- what storing answers: the text's length, or a refusal's number
abbrev pub answer_of : Result ℕ Refusal → Answer
answer_of (Ok n) = answer.Value n
answer_of (Err e) = answer.Refused (number_of e)

-- state and record made of numbers, or 3
abbrev pub RestoredIs : List ℕ → Result Restored Refusal → Type 0
RestoredIs ns (Ok r) =
    ((memory bad store : List ℕ) → machine_in memory bad store r.state r.cp15 ≡ machine_with memory bad store (form.thing ns))
    × (form.fits ns ≡ true)
RestoredIs ns (Err e) = (number_of e ≡ 3) × Unfit ns

-- 3 and 4 of reading, by the numbers of the text
module _ (memory bad store ns : List ℕ) where
  abbrev pub numbers_refusal : ℕ
  numbers_refusal =
      refusal_in
      (row3 (form.fits ns && sound (machine_with memory bad store (form.thing ns)))
      ∷ row4 (machine_with memory bad store (form.thing ns)).size (length memory) ∷ [])

  -- reading by 3 and 4 alone
  unfoldable pub read_numbers : Started
  read_numbers = started_from (cond (eqb numbers_refusal 0) (machine_with memory bad store (form.thing ns)) (fresh 0 memory bad store)) numbers_refusal
