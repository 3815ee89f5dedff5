-- Storing: "storing answers the text's length, bytes behind it stay. Storing meets 1, 3, 4, 15".
use Rattle.std.specs.Prelude.{ℕ, cond, List, [], ◌∷◌, eqb, ltb, length, replicate}
use Rattle.values.specs.Rows.{Row}
use Rattle.values.specs.declared.Answer.{Answer}
use Rattle.values.specs.declared.Answer.TheVariants as answer
use Rattle.printed.specs.Code.{over}
use Rattle.refusals.specs.Refusals.{refuses, refusal_in, row1, row3, row4}
use Rattle.machine.specs.Machine.{Machine, memory_of}
use Rattle.soundness.specs.Soundness.{sound}
use Rattle.numbers.specs.Text.{text_of}

-- "15 when the slice lent for the text is too short"
abbrev pub row15 : ℕ → ℕ → Row ℕ
row15 size room = refuses 15 (ltb room size)

-- "Storing meets 1, 3, 4, 15"
abbrev pub store_meets : Machine → ℕ → List (Row ℕ)
store_meets m room =
    row1 (length (memory_of m)) ∷ row3 (sound m) ∷ row4 m.size (length (memory_of m)) ∷ row15 (length (text_of m)) room ∷ []

unfoldable pub store_refusal : Machine → ℕ → ℕ
store_refusal m room = refusal_in (store_meets m room)

-- what storing leaves of the slice, and what it answers
pub record Stored : Type 0 where
  pub slice : List ℕ
  pub answer : Answer

abbrev pub stored_from : List ℕ → Answer → Stored
stored_from slice a = record { slice = slice; answer = a }

-- the text at the front of the slice, "bytes behind it stay"; a refusal changes nothing
unfoldable pub stored : Machine → List ℕ → Stored
stored m slice =
    let n = store_refusal m (length slice) in
    cond (eqb n 0) (stored_from (over slice 0 (text_of m)) (answer.Value (length (text_of m)))) (stored_from slice (answer.Refused n))
