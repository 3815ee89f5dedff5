-- "The start meets 1 and 2; an access 1 to 7; a CP15 call 1 to 5 and 8 to 12.": the rows that each call of the library meets, in checking order; and
-- document 02, Five: 16 "after 4".
use Rattle.std.specs.Prelude.{ℕ, Bool, true, false, List, [], ◌∷◌, length}
use Rattle.values.specs.Rows.{Row}
use Rattle.values.specs.declared.Access.{Access}
use Rattle.values.specs.declared.Transfer.{Transfer}
use Rattle.values.specs.declared.Call.{Call}
use Rattle.values.specs.declared.Call.TheVariants.{Read, Write}
use Rattle.values.specs.declared.Call.TheVariants as calls
use Rattle.refusals.specs.Refusals.{refusal_in, row1, row2, row3, row4, row5, row6, row7, row8, row9, row10, row11, row12, row16}
use Rattle.machine.specs.Machine.{Machine, memory_of, bad_of, store_of}
use Rattle.soundness.specs.Soundness.{sound}

-- "The start meets 1 and 2"
abbrev pub start_meets : List ℕ → List ℕ → List (Row ℕ)
start_meets memory store = row1 (length memory) ∷ row2 (length store) ∷ []

unfoldable pub start_refusal : List ℕ → List ℕ → ℕ
start_refusal memory store = refusal_in (start_meets memory store)

-- 1 to 4 and 16, which the lent things and the state decide
abbrev pub state_meets : Machine → List (Row ℕ)
state_meets m =
    row1 (length (memory_of m)) ∷ row2 (length (store_of m)) ∷ row3 (sound m) ∷ row4 m.size (length (memory_of m))
    ∷ row16 (length (memory_of m)) (bad_of m) ∷ []

unfoldable pub state_refusal : Machine → ℕ
state_refusal m = refusal_in (state_meets m)

-- "an access 1 to 7"
abbrev pub access_meets : Machine → Access → List (Row ℕ)
access_meets m a =
    row1 (length (memory_of m)) ∷ row2 (length (store_of m)) ∷ row3 (sound m) ∷ row4 m.size (length (memory_of m))
    ∷ row16 (length (memory_of m)) (bad_of m) ∷ row5 m.counts.calls ∷ row6 a ∷ row7 a ∷ []

-- "a CP15 call 1 to 5 and 8 to 12": whether it writes, and the value written
abbrev pub cp15_meets : Machine → Transfer → Bool → ℕ → List (Row ℕ)
cp15_meets m t writes v =
    row1 (length (memory_of m)) ∷ row2 (length (store_of m)) ∷ row3 (sound m) ∷ row4 m.size (length (memory_of m))
    ∷ row16 (length (memory_of m)) (bad_of m) ∷ row5 m.counts.calls ∷ row8 t writes v ∷ row9 t writes v ∷ row10 t writes v ∷ row11 t writes v
    ∷ row12 t writes v ∷ []

abbrev pub meets : Machine → Call → List (Row ℕ)
meets m (calls.Access a) = access_meets m a
meets m (Read t) = cp15_meets m t false 0
meets m (Write t v) = cp15_meets m t true v

-- the number by which a call is refused, 0 where it is not
unfoldable pub refusal : Machine → Call → ℕ
refusal m c = refusal_in (meets m c)
