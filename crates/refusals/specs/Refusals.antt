-- "Refused calls, in checking order": the twelve rows, document 02's row 16, and those that a call alone decides. The number of a refusal is that of the
-- first row met, among the rows that the call meets, in their order; 0 is none. Which rows each call meets: crate step, specs/Meets.antt.
use Rattle.std.specs.Prelude.{ℕ, ◌*◌, ◌%◌, Bool, true, false, cond, not, ◌&&◌, List, [], ◌∷◌, eqb, leb, length}
use Rattle.values.specs.Bits.{bit}
use Rattle.values.specs.Lists.{all}
use Rattle.values.specs.Rows.{Row, first_met}
use Rattle.values.specs.Control.{listed}
use Rattle.values.specs.Counts.{count_limit}
use Rattle.values.specs.declared.Kind.{Kind}
use Rattle.values.specs.declared.Kind.TheVariants.{Load, SignedLoad, Store, Swap}
use Rattle.values.specs.declared.Access.{Access}
use Rattle.values.specs.declared.Transfer.{Transfer}
use Rattle.values.specs.declared.Call as call
use Rattle.values.specs.declared.Call.TheVariants.{Read, Write}
use Rattle.values.specs.declared.Call.TheVariants as calls
use Rattle.words.specs.Words.{is_width, fits_width}
use Rattle.registers.specs.Pairs.{listed_pair}

-- a number, and the condition under which it refuses
abbrev pub refuses : ℕ → Bool → Row ℕ
refuses n condition = record { met = condition; gives = n }

-- the number of the first row met
abbrev pub refusal_in : List (Row ℕ) → ℕ
refusal_in rows = first_met 0 rows

-- "1. The memory length is not a multiple of 32 or exceeds 16,777,216."
abbrev pub length_fits : ℕ → Bool
length_fits n = eqb (n % 32) 0 && leb n 0x1000000

abbrev pub row1 : ℕ → Row ℕ
row1 length = refuses 1 (not (length_fits length))

-- "2. The cache store is not 16,384 bytes."
abbrev pub store_fits : ℕ → Bool
store_fits n = eqb n 16384

abbrev pub row2 : ℕ → Row ℕ
row2 length = refuses 2 (not (store_fits length))

-- "3. The state is unsound": by the test of soundness
abbrev pub row3 : Bool → Row ℕ
row3 sound = refuses 3 (not sound)

-- "4. The memory length differs from the one at the start."
abbrev pub row4 : ℕ → ℕ → Row ℕ
row4 start length = refuses 4 (not (eqb start length))

-- Document 02, Five: "16 when the map's length is not a quarter of memory's or a byte exceeds 1, after 4": for a memory of n bytes
unfoldable pub map_fits : ℕ → List ℕ → Bool
map_fits n bad = eqb (length bad * 4) n && all (λ (b : ℕ). leb b 1) bad

abbrev pub row16 : ℕ → List ℕ → Row ℕ
row16 memory bad = refuses 16 (not (map_fits memory bad))

-- "5. The count of calls stands at 4,294,967,295."
abbrev pub row5 : ℕ → Row ℕ
row5 calls = refuses 5 (eqb calls count_limit)

-- "6. The access width is not 1, 2 or 4 bytes." Document 02, Two: a swap's "width of 2 is refused as 6".
abbrev pub width_fits : ℕ → Kind → Bool
width_fits width Load = is_width width
width_fits width SignedLoad = is_width width
width_fits width (Store v) = is_width width
width_fits width (Swap v) = is_width width && not (eqb width 2)

abbrev pub row6 : Access → Row ℕ
row6 a = refuses 6 (not (width_fits a.width a.kind))

-- "7. The value to store does not fit the width."
abbrev pub value_fits : ℕ → Kind → Bool
value_fits width Load = true
value_fits width SignedLoad = true
value_fits width (Store v) = fits_width width v
value_fits width (Swap v) = fits_width width v

abbrev pub row7 : Access → Row ℕ
row7 a = refuses 7 (not (value_fits a.width a.kind))

-- a CP15 call: whether it writes, and the value written
module _ (t : Transfer) (writes : Bool) (v : ℕ) where
  -- "8. A CP15 call is made in user mode."
  abbrev pub row8 : Row ℕ
  row8 = refuses 8 (not t.privileged)

  -- "9. The register cannot be read (other than 0 to 6) or written (other than 1 to 8)."
  abbrev pub row9 : Row ℕ
  row9 = refuses 9 (not (cond writes (leb 1 t.register && leb t.register 8) (leb t.register 6)))

  -- "10. The operation pair for register 7 or 8 is not listed."
  abbrev pub row10 : Row ℕ
  row10 = refuses 10 (writes && (leb 7 t.register && not (listed_pair t)))

  -- "11. A control write sets bit 7."
  abbrev pub row11 : Row ℕ
  row11 = refuses 11 (writes && (eqb t.register 1 && bit v 7))

  -- "12. A control write gives an unlisted combination."
  abbrev pub row12 : Row ℕ
  row12 = refuses 12 (writes && (eqb t.register 1 && not (listed v)))

  -- those that a CP15 call alone decides
  abbrev pub transfer_rows : List (Row ℕ)
  transfer_rows = row8 ∷ row9 ∷ row10 ∷ row11 ∷ row12 ∷ []

-- the rows that a call alone decides: 6 and 7 of an access, 8 to 12 of a CP15 call
abbrev pub call_rows : call.Call → List (Row ℕ)
call_rows (calls.Access a) = row6 a ∷ row7 a ∷ []
call_rows (Read t) = transfer_rows t false 0
call_rows (Write t v) = transfer_rows t true v

abbrev pub call_refusal : call.Call → ℕ
call_refusal c = refusal_in (call_rows c)
