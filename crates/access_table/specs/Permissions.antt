-- 001, table 2-3, "Access Permissions": its rows as they stand there.
use Rattle.std.specs.Prelude.{ℕ, Bool, true, false, cond, not, ◌&&◌, List, [], ◌∷◌, eqb}
use Rattle.access_table.specs.declared.Permission.{Permission}
use Rattle.access_table.specs.declared.Permission.TheVariants.{NoAccess, ReadOnly, ReadWrite, Unpredictable}

-- what stands in the columns S and R: 0, 1, or x for either
pub data Mark : Type 0 where
  O : Mark
  I : Mark
  X : Mark

-- a row: the columns AP, S, R, Supervisor_Mode, User_Mode
pub record Row : Type 0 where
  pub ap : ℕ
  pub s : Mark
  pub r : Mark
  pub supervisor : Permission
  pub user : Permission

abbrev pub row : ℕ → Mark → Mark → Permission → Permission → Row
row ap s r supervisor user = record { ap = ap; s = s; r = r; supervisor = supervisor; user = user }

-- the rows in their order, AP as a number
--     AP S R Supervisor_Mode User_Mode
unfoldable pub rows : List Row
rows =
    row 0 O O NoAccess NoAccess
    ∷ row 0 I O ReadOnly NoAccess
    ∷ row 0 O I ReadOnly ReadOnly
    ∷ row 0 I I Unpredictable Unpredictable
    ∷ row 1 X X ReadWrite NoAccess
    ∷ row 2 X X ReadWrite ReadOnly
    ∷ row 3 X X ReadWrite ReadWrite
    ∷ []

-- a bit agrees with what a column has
abbrev pub is_marked : Mark → Bool → Bool
is_marked O bit = not bit
is_marked I bit = bit
is_marked X bit = true

-- a row is the one for AP, S and R
abbrev pub is_for : ℕ → Bool → Bool → Row → Bool
is_for ap s r w = eqb w.ap ap && (is_marked w.s s && is_marked w.r r)

-- the rows for AP, S and R: for each AP of two bits there is one
unfoldable pub rows_for : ℕ → Bool → Bool → List Row → List Row
rows_for ap s r [] = []
rows_for ap s r (w ∷ ws) = cond (is_for ap s r w) (w ∷ rows_for ap s r ws) (rows_for ap s r ws)

-- the column of a mode: Supervisor_Mode for a privileged one, else User_Mode
abbrev pub mode_of : Bool → Permission → Permission → Permission
mode_of privileged supervisor user = cond privileged supervisor user

-- what the first of some rows permits a mode; where there is none, no access
abbrev pub permitted_by : Bool → List Row → Permission
permitted_by privileged [] = NoAccess
permitted_by privileged (w ∷ ws) = mode_of privileged w.supervisor w.user

-- what table 2-3 permits a mode, by AP, S and R
unfoldable pub permitted : ℕ → Bool → Bool → Bool → Permission
permitted ap s r privileged = permitted_by privileged (rows_for ap s r rows)

-- whether a load, or a store, is permitted. UNPREDICTABLE stands at AP 00 with S and R set: document 01, "AP 00 with S and R both set allows nothing."
abbrev pub allows : Permission → Bool → Bool
allows NoAccess store = false
allows ReadOnly store = not store
allows ReadWrite store = true
allows Unpredictable store = false
