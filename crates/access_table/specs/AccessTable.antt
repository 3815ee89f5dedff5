-- Document 02, Six: "A program works out all 256 entries from the domain values and 001's table 2-3".
use Rattle.std.specs.Prelude.{ℕ, Bool, cond, ◌||◌, List, eqb}
use Rattle.rights.specs.Rights.{at_index, tabulated}
use Rattle.access_table.specs.Permissions.{permitted, allows}

-- "Domain values: 0 and 2 domain fault, 1 checked by 001's table 2-3, 3 always allowed."; "Entries: 0 allowed, 1 domain fault, 2 permission fault."
unfoldable pub access_entry : ℕ → ℕ → Bool → Bool → Bool → Bool → ℕ
access_entry value ap s r privileged store =
    cond (eqb value 0 || eqb value 2) 1
    (cond (eqb value 1) (cond (allows (permitted ap s r privileged) store) 0 2)
    (cond (eqb value 3) 0 1))

-- "all 256 entries", by the index of document 01
unfoldable pub access_table : List ℕ
access_table = tabulated (at_index access_entry) 0 256
