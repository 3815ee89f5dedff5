-- Document 02, Six: "What it works out equals the constant table at every index." What it works out is `access_table`, made of the rows of 001's table 2-3
-- and the domain values; the constant table is `rights_table`, and `rights` is the rule that an access uses.
use Rattle.std.specs.Prelude.{ℕ, ◌<◌, Bool, cond, List, [], ◌∷◌, ◌≡◌, length, get_or, take, drop, Result, Err, Ok}
use Rattle.values.specs.Control.{system, rom}
use Rattle.values.specs.Kinds.{is_store}
use Rattle.values.specs.declared.Registers.{Registers}
use Rattle.values.specs.declared.Access.{Access}
use Rattle.values.specs.declared.Entry.{Entry}
use Rattle.values.specs.declared.Status.TheVariants.{Alignment}
use Rattle.rights.specs.Rights.{rights, rights_at, rights_table, index_of, domain_value}
use Rattle.tlb.specs.Tlb.{ap_of}
use Rattle.translation.specs.Alignment.{alignment_faults, cleared}
use Rattle.translation.specs.Translation.{judged, decided}
use Rattle.translation.specs.declared.Translation.TheVariants.{Held, Walked}
use Rattle.printed.specs.Printed.{feeds}
use Rattle.access_table.specs.Permissions.{rows, rows_for}
use Rattle.access_table.specs.AccessTable.{access_entry, access_table}
use Rattle.access_table.specs.Lines.{entry_lines, table_text}
use Rattle.host.specs.Exports.{right_code}
use Rattle.values.specs.declared.Cause.{Cause}
use Rattle.values.specs.Causes.{cause_from}
use Rattle.translation.specs.declared.Place.{Place}

-- the whole tables, entry by entry
abbrev pub SameTable : Type 0
SameTable = access_table ≡ rights_table

-- "at every index": the entry worked out is that of the constant table, and what the rule says of the index
pub record SameAt (i : ℕ) : Type 0 where
  pub constant : get_or access_table i 0 ≡ get_or rights_table i 0
  pub rule : get_or access_table i 0 ≡ rights_at i

-- at the index of a domain value, AP, S, R, mode and kind: the entry is what the rows and the domain values say of them, and what the rule says
pub record SameRule (value ap : ℕ) (s r privileged store : Bool) : Type 0 where
  pub worked : get_or access_table (index_of value ap s r privileged store) 0 ≡ access_entry value ap s r privileged store
  pub rule : get_or access_table (index_of value ap s r privileged store) 0 ≡ rights value ap s r privileged store

-- the entry at the index of an access, by the registers and the mapping that serves it
abbrev pub entry_for : Registers → Access → Entry → ℕ
entry_for r a e =
    get_or access_table
    (index_of (domain_value r.domains e.domain) (ap_of e (cleared a)) (system r) (rom r) a.privileged (is_store a.kind)) 0

-- what is decided of an access that this mapping, held or walked, serves: where it passes alignment, by the entry at its index its rights pass, or it has a
-- domain fault or a permission fault
abbrev pub decided_by : Registers → Access → Entry → Result Place Cause
decided_by r a e = cond (alignment_faults r a) (Err (cause_from Alignment 0)) (judged (entry_for r a e) e (cleared a))

pub record AccessUses (r : Registers) (a : Access) (e : Entry) : Type 0 where
  pub held : (decided r a (Ok (Held e))).checked ≡ decided_by r a e
  pub walked : (decided r a (Ok (Walked e))).checked ≡ decided_by r a e

-- table 2-3 has one row for each AP of two bits, S and R
abbrev pub OneRow : ℕ → Bool → Bool → Type 0
OneRow ap s r = length (rows_for ap s r rows) ≡ 1

-- "prints each, rising, on a line as index, entry; for instance `66,2`"
pub record Text : Type 0 where
  pub constant : table_text ≡ entry_lines 0 rights_table
  pub lines : feeds table_text ≡ 256
  pub size : length table_text ≡ 1426
  pub example : take 5 (drop 320 table_text) ≡ 54 ∷ 54 ∷ 44 ∷ 50 ∷ 10 ∷ []

-- ---- of the exports, by their contracts

-- what `sa110_rights_table` leaves in the array lent, and what `sa110_right` answers
abbrev pub Fills : List ℕ → Type 0
Fills table = table ≡ access_table

abbrev pub Answers : ℕ → ℕ → Type 0
Answers index r = r ≡ right_code index

-- the array has 256 entries, and `sa110_right` answers the one at each index
pub record SameExports (table : List ℕ) : Type 0 where
  pub long : length table ≡ 256
  pub each : (i r : ℕ) → i < 256 → Answers i r → r ≡ get_or table i 0
