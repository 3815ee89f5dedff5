-- The table worked out is the constant table.
use Rattle.std.specs.Prelude.{Result, Err, Ok}
use Prim.Native.Nat.{ℕ, zero, suc, ◌<◌}
use native.Mathlib.Omega.{arith}
use mathlib.Core.Bool.{Bool, true, false, cond}
use mathlib.Core.List.{List}
use mathlib.Core.Path.{◌≡◌, refl, sym, ◌∙◌, ap}
use lib.ListN.{get_or}
use borrow.Author.Tests.{lt-ltb}
use Rattle.values.specs.Control.{system, rom}
use Rattle.values.specs.Kinds.{is_store}
use Rattle.values.specs.declared.Registers.{Registers}
use Rattle.values.specs.declared.Access.{Access}
use Rattle.values.specs.declared.Entry.{Entry}
use Rattle.values.specs.declared.Status.TheVariants.{Alignment}
use Rattle.values.proofs.Cases.{case}
use Rattle.rights.specs.Rights.{rights, rights_at, rights_table, domain_value, index_of}
use Rattle.rights.proofs.Tables.{entry, at_index_lem}
use Rattle.tlb.specs.Tlb.{ap_of}
use Rattle.translation.specs.Alignment.{alignment_faults, cleared}
use Rattle.translation.specs.Translation.{judged, checked_by, checked, decided}
use Rattle.translation.specs.declared.Translation.{Translation}
use Rattle.translation.specs.declared.Translation.TheVariants.{Held, Walked}
use Rattle.printed.specs.Printed.{decimal_by, feeds}
use Rattle.access_table.specs.Permissions.{rows, rows_for, permitted}
use Rattle.access_table.specs.AccessTable.{access_entry, access_table}
use Rattle.access_table.specs.Lines.{entry_line, entry_lines}
use Rattle.access_table.proofs.Entries.{table_long}
use Rattle.rights_terms.specs.SameTable.{SameTable, SameAt, SameRule, entry_for, AccessUses, OneRow, Text, Fills, SameExports}
use Rattle.values.specs.declared.Cause.{Cause}
use Rattle.values.specs.Causes.{cause_from}
use Rattle.translation.specs.declared.Place.{Place}

-- both tables, computed
pub same_table : SameTable
unfolding access_table rights_table access_entry rights permitted rows_for rows
same_table = refl

-- "What it works out equals the constant table at every index."
pub every_index : (i : ℕ) → i < 256 → SameAt i
unfolding rights_table
every_index i h =
    let same = ap (λ (t : List ℕ). get_or t i 0) same_table in
    record { constant = same; rule = same ∙ entry rights_at 256 i h }

-- at the index of document 01
pub every_access : (value ap' : ℕ) (s r privileged store : Bool) → value < 4 → ap' < 4 → SameRule value ap' s r privileged store
unfolding access_table rights_table
every_access value ap' s r privileged store hv ha =
    record {
      worked = at_index_lem access_entry value ap' s r privileged store hv ha;
      rule =
          ap (λ (t : List ℕ). get_or t (index_of value ap' s r privileged store) 0) same_table ∙ at_index_lem rights value ap' s r privileged store hv ha;
    }

-- the rows and the domain values say what the rule says
pub rows_rule : (value ap' : ℕ) (s r privileged store : Bool) → value < 4 → ap' < 4
    → access_entry value ap' s r privileged store ≡ rights value ap' s r privileged store
rows_rule value ap' s r privileged store hv ha =
    let e = every_access value ap' s r privileged store hv ha in sym e.worked ∙ e.rule

-- the rights of an access are checked by the entry at its index
judged_by : (r : Registers) (a : Access) (e : Entry) → checked_by r a e ≡ judged (entry_for r a e) e (cleared a)
unfolding checked_by ap_of
judged_by r a e =
    let va = cleared a in
    let same = every_access (domain_value r.domains e.domain) (ap_of e va) (system r) (rom r) a.privileged (is_store a.kind) (omega arith)
    (omega arith) in
    ap (λ (n : ℕ). judged n e va) (sym same.rule)

-- what is decided of an access, by a mapping that passes or faults as c says
decided_by_lem : (r : Registers) (a : Access) (t : Result Translation Cause) (c : Result Place Cause) → checked r a t ≡ c
    → (decided r a t).checked ≡ cond (alignment_faults r a) (Err (cause_from Alignment 0)) c
unfolding decided
decided_by_lem r a t c h = case (alignment_faults r a) (λ f. rw f) (λ f. rw f h)

pub access_uses : (r : Registers) (a : Access) (e : Entry) → AccessUses r a e
access_uses r a e =
    record {
      held = decided_by_lem r a (Ok (Held e)) (judged (entry_for r a e) e (cleared a)) (judged_by r a e);
      walked = decided_by_lem r a (Ok (Walked e)) (judged (entry_for r a e) e (cleared a)) (judged_by r a e);
    }

-- one row of table 2-3 for each AP, S and R, computed
pub one_row : (ap' : ℕ) (s r : Bool) → ap' < 4 → OneRow ap' s r
unfolding rows_for rows
one_row zero true true h = refl
one_row zero true false h = refl
one_row zero false true h = refl
one_row zero false false h = refl
one_row (suc zero) s r h = refl
one_row (suc (suc zero)) s r h = refl
one_row (suc (suc (suc zero))) s r h = refl
one_row (suc (suc (suc (suc n)))) s r h = absurd (omega arith)

pub table_text_lem : Text
unfolding access_table access_entry permitted rows_for rows entry_line entry_lines decimal_by feeds
table_text_lem = record { constant = ap (entry_lines 0) same_table; lines = refl; size = refl; example = refl }

-- what `sa110_rights_table` leaves and what `sa110_right` answers are the same
pub same_exports : (table : List ℕ) → Fills table → SameExports table
same_exports table f =
    record {
      long = rw f table_long;
      each = λ i r h a. a ∙ rw (lt-ltb i 256 h) (sym (every_index i h).rule) ∙ ap (λ (t : List ℕ). get_or t i 0) (sym f);
    }
