-- Translation and rights: which mapping serves, and whether it lets the access pass.
use Rattle.std.specs.Prelude.{ℕ, Bool, false, cond, not, List, eqb, get_or, Option, Some, None, Result, Ok, Err}
use Rattle.values.specs.Addresses.{flat}
use Rattle.values.specs.Control.{mmu, system, rom}
use Rattle.values.specs.Empty.{empty_entry}
use Rattle.values.specs.declared.VirtualAddress.{VirtualAddress}
use Rattle.values.specs.Kinds.{is_store}
use Rattle.values.specs.Counts.{missed}
use Rattle.values.specs.declared.Counts.{Counts}
use Rattle.values.specs.declared.Registers.{Registers}
use Rattle.values.specs.declared.Access.{Access}
use Rattle.values.specs.declared.Entry.{Entry}
use Rattle.values.specs.declared.Status.TheVariants.{Alignment, DomainSection, DomainPage, PermissionSection, PermissionPage}
use Rattle.rights.specs.Rights.{rights, domain_value}
use Rattle.bus.specs.Physical.{Physical}
use Rattle.walk.specs.Walk.{walk}
use Rattle.tlb.specs.Tlb.{lookup, translated, ap_of, placed, stepped}
use Rattle.translation.specs.Alignment.{alignment_faults, cleared}
use Rattle.translation.specs.declared.Decision.{Decision}
use Rattle.translation.specs.declared.Translation.{Translation}
use Rattle.translation.specs.declared.Translation.TheVariants.{Flat, Held, Walked}
use Rattle.translation.specs.declared.Place.{Place}
use Rattle.values.specs.declared.Cause.{Cause}
use Rattle.values.specs.Causes.{cause_from}

-- ---- which mapping serves

abbrev pub of_walk : Result Entry Cause → Result Translation Cause
of_walk (Ok e) = Ok (Walked e)
of_walk (Err why) = Err why

-- the plain machine: "if M is set, walks its memory ...; else the address is flat"
unfoldable pub walked_only : Registers → Physical → VirtualAddress → Result Translation Cause
walked_only r memory va = cond (mmu r) (of_walk (walk memory r.base va)) (Ok Flat)

-- "The lowest-numbered TLB entry that covers the address serves. Otherwise the walk reads memory only"
abbrev pub of_lookup : List Entry → Registers → Physical → VirtualAddress → Option ℕ → Result Translation Cause
of_lookup entries r memory va (Some i) = Ok (Held (get_or entries i empty_entry))
of_lookup entries r memory va None = of_walk (walk memory r.base va)

unfoldable pub translation : List Entry → Registers → Physical → VirtualAddress → Result Translation Cause
translation entries r memory va = cond (mmu r) (of_lookup entries r memory va (lookup entries va)) (Ok Flat)

-- "A valid mapping goes to the TLB at its pointer, which then steps round the 32, before any rights are checked."
abbrev pub entries_after : List Entry → ℕ → Result Translation Cause → List Entry
entries_after entries pointer (Ok Flat) = entries
entries_after entries pointer (Ok (Held e)) = entries
entries_after entries pointer (Ok (Walked e)) = placed entries pointer e
entries_after entries pointer (Err why) = entries

abbrev pub pointer_after : ℕ → Result Translation Cause → ℕ
pointer_after pointer (Ok Flat) = pointer
pointer_after pointer (Ok (Held e)) = pointer
pointer_after pointer (Ok (Walked e)) = stepped pointer
pointer_after pointer (Err why) = pointer

-- "A TLB miss counts even if its walk then faults"
abbrev pub counts_after : Counts → Result Translation Cause → Counts
counts_after c (Ok Flat) = c
counts_after c (Ok (Held e)) = c
counts_after c (Ok (Walked e)) = missed c
counts_after c (Err why) = missed c

-- ---- whether it lets the access pass

-- "The second of each pair is for pages"
abbrev pub is_page : Entry → Bool
is_page e = not (eqb e.size 0)

abbrev pub place_of : Entry → VirtualAddress → Place
place_of e va =
    record { address = translated e va; page = is_page e; domain = e.domain; cacheable = e.cacheable; bufferable = e.bufferable }

-- "With M clear, addresses are flat, neither cacheable nor bufferable." "flat counts as section", "Domain is 0 for ... flat"
abbrev pub flat_place : VirtualAddress → Place
flat_place va = record { address = flat va; page = false; domain = 0; cacheable = false; bufferable = false }

-- "Entries: 0 allowed, 1 domain fault, 2 permission fault"; "domain 9, 11; permission 13, 15"
abbrev pub judged : ℕ → Entry → VirtualAddress → Result Place Cause
judged right e va =
    cond (eqb right 0) (Ok (place_of e va))
    (cond (eqb right 1) (Err (cause_from (cond (is_page e) DomainPage DomainSection) e.domain))
    (Err (cause_from (cond (is_page e) PermissionPage PermissionSection) e.domain)))

unfoldable pub checked_by : Registers → Access → Entry → Result Place Cause
checked_by r a e =
    let va = cleared a in
    judged (rights (domain_value r.domains e.domain) (ap_of e va) (system r) (rom r) a.privileged (is_store a.kind)) e va

abbrev pub checked : Registers → Access → Result Translation Cause → Result Place Cause
checked r a (Ok Flat) = Ok (flat_place (cleared a))
checked r a (Ok (Held e)) = checked_by r a e
checked r a (Ok (Walked e)) = checked_by r a e
checked r a (Err why) = Err why

-- ---- what is decided of an access before anything changes

-- which mapping serves, and whether alignment, translation and rights pass
abbrev pub decision_from : Result Translation Cause → Result Place Cause → Decision
decision_from mapping checked = record { mapping = mapping; checked = checked }

-- "Alignment: with A set, ... faults", status 1, domain 0, before translation: no mapping is asked for
unfoldable pub decided : Registers → Access → Result Translation Cause → Decision
decided r a t = cond (alignment_faults r a) (decision_from (Ok Flat) (Err (cause_from Alignment 0))) (decision_from t (checked r a t))
