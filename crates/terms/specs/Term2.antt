-- Term 2, beyond the contracts: the fault table in document 01's order. An accepted access faults with the first row whose condition holds,
-- and with no fault where none does.
use Rattle.std.specs.Prelude.{ℕ, ◌%◌, Bool, true, false, cond, not, ◌&&◌, ◌||◌, ◌≡◌, List, [], ◌∷◌, eqb, Option, Some, None, Result, Ok, Err}
use Rattle.values.specs.Kinds.{is_store, is_swap}
use Rattle.values.specs.Rows.{Row, first_met}
use Rattle.values.specs.Control.{mmu, system, rom}
use Rattle.values.specs.Empty.{empty_entry}
use Rattle.values.specs.declared.Registers.{Registers}
use Rattle.values.specs.declared.Entry.{Entry}
use Rattle.values.specs.declared.Access.{Access}
use Rattle.values.specs.declared.Fault.{Fault}
use Rattle.values.specs.declared.Status.{Status}
use Rattle.values.specs.declared.Status.TheVariants.{Alignment, WalkFirst, WalkSecond, TranslationSection, TranslationPage, DomainSection, DomainPage}
use Rattle.values.specs.declared.Status.TheVariants.{PermissionSection, PermissionPage, FillSection, FillPage, OtherSection, OtherPage}
use Rattle.values.specs.declared.Call.{Call}
use Rattle.values.specs.declared.Call.TheVariants.{Read, Write}
use Rattle.values.specs.declared.Call.TheVariants as calls
use Rattle.values.specs.declared.Answer.{Answer}
use Rattle.values.specs.declared.Answer.TheVariants as answer
use Rattle.rights.specs.Rights.{rights, domain_value}
use Rattle.walk.specs.Walk.{first_address, second_address, domain_of}
use Rattle.tlb.specs.Tlb.{lookup, ap_of}
use Rattle.cache.specs.Dcache.{find}
use Rattle.translation.specs.Alignment.{alignment_faults, cleared}
use Rattle.translation.specs.Translation.{translation}
use Rattle.bus.specs.Physical.{Physical, aborts, wanted_aborts}
use Rattle.translation.specs.Faults.{fills, buffers}
use Rattle.translation.specs.declared.Translation.{Translation}
use Rattle.translation.specs.declared.Translation.TheVariants.{Flat, Held, Walked}
use Rattle.translation.specs.declared.Place.{Place}
use Rattle.step.specs.Meets.{refusal}
use Rattle.step.specs.Call.{served}
use Rattle.bus.specs.Reader.{descriptor_at}
use Rattle.machine.specs.Machine.{Machine, physical_of}
use Rattle.terms.specs.Callers.{place_by, FaultLeaves}
use Rattle.values.specs.declared.Cause.{Cause}

-- ---- the walk's words

abbrev pub is_outside : Option ℕ → Bool
is_outside None = true
is_outside (Some w) = false

abbrev pub word_in : Option ℕ → ℕ
word_in None = 0
word_in (Some w) = w

-- a word whose low two bits are these
abbrev pub has_bits : ℕ → Option ℕ → Bool
has_bits k None = false
has_bits k (Some w) = eqb (w % 4) k

abbrev pub is_nothing : Option ℕ → Bool
is_nothing (Some i) = false
is_nothing None = true

-- the mapping that serves; a failed walk has its row above those that ask
abbrev pub entry_of : Result Translation Cause → Entry
entry_of (Ok Flat) = empty_entry
entry_of (Ok (Held e)) = e
entry_of (Ok (Walked e)) = e
entry_of (Err why) = empty_entry

-- ---- the table

-- a fault, or none
pub data Faulting : Type 0 where
  faults : Fault → Faulting
  passes : Faulting

abbrev pub fault_in : Answer → Faulting
fault_in (answer.Value v) = passes
fault_in (answer.Signed z) = passes
fault_in (answer.Fault f) = faults f
fault_in (answer.Refused n) = passes

module _ (m : Machine) (a : Access) where
  abbrev regs : Registers
  regs = m.cp15.registers

  -- a row: its condition, and the fault's status and domain
  abbrev row : Bool → Status → ℕ → Row Faulting
  row condition status domain =
      record { met = condition; gives = faults (record { status = status; domain = domain; address = a.address }) }

  abbrev memory : Physical
  memory = physical_of m

  abbrev store : Bool
  store = is_store a.kind

  abbrev swap : Bool
  swap = is_swap a.kind

  abbrev mapping : Result Translation Cause
  mapping = translation m.entries regs memory (cleared a)

  -- "Otherwise the walk reads memory": M is set and no TLB entry covers the address
  abbrev walked : Bool
  walked = mmu regs && is_nothing (lookup m.entries (cleared a))

  abbrev one : Option ℕ
  one = descriptor_at memory (first_address regs.base (cleared a))

  abbrev two : Option ℕ
  two = descriptor_at memory (second_address (word_in one) (cleared a))

  abbrev right : ℕ
  right =
      rights (domain_value regs.domains (entry_of mapping).domain) (ap_of (entry_of mapping) (cleared a)) (system regs) (rom regs)
      a.privileged store

  abbrev place : Place
  place = place_by (cleared a) mapping

  abbrev misses : Bool
  misses = is_nothing (find m.side.cache.lines (cleared a))

  -- "on line fill": a load that fills; otherwise a load that does not, a store that is not buffered, or a swap: "codes 8 and 10 apply, also on a
  -- buffered page"
  -- Document 02, Five: "An abort at or before the wanted word faults with 4 or 6."
  abbrev on_fill : Bool
  on_fill = misses && (not store && (fills regs place && wanted_aborts memory place.address))

  -- "uncached loads, swaps that miss and unbuffered stores abort as outside memory"; walks do so by `descriptor_at`
  abbrev other : Bool
  other = misses && (aborts memory place.address && (swap || cond store (not (buffers regs place)) (not (fills regs place))))

  -- "Status, in order: alignment 1; walk outside memory 12 (level 1), 14 (level 2); translation 5, 7; domain 9, 11; permission 13, 15;
  -- outside memory on line fill 4, 6, otherwise 8, 10."
  unfoldable pub rows : List (Row Faulting)
  rows =
      row (alignment_faults regs a) Alignment 0
      ∷ row (walked && is_outside one) WalkFirst 0
      ∷ row (walked && (has_bits 1 one && is_outside two)) WalkSecond (domain_of (word_in one))
      ∷ row (walked && (has_bits 0 one || has_bits 3 one)) TranslationSection 0
      ∷ row (walked && (has_bits 1 one && (has_bits 0 two || has_bits 3 two))) TranslationPage (domain_of (word_in one))
      ∷ row (mmu regs && (eqb right 1 && eqb (entry_of mapping).size 0)) DomainSection (entry_of mapping).domain
      ∷ row (mmu regs && (eqb right 1 && not (eqb (entry_of mapping).size 0))) DomainPage (entry_of mapping).domain
      ∷ row (mmu regs && (eqb right 2 && eqb (entry_of mapping).size 0)) PermissionSection (entry_of mapping).domain
      ∷ row (mmu regs && (eqb right 2 && not (eqb (entry_of mapping).size 0))) PermissionPage (entry_of mapping).domain
      ∷ row (on_fill && not place.page) FillSection place.domain
      ∷ row (on_fill && place.page) FillPage place.domain
      ∷ row (other && not place.page) OtherSection place.domain
      ∷ row (other && place.page) OtherPage place.domain
      ∷ []

-- ---- the statement

-- an access's fault by the table
abbrev pub table_fault : Machine → Call → Faulting
table_fault m (calls.Access a) = first_met passes (rows m a)
table_fault m (Read t) = passes
table_fault m (Write t v) = passes

pub record Term2 : Type 0 where
  -- "faults exactly when the tables say, with that status, domain and address"
  pub faults_by_table : (m : Machine) (c : Call) → refusal m c ≡ 0 → fault_in (served m c).answer ≡ table_fault m c
  -- and what a fault leaves, of the code
  pub fault_leaves : FaultLeaves
