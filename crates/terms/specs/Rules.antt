-- R2 to R6 and the end, at one call and over a list of calls. (R1 is the threading of the machine from call to call, in a run.)
use Rattle.std.specs.Prelude.{ℕ, ◌+◌, ◌*◌, ◌/◌, ◌<◌, Bool, true, false, not, ◌&&◌, ◌≡◌, List, [], ◌∷◌, eqb, Result, Ok, Err}
use Rattle.values.specs.Lists.{all}
use Rattle.values.specs.Addresses.{virtual_line, physical_line}
use Rattle.values.specs.Control.{mmu}
use Rattle.values.specs.declared.VirtualAddress.{VirtualAddress}
use Rattle.values.specs.declared.Access.{Access}
use Rattle.values.specs.declared.Transfer.{Transfer}
use Rattle.values.specs.declared.Call.{Call}
use Rattle.values.specs.declared.Call.TheVariants.{Read, Write}
use Rattle.values.specs.declared.Call.TheVariants as calls
use Rattle.words.specs.Words.{value_at}
use Rattle.bus.specs.Physical.{Physical, aborts}
use Rattle.walk.specs.Walk.{walk, first_address, second_address}
use Rattle.walk.specs.Reads.{words_read}
use Rattle.translation.specs.Alignment.{alignment_faults, cleared}
use Rattle.cp15.specs.Operations.{flushes_dcache, flushes_line}
use Rattle.plain.specs.Plain.{Plain, plain_physical, plain_reach, plain_refusal, plainly}
use Rattle.terms.specs.History.{Stage, never, stored, cleaned, drained, flushed, History, after}
use Rattle.values.specs.declared.Cause.{Cause}
use Rattle.values.specs.declared.Entry.{Entry}
use Rattle.translation.specs.declared.Place.{Place}

-- ---- stages as tests

-- stored to and not cleaned since
abbrev pub is_stored : Stage → Bool
is_stored never = false
is_stored stored = true
is_stored cleaned = false
is_stored drained = false
is_stored flushed = false

-- never stored to, or cleaned, drained and the TLB flushed since
abbrev pub is_flushed : Stage → Bool
is_flushed never = true
is_flushed stored = false
is_flushed cleaned = false
is_flushed drained = false
is_flushed flushed = true

-- never stored to, or cleaned and drained since
abbrev pub is_drained : Stage → Bool
is_drained never = true
is_drained stored = false
is_drained cleaned = false
is_drained drained = true
is_drained flushed = true

-- ---- R2

-- "each physical line is reached through one virtual line and each virtual line reaches one physical line"
abbrev pub R2 : History → VirtualAddress → Result Place Cause → Type 0
R2 h va (Err why) = Unit {0}
R2 h va (Ok l) =
    (v p : ℕ) → h.reached v p ≡ true
    → (v ≡ virtual_line va → p ≡ physical_line l.address) × (p ≡ physical_line l.address → v ≡ virtual_line va)

-- ---- R3

-- "before a Dcache flush each line it covers that was stored to since the last flush covering it has been cleaned after its last store"; a
-- line flush covers the lines whose last store went through its virtual line
abbrev pub R3 : History → Transfer → ℕ → Type 0
R3 h t v =
    (l : ℕ) → (flushes_dcache t ≡ true → is_stored (h.line_stage l) ≡ false)
    × (flushes_line t ≡ true → h.through l ≡ virtual_line (record { 0 = v }) → is_stored (h.line_stage l) ≡ false)

-- ---- R4, R5, R6

-- an access for which the plain machine walks: one that passes alignment with M set
abbrev pub walks : Plain → Access → Bool
walks p a = mmu p.registers && not (alignment_faults p.registers a)

-- "a word read by the plain walk of an access has, after its last store, had its line cleaned, then a drain, then a whole TLB flush"
abbrev pub R4 : Plain → History → VirtualAddress → Type 0
R4 p h va = all (λ (w : ℕ). is_flushed (h.word_stage w)) (words_read (plain_physical p) p.registers.base va) ≡ true

-- "after a table base write comes a whole TLB flush before the next translated access"
abbrev pub R5 : History → Type 0
R5 h = h.base_stale ≡ false

-- "at each access for which the plain walk finds a large page, the aligned group of sixteen words round that level 2 word lies in memory and
-- all are equal"; document 02, Five: "R6's sixteen words are good ones"
abbrev pub is_large : Result Entry Cause → Bool
is_large (Ok e) = eqb e.size 1
is_large (Err why) = false

-- the address of the level 2 word
abbrev pub level_two : List ℕ → ℕ → VirtualAddress → ℕ
level_two memory base va = (second_address (value_at 4 memory (first_address base va).0) va).0

-- the sixteen words of four bytes from the address g on answer, and are this word
abbrev pub Group : Physical → ℕ → ℕ → Type 0
Group m g word = (k : ℕ) → k < 16 → (aborts m (record { 0 = g + 4 * k }) ≡ false) × (value_at 4 m.bytes (g + 4 * k) ≡ word)

abbrev pub R6 : Plain → VirtualAddress → Type 0
R6 p va =
    is_large (walk (plain_physical p) p.registers.base va) ≡ true
    → Group (plain_physical p) (level_two p.memory p.registers.base va / 64 * 64)
    (value_at 4 p.memory (level_two p.memory p.registers.base va))

-- ---- a call

pub record AccessAllowed (p : Plain) (h : History) (a : Access) : Type 0 where
  pub r2 : R2 h (cleared a) (plain_reach p a)
  pub r4 : walks p a ≡ true → R4 p h (cleared a)
  pub r5 : walks p a ≡ true → R5 h
  pub r6 : walks p a ≡ true → R6 p (cleared a)

abbrev pub ServedAllowed : Plain → History → Call → Type 0
ServedAllowed p h (calls.Access a) = AccessAllowed p h a
ServedAllowed p h (Read t) = Unit {0}
ServedAllowed p h (Write t v) = R3 h t v

-- the rules ask nothing of a refused call
abbrev pub Allowed : Plain → History → Call → Type 0
Allowed p h c = plain_refusal p c ≡ 0 → ServedAllowed p h c

-- ---- a list of calls

unfoldable pub Keeps : Plain → History → List Call → Type 0
Keeps p h [] = Unit {0}
Keeps p h (c ∷ cs) = Allowed p h c × Keeps (plainly p c).plain (after p h c) cs

-- "after cleaning and draining": each line stored to has been cleaned after its last store, and the buffer drained after that
abbrev pub Settled : History → Type 0
Settled h = (l : ℕ) → is_drained (h.line_stage l) ≡ true
