-- What holds of the library's machine, the plain machine and the history at every moment of a run that keeps the rules.
use Rattle.std.specs.Prelude.{Ok}
use Prim.Native.Nat.{ℕ, ◌+◌, ◌*◌, ◌/◌, ◌%◌, ◌<◌}
use mathlib.Core.Bool.{Bool, true, false, cond, ◌||◌}
use mathlib.Core.Path.{◌≡◌}
use mathlib.Core.List.{List}
use lib.Dec.{ltb}
use lib.ListN.{length, get_or}
use Rattle.values.specs.Lists.{all}
use Rattle.values.specs.Empty.{empty_entry, empty_line}
use Rattle.values.specs.declared.VirtualAddress.{VirtualAddress}
use Rattle.values.specs.declared.Entry.{Entry}
use Rattle.values.specs.declared.Line.{Line}
use Rattle.bus.specs.Physical.{physical, is_bad}
use Rattle.walk.specs.Walk.{walk}
use Rattle.walk.specs.Reads.{words_read}
use Rattle.tlb.specs.Tlb.{covers}
use Rattle.buffer.specs.Buffer.{Backing, slot_at}
use Rattle.buffer.proofs.Below.{lands, below}
use Rattle.cache.specs.Dcache.{Dcache, Side}
use Rattle.soundness.specs.Soundness.{sound}
use Rattle.soundness_test.specs.Formed.{Formed}
use Rattle.plain.specs.Plain.{Plain}
use Rattle.terms.specs.History.{Stage, History}
use Rattle.terms.specs.Rules.{is_stored, is_flushed, is_drained}
use Rattle.machine.specs.Machine.{Machine, memory_of, bad_of}

-- ---- the write buffer and memory, with the plain machine's memory `pm`

-- byte x is the plain machine's in memory, and in every entry of which it goes to memory
pub record SettledAt (b : Backing) (pm : List ℕ) (x : ℕ) : Type 0 where
  pub in_memory : get_or b.memory x 0 ≡ get_or pm x 0
  pub in_entries : (j : ℕ) → lands b.bad (slot_at b.buffer j) x ≡ true → get_or (slot_at b.buffer j).bytes (x % 16) 0 ≡ get_or pm x 0

-- by the stage of each byte: below the cache it is the plain machine's unless stored to and not cleaned since; it is settled once drained
pub record Staged (b : Backing) (pm : List ℕ) (stage : ℕ → Stage) : Type 0 where
  pub cleaned_below : (x : ℕ) → is_stored (stage x) ≡ false → below b x ≡ get_or pm x 0
  pub drained_settled : (x : ℕ) → is_drained (stage x) ≡ true → SettledAt b pm x

-- the stage of a byte's word, and of its line
abbrev pub by_word : History → ℕ → Stage
by_word h x = h.word_stage (x / 4)

abbrev pub by_line : History → ℕ → Stage
by_line h x = h.line_stage (x / 32)

-- ---- the Dcache

-- the line at place i, the virtual line that it stands for, and its physical line
abbrev pub at : List Line → ℕ → Line
at lines i = get_or lines i empty_line

abbrev pub virtual_at : List Line → ℕ → ℕ
virtual_at lines i = (at lines i).tag * 16 + i / 32

-- the half in which a byte lies is dirty
abbrev pub dirty_at : Line → ℕ → Bool
dirty_at l x = cond (ltb (x % 32) 16) l.low l.high

-- no line holds byte x in a dirty half
abbrev pub Undirty : List Line → ℕ → Type 0
Undirty lines x = (i : ℕ) → (at lines i).valid ≡ true → (at lines i).frame ≡ x / 32 → dirty_at (at lines i) x ≡ false

-- "each physical line is reached through one virtual line and each virtual line reaches one physical line"
pub record OneToOne (reached : ℕ → ℕ → Bool) : Type 0 where
  pub physical : (v p q : ℕ) → reached v p ≡ true → reached v q ≡ true → p ≡ q
  pub virtual : (v w p : ℕ) → reached v p ≡ true → reached w p ≡ true → v ≡ w

pub record CacheAgrees (c : Dcache) (pm : List ℕ) (reached : ℕ → ℕ → Bool) (through : ℕ → ℕ) (stage : ℕ → Stage) : Type 0 where
  -- a valid line's bytes are the plain machine's
  pub held : (i k : ℕ) → (at c.lines i).valid ≡ true → k < 32 → get_or c.store (i * 32 + k) 0 ≡ get_or pm ((at c.lines i).frame * 32 + k) 0
  -- its virtual line has reached its physical line
  pub line_reached : (i : ℕ) → (at c.lines i).valid ≡ true → reached (virtual_at c.lines i) (at c.lines i).frame ≡ true
  -- a line with a dirty half has been stored to, through its own virtual line, and not cleaned since
  pub dirty_stored : (i : ℕ) → (at c.lines i).valid ≡ true → ((at c.lines i).low || (at c.lines i).high) ≡ true
      → is_stored (stage (at c.lines i).frame) ≡ true
  pub dirty_through : (i : ℕ) → (at c.lines i).valid ≡ true → ((at c.lines i).low || (at c.lines i).high) ≡ true
      → through (at c.lines i).frame ≡ virtual_at c.lines i
  pub one : OneToOne reached

-- ---- the Dcache, the write buffer and memory

pub record SideAgrees (s : Side) (pm : List ℕ) (h : History) : Type 0 where
  pub cache : CacheAgrees s.cache pm h.reached h.through h.line_stage
  -- no word of a valid line is bad
  pub good : (i x : ℕ) → (at s.cache.lines i).valid ≡ true → x / 32 ≡ (at s.cache.lines i).frame → is_bad s.backing.bad (x / 4) ≡ false
  -- a byte that no line holds in a dirty half is the plain machine's below the cache
  pub under : (x : ℕ) → Undirty s.cache.lines x → below s.backing x ≡ get_or pm x 0
  pub words : Staged s.backing pm (by_word h)
  pub lines : Staged s.backing pm (by_line h)

-- ---- the TLB

-- every word that the plain walk of an address reads has, since its last store, been cleaned, drained, and the TLB flushed
abbrev pub Readable : List ℕ → List ℕ → ℕ → History → VirtualAddress → Type 0
Readable pm bad base h va = all (λ (w : ℕ). is_flushed (h.word_stage w)) (words_read (physical pm bad) base va) ≡ true

-- an entry that covers an address is what the plain walk finds for it
pub record TlbAgrees (entries : List Entry) (base : ℕ) (pm bad : List ℕ) (h : History) : Type 0 where
  pub mapped : h.base_stale ≡ false → (i : ℕ) (va : VirtualAddress) → covers va (get_or entries i empty_entry) ≡ true → Readable pm bad base h va
      → walk (physical pm bad) base va ≡ Ok (get_or entries i empty_entry)

-- ---- the machines

pub record Agrees (m : Machine) (p : Plain) (h : History) : Type 0 where
  pub registers : m.cp15.registers ≡ p.registers
  pub calls : m.counts.calls ≡ p.calls
  pub formed : Formed m
  pub is_sound : sound m ≡ true
  pub size : m.size ≡ length (memory_of m)
  pub long : length (memory_of m) ≡ length p.memory
  pub same_map : bad_of m ≡ p.bad
  pub side : SideAgrees m.side p.memory h
  pub tlb : TlbAgrees m.entries p.registers.base p.memory p.bad h
