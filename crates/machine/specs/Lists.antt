-- What the code holds of the library's machine: the lent lists, and the scalars beside them.
use Rattle.std.specs.Prelude.{ℕ, ◌≡◌, List, length}
use Rattle.tlb.specs.Packing.{entries_of}
use Rattle.cache.specs.Packing.{side_of}
use Rattle.machine.specs.Machine.{Machine, machine_from, Stepped, stepped_from}
use Rattle.machine.specs.declared.Scalars.{Scalars}
use Rattle.machine.specs.declared.Outcome.{Outcome}
use Rattle.machine.specs.declared.Lent.{Lent}

-- the lists that the data side of the machine is lent
pub record Lists : Type 0 where
  pub memory : List ℕ
  pub bad : List ℕ
  pub words : List ℕ
  pub bytes : List (List ℕ)
  pub lines : List ℕ
  pub pointers : List ℕ
  pub store : List ℕ

abbrev pub lists : List ℕ → List ℕ → List ℕ → List (List ℕ) → List ℕ → List ℕ → List ℕ → Lists
lists memory bad words bytes lines pointers store =
    record { memory = memory; bad = bad; words = words; bytes = bytes; lines = lines; pointers = pointers; store = store }

-- the machine that the lists, the TLB's words and the scalars stand for; `size` is the memory's length at the start
abbrev pub machine_of : Lists → List ℕ → Scalars → ℕ → Machine
machine_of l entries s size =
    machine_from s.cp15 (entries_of entries) (side_of l.memory l.bad l.words l.bytes s.used l.lines l.pointers l.store) s.counts size

abbrev pub stepped_of : Lists → List ℕ → ℕ → Outcome → Stepped
stepped_of l entries size o = stepped_from (machine_of l entries o.scalars size) o.answer

-- From the lists l and the scalars s the code has made the lists k and the scalars r: the machine that they stand for is what f makes of the other,
-- whatever the TLB holds.
pub record Turns (l : Lists) (s : Scalars) (k : Lists) (r : Scalars) (f : Machine → Machine) : Type 0 where
  pub same : (entries : List ℕ) (size : ℕ) → machine_of k entries r size ≡ f (machine_of l entries s size)
  pub bytes_long : length k.bytes ≡ 8

-- the same with an answer
pub record Leaves (l : Lists) (s : Scalars) (k : Lists) (o : Outcome) (f : Machine → Stepped) : Type 0 where
  pub same : (entries : List ℕ) (size : ℕ) → stepped_of k entries size o ≡ f (machine_of l entries s size)
  pub bytes_long : length k.bytes ≡ 8

-- the same of a function that is lent neither lines nor pointers nor cache store
abbrev pub LeavesBelow : (memory bad words : List ℕ) (bytes : List (List ℕ)) → Scalars → (memory' words' : List ℕ) (bytes' : List (List ℕ)) → Outcome
    → (Machine → Stepped) → Type 0
LeavesBelow memory bad words bytes s memory' words' bytes' o f =
    (lines pointers store : List ℕ)
    → Leaves (lists memory bad words bytes lines pointers store) s (lists memory' bad words' bytes' lines pointers store) o f

-- the lists behind a struct of references
abbrev pub lists_of : Lent → Lists
lists_of t = lists t.memory.now t.bad.now t.words.now t.bytes.now t.lines.now t.pointers.now t.store.now

-- the references are still those that came in, the map is as it was, and the other slices are as long as they were
pub record Kept (t u : Lent) : Type 0 where
  pub memory : u.memory.ghost_name ≡ t.memory.ghost_name
  pub bad : u.bad.now ≡ t.bad.now
  pub words : u.words.ghost_name ≡ t.words.ghost_name
  pub bytes : u.bytes.ghost_name ≡ t.bytes.ghost_name
  pub lines : u.lines.ghost_name ≡ t.lines.ghost_name
  pub pointers : u.pointers.ghost_name ≡ t.pointers.ghost_name
  pub store : u.store.ghost_name ≡ t.store.ghost_name
  pub memory_long : length u.memory.now ≡ length t.memory.now
  pub words_long : length u.words.now ≡ length t.words.now
  pub lines_long : length u.lines.now ≡ length t.lines.now
  pub pointers_long : length u.pointers.now ≡ length t.pointers.now
  pub store_long : length u.store.now ≡ length t.store.now
