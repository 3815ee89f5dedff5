-- A machine tells what makes it, to the word: no two states, with record, memory and cache store, make one machine.
use Prim.Native.Nat.{ℕ}
use mathlib.Core.Path.{◌≡◌, refl, sym, ◌∙◌, ap}
use mathlib.Core.List.{List}
use lib.ListN.{length, length-map}
use Rattle.values.specs.declared.Cp15.{Cp15}
use Rattle.values.proofs.Inverses.{map_injective}
use Rattle.tlb.proofs.Words.{entries_injective}
use Rattle.buffer.proofs.Words.{slots_injective}
use Rattle.cache.proofs.Words.{lines_injective}
use Rattle.state.specs.State.{bytes_of, machine_in}
use Rattle.state.specs.Held.{EightPlaces, SameSide, SameHeld}
use Rattle.state.specs.declared.SlotBytes.{SlotBytes}
use Rattle.state.specs.declared.State.{State}
use Rattle.cache.specs.Dcache.{Side}
use Rattle.machine.specs.Machine.{Machine}

abbrev bytes : SlotBytes → List ℕ
bytes s = s.bytes

abbrev place : List ℕ → SlotBytes
place b = record { bytes = b }

-- the places by their bytes
pub bytes_injective : (xs ys : List SlotBytes) → bytes_of xs ≡ bytes_of ys → xs ≡ ys
bytes_injective = map_injective bytes place (λ s. refl)

as_many : (s : State) → EightPlaces s → length s.words ≡ length (bytes_of s.slots)
as_many s h = h.words_long ∙ sym (length-map s.slots bytes ∙ h.slots_long)

-- a state by its fields
state_is : (s t : State) → s.size ≡ t.size → s.counts ≡ t.counts → s.used ≡ t.used → s.entries ≡ t.entries → s.lines ≡ t.lines
    → s.pointers ≡ t.pointers → s.words ≡ t.words → s.slots ≡ t.slots → s ≡ t
state_is s t a b c d e f g h = rw (a, b, c, d, e, f, g, h)

-- what Dcache, write buffer and memory tell
pub side_same : (bad memory₁ store₁ : List ℕ) (s₁ : State) (r₁ : Cp15) (memory store : List ℕ) (s : State) (r : Cp15)
    → EightPlaces s₁ → EightPlaces s → (machine_in memory₁ bad store₁ s₁ r₁).side ≡ (machine_in memory bad store s r).side
    → SameSide memory₁ store₁ s₁ memory store s
side_same bad memory₁ store₁ s₁ r₁ memory store s r h k e =
    let slots = ap (λ (x : Side). x.backing.buffer.slots) e in
    let places = slots_injective s₁.words s.words (bytes_of s₁.slots) (bytes_of s.slots) (as_many s₁ h) (as_many s k) slots in
    record {
      same_memory = ap (λ (x : Side). x.backing.memory) e;
      same_store = ap (λ (x : Side). x.cache.store) e;
      same_lines = lines_injective s₁.lines s.lines (ap (λ (x : Side). x.cache.lines) e);
      same_pointers = ap (λ (x : Side). x.cache.pointers) e;
      same_words = places.0;
      same_slots = bytes_injective s₁.slots s.slots places.1;
      same_used = ap (λ (x : Side). x.backing.buffer.used) e;
    }

pub held_same : (bad memory₁ store₁ : List ℕ) (s₁ : State) (r₁ : Cp15) (memory store : List ℕ) (s : State) (r : Cp15)
    → EightPlaces s₁ → EightPlaces s → machine_in memory₁ bad store₁ s₁ r₁ ≡ machine_in memory bad store s r
    → SameHeld memory₁ store₁ s₁ r₁ memory store s r
held_same bad memory₁ store₁ s₁ r₁ memory store s r h k e =
    let side = side_same bad memory₁ store₁ s₁ r₁ memory store s r h k (ap (λ (m : Machine). m.side) e) in
    record {
      same_state = state_is s₁ s
          (ap (λ (m : Machine). m.size) e)
          (ap (λ (m : Machine). m.counts) e)
          side.same_used
          (entries_injective s₁.entries s.entries (ap (λ (m : Machine). m.entries) e))
          side.same_lines
          side.same_pointers
          side.same_words
          side.same_slots;
      same_cp15 = ap (λ (m : Machine). m.cp15) e;
      same_memory = side.same_memory;
      same_store = side.same_store;
    }
