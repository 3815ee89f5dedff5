-- What a user holds and lends, by the words and bytes of the code: that two of them are the same, and a state of zeros.
use Rattle.std.specs.Prelude.{ℕ, ◌≡◌, List, length, replicate}
use Rattle.values.specs.declared.Cp15.{Cp15}
use Rattle.state.specs.declared.State.{State}
use Rattle.values.specs.Counts.{zero_counts}

-- the lengths of the write buffer's arrays, as their types in code say: a word and sixteen bytes for each of eight places
pub record EightPlaces (s : State) : Type 0 where
  pub words_long : length s.words ≡ 8
  pub slots_long : length s.slots ≡ 8

-- memory, cache store, and the state's words of the Dcache and the write buffer are the same
pub record SameSide (memory₁ store₁ : List ℕ) (s₁ : State) (memory store : List ℕ) (s : State) : Type 0 where
  pub same_memory : memory₁ ≡ memory
  pub same_store : store₁ ≡ store
  pub same_lines : s₁.lines ≡ s.lines
  pub same_pointers : s₁.pointers ≡ s.pointers
  pub same_words : s₁.words ≡ s.words
  pub same_slots : s₁.slots ≡ s.slots
  pub same_used : s₁.used ≡ s.used

-- every word of the state, every number of the record, and every lent byte is the same
pub record SameHeld (memory₁ store₁ : List ℕ) (s₁ : State) (r₁ : Cp15) (memory store : List ℕ) (s : State) (r : Cp15) : Type 0 where
  pub same_state : s₁ ≡ s
  pub same_cp15 : r₁ ≡ r
  pub same_memory : memory₁ ≡ memory
  pub same_store : store₁ ≡ store

-- a state of zeros but for the memory's length at the start
abbrev pub zero_state : ℕ → State
zero_state size =
    record {
      size = size;
      counts = zero_counts;
      used = 0;
      entries = replicate 32 0;
      lines = replicate 512 0;
      pointers = replicate 16 0;
      words = replicate 8 0;
      slots = replicate 8 (record { bytes = replicate 16 0 });
    }
