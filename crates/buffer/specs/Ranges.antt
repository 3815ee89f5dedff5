-- What the code asks of the buffer: eight places, no more entries, each inside memory.
use Rattle.std.specs.Prelude.{ℕ, ◌+◌, ◌*◌, ◌/◌, ◌%◌, ◌<◌, ◌≤◌, ◌≡◌, true, List, length, get_or}
use Rattle.values.specs.declared.PhysicalAddress.{PhysicalAddress}
use Rattle.words.specs.Words.{is_width}
use Rattle.buffer.specs.Buffer.{Backing}
use Rattle.buffer.specs.Packing.{backing_of}

pub record Fits (memory : List ℕ) (words : List ℕ) (bytes : List (List ℕ)) (used : ℕ) : Type 0 where
  pub words_long : length words ≡ 8
  pub bytes_long : length bytes ≡ 8
  pub used_low : used ≤ 8
  pub inside : (i : ℕ) → i < used → get_or words i 0 / 0x100000000 * 16 + 16 ≤ length memory

-- what the code leaves is this backing, and fits
pub record Left (memory bad words : List ℕ) (bytes : List (List ℕ)) (used : ℕ) (b : Backing) : Type 0 where
  pub same : backing_of memory bad words bytes used ≡ b
  pub fits : Fits memory words bytes used

-- a store of a width inside a block of memory
pub record Stores (memory : List ℕ) (pa : PhysicalAddress) (width : ℕ) : Type 0 where
  pub width_is : is_width width ≡ true
  pub in_block : pa.0 % 16 + width ≤ 16
  pub inside : pa.0 / 16 * 16 + 16 ≤ length memory
