-- Words and TLB entries correspond one to one.
use Prim.Native.Nat.{ℕ, ◌*◌, ◌/◌, ◌%◌}
use native.Mathlib.Omega.{arith}
use native.Mathlib.Nat.{div-one}
use mathlib.Core.Path.{◌≡◌}
use mathlib.Core.List.{List}
use Rattle.values.proofs.Fields.{bit_number, field_and_above}
use Rattle.values.proofs.Inverses.{injective, map_injective}
use Rattle.tlb.specs.Packing.{entry_of, word_of, entries_of}

-- unpacked and packed, every word; the other way round, every entry in range, it is `entry_word` of Packing
pub word_entry : (w : ℕ) → word_of (entry_of w) ≡ w
unfolding entry_of word_of
word_entry w =
    rw (
      bit_number w 0,
      bit_number w 1,
      bit_number w 2,
      whole (w / 0x1000000 % 0x100000),
      whole (w / 0x100000000000),
      field_and_above w 0x1000000 0x100000,
      field_and_above w 0x10000 256,
      field_and_above w 256 256,
      field_and_above w 8 32,
      field_and_above w 4 2,
      field_and_above w 2 2,
      field_and_above w 1 2,
    ) (div-one w)
  where
    whole : (n : ℕ) → n * 0x1000 / 0x1000 ≡ n
    whole n = omega arith

-- no two words stand for one entry, no two lists of words for one list of entries
pub entry_injective : (w x : ℕ) → entry_of w ≡ entry_of x → w ≡ x
entry_injective = injective entry_of word_of word_entry

pub entries_injective : (ws xs : List ℕ) → entries_of ws ≡ entries_of xs → ws ≡ xs
entries_injective = map_injective entry_of word_of word_entry
