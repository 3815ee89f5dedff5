-- Words with their bytes and write buffer entries correspond one to one.
use Prim.Native.Nat.{ℕ, ◌<◌}
use native.Mathlib.Omega.{arith}
use native.Mathlib.Nat.{div-add-mod'}
use mathlib.Core.Path.{◌≡◌, refl, sym, ◌∙◌, ap}
use mathlib.Core.List.{List, [], ◌∷◌, map}
use lib.ListN.{length}
use Rattle.values.specs.declared.Slot.{Slot}
use Rattle.buffer.specs.Packing.{slot_of, word_of, slots_of}
use Rattle.buffer.proofs.Slots.{word_block, word_mask_lem}

abbrev word : Slot → ℕ
word s = word_of s.block s.mask

abbrev bytes : Slot → List ℕ
bytes s = s.bytes

-- unpacked and packed, every word
pub word_slot : (w : ℕ) (b : List ℕ) → word_of (slot_of w b).block (slot_of w b).mask ≡ w
word_slot w b = div-add-mod' w 0x100000000

-- packed and unpacked, every entry with a mask of 32 bits
pub slot_word : (s : Slot) → s.mask < 0x100000000 → slot_of (word_of s.block s.mask) s.bytes ≡ s
slot_word s h = rw (word_block s.block s.mask h, word_mask_lem s.block s.mask h)

-- no two words, with their bytes, stand for one entry
pub slot_injective : (w x : ℕ) (b c : List ℕ) → slot_of w b ≡ slot_of x c → (w ≡ x) × (b ≡ c)
slot_injective w x b c e = (sym (word_slot w b) ∙ ap word e ∙ word_slot x c, ap bytes e)

-- the words and the bytes of a list of entries
slots_words : (ws : List ℕ) (bs : List (List ℕ)) → length ws ≡ length bs → map word (slots_of ws bs) ≡ ws
unfolding slots_of
slots_words [] bs h = refl
slots_words (w ∷ ws) [] h = absurd (omega arith)
slots_words (w ∷ ws) (b ∷ bs) h = rw (word_slot w b, slots_words ws bs (omega arith))

slots_bytes : (ws : List ℕ) (bs : List (List ℕ)) → length ws ≡ length bs → map bytes (slots_of ws bs) ≡ bs
unfolding slots_of
slots_bytes [] [] h = refl
slots_bytes [] (b ∷ bs) h = absurd (omega arith)
slots_bytes (w ∷ ws) [] h = absurd (omega arith)
slots_bytes (w ∷ ws) (b ∷ bs) h = rw (slots_bytes ws bs (omega arith))

-- no two lists of words, with as many rows of bytes, stand for one list of entries
pub slots_injective : (ws xs : List ℕ) (bs cs : List (List ℕ)) → length ws ≡ length bs → length xs ≡ length cs
    → slots_of ws bs ≡ slots_of xs cs → (ws ≡ xs) × (bs ≡ cs)
slots_injective ws xs bs cs h k e = (
  sym (slots_words ws bs h) ∙ ap (map word) e ∙ slots_words xs cs k,
  sym (slots_bytes ws bs h) ∙ ap (map bytes) e ∙ slots_bytes xs cs k,
)
