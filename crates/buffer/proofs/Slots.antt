-- Entries and the words and bytes that stand for them.
use Prim.Native.Nat.{ℕ, zero, suc, ◌/◌, ◌%◌, ◌<◌}
use native.Mathlib.Omega.{arith}
use mathlib.Core.Path.{◌≡◌, refl, ap}
use mathlib.Core.List.{List, [], ◌∷◌, ◌++◌}
use lib.ListN.{length, get_or, set, drop, replicate}
use Rattle.values.specs.Empty.{empty_slot}
use Rattle.values.specs.declared.Slot.{Slot}
use Rattle.buffer.specs.Packing.{slot_of, word_of, slots_of}

-- an entry
pub slot_at : (ws : List ℕ) (bs : List (List ℕ)) (i : ℕ) → length ws ≡ length bs
    → get_or (slots_of ws bs) i empty_slot ≡ slot_of (get_or ws i 0) (get_or bs i (replicate 16 0))
unfolding slots_of
slot_at [] [] i h = refl
slot_at [] (b ∷ bs) i h = absurd (omega arith)
slot_at (w ∷ ws) [] i h = absurd (omega arith)
slot_at (w ∷ ws) (b ∷ bs) zero h = refl
slot_at (w ∷ ws) (b ∷ bs) (suc i) h = slot_at ws bs i (omega arith)

-- an entry replaced
pub slots_set : (ws : List ℕ) (bs : List (List ℕ)) (i w : ℕ) (b : List ℕ)
    → slots_of (set ws i w) (set bs i b) ≡ set (slots_of ws bs) i (slot_of w b)
unfolding slots_of
slots_set [] bs i w b = refl
slots_set (x ∷ ws) [] zero w b = refl
slots_set (x ∷ ws) [] (suc i) w b = refl
slots_set (x ∷ ws) (y ∷ bs) zero w b = refl
slots_set (x ∷ ws) (y ∷ bs) (suc i) w b = ap {B = List Slot} (λ r. slot_of x y ∷ r) (slots_set ws bs i w b)

pub length_slots : (ws : List ℕ) (bs : List (List ℕ)) → length ws ≡ length bs → length (slots_of ws bs) ≡ length ws
unfolding slots_of
length_slots [] bs h = refl
length_slots (w ∷ ws) [] h = absurd (omega arith)
length_slots (w ∷ ws) (b ∷ bs) h = ap suc (length_slots ws bs (omega arith))

pub slots_drop : (n : ℕ) (ws : List ℕ) (bs : List (List ℕ)) → slots_of (drop n ws) (drop n bs) ≡ drop n (slots_of ws bs)
unfolding slots_of
slots_drop zero ws bs = refl
slots_drop (suc n) [] bs = refl
slots_drop (suc n) (w ∷ ws) [] = empty (drop n ws)
  where
    empty : (xs : List ℕ) → slots_of xs [] ≡ []
    empty [] = refl
    empty (x ∷ xs) = refl
slots_drop (suc n) (w ∷ ws) (b ∷ bs) = slots_drop n ws bs

pub slots_append : (us ws : List ℕ) (bs ds : List (List ℕ)) → length us ≡ length bs
    → slots_of (us ++ ws) (bs ++ ds) ≡ slots_of us bs ++ slots_of ws ds
unfolding slots_of
slots_append [] ws [] ds h = refl
slots_append [] ws (b ∷ bs) ds h = absurd (omega arith)
slots_append (u ∷ us) ws [] ds h = absurd (omega arith)
slots_append (u ∷ us) ws (b ∷ bs) ds h = ap {B = List Slot} (λ r. slot_of u b ∷ r) (slots_append us ws bs ds (omega arith))

-- a word's parts
pub word_block : (block mask : ℕ) → mask < 0x100000000 → word_of block mask / 0x100000000 ≡ block
word_block block mask h = omega arith

pub word_mask_lem : (block mask : ℕ) → mask < 0x100000000 → word_of block mask % 0x100000000 ≡ mask
word_mask_lem block mask h = omega arith

-- an element inside a list does not depend on the default
pub any_default : {A : Type 0} (xs : List A) (i : ℕ) (d e : A) → i < length xs → get_or xs i d ≡ get_or xs i e
any_default [] i d e h = absurd (omega arith)
any_default (x ∷ xs) zero d e h = refl
any_default (x ∷ xs) (suc i) d e h = any_default xs i d e (omega arith)
