-- A store that joins an entry, or takes a new one.
use Rattle.std.specs.Prelude.{Option, Some, None}
use Prim.Native.Nat.{ℕ, zero, suc, ◌+◌, ◌*◌, ◌/◌, ◌%◌, ◌<◌, ◌≤◌}
use native.Mathlib.Omega.{arith}
use mathlib.Core.Path.{◌≡◌, sym, ◌∙◌, ap}
use mathlib.Core.List.{List, []}
use lib.Bits.{bit_or, or_shr, or_mod, or_zero_r}
use lib.Dec.{eqb}
use lib.ListN.{length, length-set, get_or, set, replicate}
use lib.Seq.{get_or-set_same, get_or-set_other}
use borrow.Author.Tests.{eqb-true, eqb-false}
use Rattle.values.specs.Addresses.{block_of}
use Rattle.values.specs.Empty.{empty_slot}
use Rattle.values.specs.declared.PhysicalAddress.{PhysicalAddress}
use Rattle.values.specs.declared.Slot.{Slot}
use Rattle.values.proofs.Cases.{case}
use Rattle.words.specs.Words.{stored}
use Rattle.buffer.specs.Buffer.{Backing, newest_of, mask_of, joined, new_slot, stored_at, buffered, pushed, half_pushed}
use Rattle.buffer.specs.Packing.{slot_of, slots_of, backing_of}
use Rattle.buffer.specs.Ranges.{Fits, Left, Stores}
use Rattle.buffer.proofs.Slots.{slot_at, slots_set, word_block, word_mask_lem, any_default}
use Rattle.buffer.specs.Buffer.{backing_from}
use Rattle.buffer.specs.Buffer.{buffer_from}

-- the newest entry is one of those searched
pub newest_below : (slots : List Slot) (block n i : ℕ) → newest_of slots block n ≡ Some i → i < n
unfolding newest_of
newest_below slots block zero i e = let z : ◌≡◌ {A = ℕ} 0 1 = cc in absurd (omega arith)
newest_below slots block (suc n) i e =
    case (eqb (get_or slots n empty_slot).block block)
    (λ t. let f : Some n ≡ Some i = rw t at e in let q : n ≡ i = cc in omega arith)
    (λ t. let h = newest_below slots block n i (rw t at e) in omega arith)

-- a mask joined to a word
module _ (w k : ℕ) (h : k < 0x10000) where
  pub joined_block : bit_or w k / 0x100000000 ≡ w / 0x100000000
  joined_block =
      let z : k / 0x100000000 ≡ 0 = omega arith in
      or_shr w k 32 ∙ ap (λ (x : ℕ). bit_or (w / 0x100000000) x) z ∙ or_zero_r (w / 0x100000000)

  pub joined_mask : bit_or w k % 0x100000000 ≡ bit_or (w % 0x100000000) k
  joined_mask =
      let z : k % 0x100000000 ≡ k = omega arith in
      or_mod w k 32 ∙ ap (λ (x : ℕ). bit_or (w % 0x100000000) x) z

module _ (m bad ws : List ℕ) (bs : List (List ℕ)) (used : ℕ) (f : Fits m ws bs used) (pa : PhysicalAddress) (width v : ℕ) (st : Stores m pa width) where
  abbrev b : Backing
  b = backing_of m bad ws bs used

  abbrev found : Option ℕ
  found = newest_of (slots_of ws bs) (block_of pa) used

  by_search : (x : Option ℕ) → found ≡ x → stored_at b (block_of pa) width (pa.0 % 16) v x ≡ buffered b pa width v
  unfolding buffered
  by_search x e = ap (stored_at b (block_of pa) width (pa.0 % 16) v) (sym e)

  module _ (i : ℕ) (e : newest_of (slots_of ws bs) (block_of pa) used ≡ Some i) (k : ℕ) (ek : k ≡ mask_of width (pa.0 % 16)) (hk : k < 0x10000) where
    low : i < used
    low = newest_below (slots_of ws bs) (block_of pa) used i e

    in_words : i < length ws
    in_words = omega (arith, low, f.used_low, f.words_long)

    in_bytes : i < length bs
    in_bytes = omega (arith, low, f.used_low, f.bytes_long)

    abbrev new : List ℕ
    new = stored width (get_or bs i []) (pa.0 % 16) v

    slot_joined : slot_of (bit_or (get_or ws i 0) k) new ≡ joined (get_or (slots_of ws bs) i empty_slot) width (pa.0 % 16) v
    unfolding joined
    slot_joined =
        rw (
          slot_at ws bs i (f.words_long ∙ sym f.bytes_long),
          joined_block (get_or ws i 0) k hk,
          joined_mask (get_or ws i 0) k hk,
          ek,
          any_default bs i [] (replicate 16 0) in_bytes,
        )

    pub joined_left : Left m bad (set ws i (bit_or (get_or ws i 0) k)) (set bs i new) used (buffered b pa width v)
    joined_left =
        record {
          same =
              ap (λ (l : List Slot). (backing_from m bad (buffer_from l used)))
              (slots_set ws bs i (bit_or (get_or ws i 0) k) new ∙ ap (λ (s : Slot). set (slots_of ws bs) i s) slot_joined)
              ∙ by_search (Some i) e;
          fits = record {
            words_long = length-set ws i (bit_or (get_or ws i 0) k) ∙ f.words_long;
            bytes_long = length-set bs i new ∙ f.bytes_long;
            used_low = f.used_low;
            inside = λ j h.
                case (eqb j i)
                (λ t.
                let q : j ≡ i = eqb-true j i t in
                rw (q, get_or-set_same ws i (bit_or (get_or ws i 0) k) 0 in_words, joined_block (get_or ws i 0) k hk) (f.inside i low))
                (λ t. rw (get_or-set_other ws i j (bit_or (get_or ws i 0) k) 0 (eqb-false j i t)) (f.inside j h));
          };
        }

  -- no entry has the block: what a push leaves
  module _ (e : newest_of (slots_of ws bs) (block_of pa) used ≡ None) (k : ℕ) (ek : k ≡ mask_of width (pa.0 % 16)) (hk : k < 0x10000) where
    pub new_inside : (block_of pa * 0x100000000 + k) / 0x100000000 * 16 + 16 ≤ length m
    new_inside = rw (word_block (block_of pa) k (omega arith)) st.inside

    pub new_left : (m' ws' : List ℕ) (bs' : List (List ℕ)) (used' : ℕ) (x : List ℕ) → x ≡ stored width (replicate 16 0) (pa.0 % 16) v
        → Left m' bad ws' bs' used' (pushed b (slot_of (block_of pa * 0x100000000 + k) x)) → Left m' bad ws' bs' used' (buffered b pa width v)
    new_left m' ws' bs' used' x ex l =
        let s : slot_of (block_of pa * 0x100000000 + k) x ≡ new_slot (block_of pa) width (pa.0 % 16) v = rw (
          word_block (block_of pa) k (omega arith),
          word_mask_lem (block_of pa) k (omega arith),
          ek,
          ex,
        ) in
        record { same = l.same ∙ ap (pushed b) s ∙ by_search None e; fits = l.fits }

-- a half
pub half_left : (m bad ws : List ℕ) (bs : List (List ℕ)) (used block : ℕ) (x : List ℕ) (m' ws' : List ℕ) (bs' : List (List ℕ)) (used' : ℕ)
    → Left m' bad ws' bs' used' (pushed (backing_of m bad ws bs used) (slot_of (block * 0x100000000 + 0xFFFF) x))
    → Left m' bad ws' bs' used' (half_pushed (backing_of m bad ws bs used) block x)
unfolding half_pushed
half_left m bad ws bs used block x m' ws' bs' used' l =
    let s : slot_of (block * 0x100000000 + 0xFFFF) x ≡ record { block = block; mask = 0xFFFF; bytes = x } = rw (
      word_block block 0xFFFF (omega arith),
      word_mask_lem block 0xFFFF (omega arith),
    ) in
    record { same = l.same ∙ ap (pushed (backing_of m bad ws bs used)) s; fits = l.fits }
