-- What leaves and enters the write buffer keeps it sound, and memory a list of so many bytes.
use Rattle.std.specs.Prelude.{Option, Some, None}
use Prim.Native.Nat.{ℕ, zero, suc, ◌+◌, ◌*◌, ◌%◌, ◌^◌, ◌<◌, ◌≤◌}
use native.Mathlib.Omega.{arith}
use native.Mathlib.Nat.{zero-div}
use mathlib.Core.Bool.{false}
use mathlib.Core.Logic.{◌≢◌}
use mathlib.Core.Path.{◌≡◌, refl, sym, ◌∙◌, ap}
use mathlib.Core.List.{List}
use lib.Bits.{bit_or, or_lt, or_add_and, and_le_r}
use lib.Dec.{eqb, ltb}
use lib.ListN.{length, get_or, get_or-replicate, replicate, get_or-eq_default}
use lib.Pow.{pow_mono, shl_lt, ones_lt}
use lib.Seq.{get_or-set_same, get_or-set_other, ext_get_or}
use borrow.Author.Tests.{eqb-true, eqb-false, ltb-true, ltb-false}
use Rattle.values.specs.Addresses.{block_of}
use Rattle.values.specs.Empty.{empty_slot}
use Rattle.values.specs.Bits.{bit}
use Rattle.values.specs.declared.PhysicalAddress.{PhysicalAddress}
use Rattle.values.specs.declared.Slot.{Slot}
use Rattle.values.proofs.Cases.{case, clash, or_none}
use Rattle.words.specs.Words.{stored, Bytes}
use Rattle.words.proofs.Laws.{length_stored, byte_before, byte_behind}
use Rattle.buffer.specs.Buffer.{good_mask, Backing, with_memory, slot_at, oldest_left, leaving, drained, behind, pushed, half_pushed}
use Rattle.buffer.specs.Buffer.{newest_of, mask_of, joined, new_slot, stored_at, buffered, holds, ready}
use Rattle.buffer.proofs.Joining.{newest_below}
use Rattle.buffer.proofs.Lengths.{memory_oldest, memory_behind, slot_oldest, used_oldest, slot_behind, slot_other, used_behind}
use Rattle.buffer.proofs.Lengths.{BufferShape, shape_oldest, shape_behind, shape_stored}
use Rattle.buffer.proofs.StoredBelow.{or_bit, ones_in, mask_in}
use Rattle.soundness_laws.proofs.LowBytes.{bytes_zeros, bytes_stored, bytes_laid}
use Rattle.soundness_laws.proofs.Elements.{same_at}
use Rattle.soundness_laws.proofs.BufferParts.{SlotIs, SlotClear, BufferIs}

-- a sound entry of bytes
pub record Holds (n : ℕ) (s : Slot) : Type 0 where
  pub sound : SlotIs n s
  pub bytes : Bytes s.bytes

-- eight places, of which the first `used` hold entries and the others are empty, before a memory of n bytes
pub record BackingIs (n : ℕ) (b : Backing) : Type 0 where
  pub memory_long : length b.memory ≡ n
  pub memory_bytes : Bytes b.memory
  pub shape : BufferShape b.buffer
  pub entries : (i : ℕ) → i < b.buffer.used → Holds n (slot_at b.buffer i)
  pub empties : (i : ℕ) → b.buffer.used ≤ i → slot_at b.buffer i ≡ empty_slot

-- ---- leaving

-- every place has bytes
pub place_bytes : (n : ℕ) (b : Backing) → BackingIs n b → (i : ℕ) → Bytes (slot_at b.buffer i).bytes
place_bytes n b k i =
    case (ltb i b.buffer.used)
    (λ t. (k.entries i (ltb-true i b.buffer.used t)).bytes)
    (λ t. rw (k.empties i (ltb-false i b.buffer.used t)) (bytes_zeros 16))

oldest_bytes : (n : ℕ) (b : Backing) → BackingIs n b → Bytes (oldest_left b).memory
unfolding oldest_left
oldest_bytes n b k =
    let s = slot_at b.buffer 0 in
    bytes_laid s.bytes b.memory (s.block * 16) (good_mask b.bad s.block s.mask) k.memory_bytes (place_bytes n b k 0)

pub oldest_kept : (n : ℕ) (b : Backing) → BackingIs n b → BackingIs n (oldest_left b)
oldest_kept n b k =
    let u = used_oldest b in
    record {
      memory_long = memory_oldest b ∙ k.memory_long;
      memory_bytes = oldest_bytes n b k;
      shape = shape_oldest b k.shape;
      entries = λ i h. rw (slot_oldest b i) (k.entries (suc i) (omega arith));
      empties = λ i h. slot_oldest b i ∙ k.empties (suc i) (omega arith);
    }

pub leaving_kept : (n c : ℕ) (b : Backing) → BackingIs n b → BackingIs n (leaving c b)
unfolding leaving
leaving_kept n zero b k = k
leaving_kept n (suc c) b k = leaving_kept n c (oldest_left b) (oldest_kept n b k)

pub drained_kept : (n : ℕ) (b : Backing) → BackingIs n b → BackingIs n (drained b)
unfolding drained
drained_kept n b k = leaving_kept n b.buffer.used b k

pub ready_kept : (n : ℕ) (b : Backing) (a c : ℕ) → BackingIs n b → BackingIs n (ready b a c)
unfolding ready
ready_kept n b a c k = case (holds b.buffer a c) (λ t. rw t (drained_kept n b k)) (λ t. rw t k)

-- ---- entering

pub behind_kept : (n : ℕ) (b : Backing) (s : Slot) → BackingIs n b → b.buffer.used < 8 → Holds n s → length s.bytes ≡ 16 → BackingIs n (behind b s)
behind_kept n b s k low h long =
    let u = b.buffer.used in
    let v = used_behind b s in
    record {
      memory_long = ap length (memory_behind b s) ∙ k.memory_long;
      memory_bytes = rw (memory_behind b s) k.memory_bytes;
      shape = shape_behind b s low long k.shape;
      entries = λ i g.
          case (eqb i u)
          (λ t. let e : i ≡ u = eqb-true i u t in rw (e, slot_behind b s (omega (arith, k.shape.places))) h)
          (λ t. let e = eqb-false i u t in rw (slot_other b s i e) (k.entries i (below i (rw v at g) e)));
      empties = λ i g. let g' : u + 1 ≤ i = rw v at g in slot_other b s i (over i g') ∙ k.empties i (omega arith);
    }
  where
    below : (i : ℕ) → i < b.buffer.used + 1 → (i ≡ b.buffer.used → ⊥) → i < b.buffer.used
    below i g e = omega arith

    over : (i : ℕ) → b.buffer.used + 1 ≤ i → i ≡ b.buffer.used → ⊥
    over i g e = omega arith

pub pushed_kept : (n : ℕ) (b : Backing) (s : Slot) → BackingIs n b → Holds n s → length s.bytes ≡ 16 → BackingIs n (pushed b s)
unfolding pushed
pushed_kept n b s k h long =
    let u = used_oldest b in
    let l = k.shape.low in
    case (ltb b.buffer.used 8)
    (λ t. rw t (behind_kept n b s k (ltb-true b.buffer.used 8 t) h long))
    (λ t. rw t (behind_kept n (oldest_left b) s (oldest_kept n b k) (omega arith) h long))

-- a half
pub half_kept : (n : ℕ) (b : Backing) (block : ℕ) (bytes : List ℕ) → BackingIs n b → block * 16 + 16 ≤ n → length bytes ≡ 16 → Bytes bytes
    → BackingIs n (half_pushed b block bytes)
unfolding half_pushed
half_kept n b block bytes k h e f =
    pushed_kept n b (record { block = block; mask = 0xFFFF; bytes = bytes }) k
    (record {
      sound = record { inside = h; masked = λ q. absurd (omega arith); low = omega arith; outside = λ j q. whole j q };
      bytes = f;
    })
    e
  where
    -- no byte of sixteen lies outside a mask of sixteen ones
    whole : (j : ℕ) → bit 0xFFFF j ≡ false → get_or bytes j 0 ≡ 0
    whole j q =
        case (ltb j 16)
        (λ t. clash (ones_in 16 j (ltb-true j 16 t)) q)
        (λ t. get_or-eq_default bytes 0 (let g = ltb-false j 16 t in omega arith))

-- ---- a store

-- the mask of an access has 16 bits, and is not 0
mask_short : (w o : ℕ) → o + w ≤ 16 → mask_of w o < 0x10000
mask_short w o h =
    let a : mask_of w o < 2 ^ (w + o) = shl_lt w o (ones_lt w) in
    let e : w + o ≤ 16 = omega arith in
    let b : 2 ^ (w + o) ≤ 2 ^ 16 = pow_mono {i = w + o} {j = 16} e in
    omega arith

mask_some : (w o : ℕ) → 0 < w → mask_of w o ≢ 0
mask_some w o h e =
    clash (mask_in w o o (omega arith) (omega arith)) (ap (λ (x : ℕ). bit x o) e ∙ rw (zero-div (2 ^ o)))

-- a byte that an access's mask leaves out
left_out : (w o j : ℕ) (bytes : List ℕ) (v : ℕ) → bit (mask_of w o) j ≡ false → get_or (stored w bytes o v) j 0 ≡ get_or bytes j 0
left_out w o j bytes v e =
    case (ltb j o)
    (λ t. byte_before w bytes o v j (ltb-true j o t))
    (λ t.
    case (ltb j (o + w))
    (λ u. clash (mask_in w o j (ltb-false j o t) (ltb-true j (o + w) u)) e)
    (λ u. byte_behind w bytes o v j (ltb-false j (o + w) u)))

pub joined_holds : (n : ℕ) (s : Slot) (w o v : ℕ) → Holds n s → o + w ≤ 16 → Holds n (joined s w o v)
unfolding joined
joined_holds n s w o v h k =
    record {
      sound = record {
        inside = h.sound.inside;
        masked = λ e. h.sound.masked (or_zero s.mask (mask_of w o) e);
        low = or_lt 16 s.mask (mask_of w o) h.sound.low (mask_short w o k);
        outside = λ j e.
            let q = or_none (bit s.mask j) (bit (mask_of w o) j) (sym (or_bit s.mask (mask_of w o) j) ∙ e) in
            left_out w o j s.bytes v q.1 ∙ h.sound.outside j q.0;
      };
      bytes = bytes_stored w s.bytes o v h.bytes;
    }
  where
    or_zero : (a b : ℕ) → bit_or a b ≡ 0 → a ≡ 0
    or_zero a b e = let q = or_add_and a b in let l = and_le_r a b in omega arith

pub new_holds : (n block w o v : ℕ) → block * 16 + 16 ≤ n → 0 < w → o + w ≤ 16 → Holds n (new_slot block w o v)
new_holds n block w o v h p k =
    record {
      sound = record {
        inside = h;
        masked = mask_some w o p;
        low = mask_short w o k;
        outside = λ j e. left_out w o j (replicate 16 0) v e ∙ same_at {A = ℕ} 16 0 j;
      };
      bytes = bytes_stored w (replicate 16 0) o v (bytes_zeros 16);
    }

pub buffered_kept : (n : ℕ) (b : Backing) (pa : PhysicalAddress) (w v : ℕ) → BackingIs n b → 0 < w → pa.0 % 16 + w ≤ 16 → block_of pa * 16 + 16 ≤ n
    → BackingIs n (buffered b pa w v)
unfolding buffered
buffered_kept n b pa w v k p h i = by (newest_of b.buffer.slots (block_of pa) b.buffer.used) refl
  where
    by : (x : Option ℕ) → newest_of b.buffer.slots (block_of pa) b.buffer.used ≡ x → BackingIs n (stored_at b (block_of pa) w (pa.0 % 16) v x)
    by None e =
        let o = pa.0 % 16 in
        pushed_kept n b (new_slot (block_of pa) w o v) k (new_holds n (block_of pa) w o v i p h) (length_stored w (replicate 16 0) o v)
    by (Some j) e =
        let l = b.buffer.slots in
        let u = b.buffer.used in
        let s = joined (slot_at b.buffer j) w (pa.0 % 16) v in
        let low = newest_below l (block_of pa) u j e in
        let new : Holds n s = joined_holds n (slot_at b.buffer j) w (pa.0 % 16) v (k.entries j low) h in
        record {
          memory_long = k.memory_long;
          memory_bytes = k.memory_bytes;
          shape = shape_stored b (block_of pa) w (pa.0 % 16) v (Some j) k.shape;
          entries = λ x g.
              case (eqb x j)
              (λ t. let q : x ≡ j = eqb-true x j t in rw (q, get_or-set_same l j s empty_slot (omega (arith, k.shape.places, k.shape.low))) new)
              (λ t. rw (get_or-set_other l j x s empty_slot (eqb-false x j t)) (k.entries x g));
          empties = λ x g. get_or-set_other l j x s empty_slot (λ q. absurd (omega arith)) ∙ k.empties x g;
        }

-- memory stored to
pub stored_kept : (n : ℕ) (b : Backing) (w a v : ℕ) → BackingIs n b → BackingIs n (with_memory b (stored w b.memory a v))
stored_kept n b w a v k =
    record {
      memory_long = length_stored w b.memory a v ∙ k.memory_long;
      memory_bytes = bytes_stored w b.memory a v k.memory_bytes;
      shape = k.shape;
      entries = k.entries;
      empties = k.empties;
    }

-- ---- to and from the buffer's soundness

-- an empty place of sixteen bytes
clear_empty : (s : Slot) → SlotClear s → length s.bytes ≡ 16 → s ≡ empty_slot
clear_empty s c h =
    let z : s.bytes ≡ replicate 16 0 = ext_get_or 0 s.bytes (replicate 16 0) h (λ i g. c.bytes i ∙ sym (get_or-replicate 16 i 0 0 (omega arith))) in
    rw (c.block, c.mask, z)

pub backing_of_lem : (n : ℕ) (b : Backing) → length b.memory ≡ n → Bytes b.memory → BufferShape b.buffer
    → ((i : ℕ) → Bytes (slot_at b.buffer i).bytes) → BufferIs n b.buffer → BackingIs n b
backing_of_lem n b m f sh sb k =
    record {
      memory_long = m;
      memory_bytes = f;
      shape = sh;
      entries = λ i h. record { sound = k.entries i h (omega (arith, sh.places, k.used)); bytes = sb i };
      empties = λ i h. clear_empty (slot_at b.buffer i) (k.empties i h) (sh.sixteen i);
    }

pub backing_sound : (n : ℕ) (b : Backing) → BackingIs n b → BufferIs n b.buffer
backing_sound n b k =
    record {
      used = k.shape.low;
      entries = λ i h g. (k.entries i h).sound;
      empties = λ i h. rw (k.empties i h) (record { block = refl; mask = refl; bytes = same_at {A = ℕ} 16 0 });
    }
