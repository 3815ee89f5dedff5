-- What leaving and entering keep: memory's length, the eight places, at most eight entries, sixteen bytes in each place; and each place after them.
use Rattle.std.specs.Prelude.{Option, Some, None}
use Prim.Native.Nat.{ℕ, zero, suc, ◌+◌, ◌-◌, ◌*◌, ◌%◌, ◌<◌, ◌≤◌}
use native.Mathlib.Omega.{arith}
use mathlib.Core.Logic.{◌≢◌}
use mathlib.Core.Path.{◌≡◌, refl, sym, ◌∙◌, ap}
use mathlib.Core.List.{List, [], ◌∷◌, ◌++◌}
use lib.Dec.{eqb, ltb}
use lib.ListN.{length, length-append, length-set, get_or, set, drop, replicate}
use lib.Seq.{get_or-set_same, get_or-set_other, set_out}
use borrow.Author.Tests.{eqb-true, eqb-false, ltb-true, ltb-false}
use Rattle.values.specs.Empty.{empty_slot}
use Rattle.values.specs.Addresses.{block_of}
use Rattle.values.specs.declared.PhysicalAddress.{PhysicalAddress}
use Rattle.values.specs.declared.Slot.{Slot}
use Rattle.values.proofs.Cases.{case}
use Rattle.words.proofs.Laws.{length_stored}
use Rattle.buffer.specs.Buffer.{
  Buffer,
  Backing,
  slot_at,
  good_mask,
  oldest_left,
  leaving,
  drained,
  behind,
  pushed,
  half_pushed,
  newest_of,
  joined,
  new_slot,
  stored_at,
  buffered,
  holds,
  ready,
}
use Rattle.buffer.proofs.Laying.{length_laid}

-- ---- memory's length stays

-- the oldest entry leaves
pub memory_oldest : (b : Backing) → length (oldest_left b).memory ≡ length b.memory
unfolding oldest_left
memory_oldest b = let s = slot_at b.buffer 0 in length_laid s.bytes b.memory (s.block * 16) (good_mask b.bad s.block s.mask)

-- n entries leave
pub memory_leaving : (n : ℕ) (b : Backing) → length (leaving n b).memory ≡ length b.memory
unfolding leaving
memory_leaving zero b = refl
memory_leaving (suc n) b = memory_leaving n (oldest_left b) ∙ memory_oldest b

-- a drain
pub memory_drained : (b : Backing) → length (drained b).memory ≡ length b.memory
unfolding drained
memory_drained b = memory_leaving b.buffer.used b

-- a drain if a masked byte lies in what is read
pub memory_ready : (b : Backing) (a n : ℕ) → length (ready b a n).memory ≡ length b.memory
unfolding ready
memory_ready b a n = case (holds b.buffer a n) (λ t. rw t (memory_drained b)) (λ t. rw t)

-- a new entry changes no byte of memory
pub memory_behind : (b : Backing) (s : Slot) → (behind b s).memory ≡ b.memory
unfolding behind
memory_behind b s = refl

-- a new entry, for which the oldest may leave
pub memory_pushed : (b : Backing) (s : Slot) → length (pushed b s).memory ≡ length b.memory
unfolding pushed
memory_pushed b s =
    case (ltb b.buffer.used 8)
    (λ t. rw t (ap length (memory_behind b s)))
    (λ t. rw t (ap length (memory_behind (oldest_left b) s) ∙ memory_oldest b))

-- a half sent out
pub memory_half : (b : Backing) (block : ℕ) (bytes : List ℕ) → length (half_pushed b block bytes).memory ≡ length b.memory
unfolding half_pushed
memory_half b block bytes = memory_pushed b (record { block = block; mask = 0xFFFF; bytes = bytes })

-- a store that joins an entry, or takes a new one
pub memory_stored : (b : Backing) (block width offset v : ℕ) (x : Option ℕ) → length (stored_at b block width offset v x).memory ≡ length b.memory
memory_stored b block width offset v (Some i) = refl
memory_stored b block width offset v None = memory_pushed b (new_slot block width offset v)

-- a store that is buffered
pub memory_buffered : (b : Backing) (pa : PhysicalAddress) (width v : ℕ) → length (buffered b pa width v).memory ≡ length b.memory
unfolding buffered
memory_buffered b pa width v =
    memory_stored b (block_of pa) width (pa.0 % 16) v (newest_of b.buffer.slots (block_of pa) b.buffer.used)

-- ---- the map stays

pub bad_oldest : (b : Backing) → (oldest_left b).bad ≡ b.bad
unfolding oldest_left
bad_oldest b = refl

pub bad_leaving : (n : ℕ) (b : Backing) → (leaving n b).bad ≡ b.bad
unfolding leaving
bad_leaving zero b = refl
bad_leaving (suc n) b = bad_leaving n (oldest_left b) ∙ bad_oldest b

pub bad_drained : (b : Backing) → (drained b).bad ≡ b.bad
unfolding drained
bad_drained b = bad_leaving b.buffer.used b

pub bad_ready : (b : Backing) (a n : ℕ) → (ready b a n).bad ≡ b.bad
unfolding ready
bad_ready b a n = case (holds b.buffer a n) (λ t. rw t (bad_drained b)) (λ t. rw t)

pub bad_behind : (b : Backing) (s : Slot) → (behind b s).bad ≡ b.bad
unfolding behind
bad_behind b s = refl

pub bad_pushed : (b : Backing) (s : Slot) → (pushed b s).bad ≡ b.bad
unfolding pushed
bad_pushed b s =
    case (ltb b.buffer.used 8)
    (λ t. rw t (bad_behind b s))
    (λ t. rw t (bad_behind (oldest_left b) s ∙ bad_oldest b))

pub bad_half : (b : Backing) (block : ℕ) (bytes : List ℕ) → (half_pushed b block bytes).bad ≡ b.bad
unfolding half_pushed
bad_half b block bytes = bad_pushed b (record { block = block; mask = 0xFFFF; bytes = bytes })

bad_stored : (b : Backing) (block width offset v : ℕ) (x : Option ℕ) → (stored_at b block width offset v x).bad ≡ b.bad
bad_stored b block width offset v (Some i) = refl
bad_stored b block width offset v None = bad_pushed b (new_slot block width offset v)

pub bad_buffered : (b : Backing) (pa : PhysicalAddress) (width v : ℕ) → (buffered b pa width v).bad ≡ b.bad
unfolding buffered
bad_buffered b pa width v =
    bad_stored b (block_of pa) width (pa.0 % 16) v (newest_of b.buffer.slots (block_of pa) b.buffer.used)

-- ---- each place, and the number of entries

-- the oldest leaves: each place gets the next one's entry
pub slot_oldest : (b : Backing) (i : ℕ) → slot_at (oldest_left b).buffer i ≡ slot_at b.buffer (suc i)
unfolding oldest_left
slot_oldest b i = next b.buffer.slots i
  where
    last : (l : List Slot) (k : ℕ) → get_or (l ++ (empty_slot ∷ [])) k empty_slot ≡ get_or l k empty_slot
    last [] zero = refl
    last [] (suc k) = refl
    last (s ∷ ss) zero = refl
    last (s ∷ ss) (suc k) = last ss k

    next : (l : List Slot) (k : ℕ) → get_or (drop 1 l ++ (empty_slot ∷ [])) k empty_slot ≡ get_or l (suc k) empty_slot
    next [] k = last [] k
    next (s ∷ ss) k = last ss k

-- there is one entry less
pub used_oldest : (b : Backing) → (oldest_left b).buffer.used ≡ b.buffer.used - 1
unfolding oldest_left
used_oldest b = refl

-- each place gets the entry n places behind it
pub slot_leaving : (n : ℕ) (b : Backing) (i : ℕ) → slot_at (leaving n b).buffer i ≡ slot_at b.buffer (n + i)
unfolding leaving
slot_leaving zero b i = let e : 0 + i ≡ i = omega arith in ap (slot_at b.buffer) (sym e)
slot_leaving (suc n) b i =
    let e : suc (n + i) ≡ suc n + i = omega arith in
    slot_leaving n (oldest_left b) i ∙ slot_oldest b (n + i) ∙ ap (slot_at b.buffer) e

-- there are n entries less
pub used_leaving : (n : ℕ) (b : Backing) → (leaving n b).buffer.used ≡ b.buffer.used - n
unfolding leaving
used_leaving zero b = omega arith
used_leaving (suc n) b = let e = used_leaving n (oldest_left b) in let u = used_oldest b in omega arith

-- each place gets what stood behind the entries
pub slot_drained : (b : Backing) (i : ℕ) → slot_at (drained b).buffer i ≡ slot_at b.buffer (b.buffer.used + i)
unfolding drained
slot_drained b i = slot_leaving b.buffer.used b i

-- a drain leaves no entry
pub used_drained : (b : Backing) → (drained b).buffer.used ≡ 0
unfolding drained
used_drained b = let e = used_leaving b.buffer.used b in omega arith

-- a new entry takes the first free place
pub slot_behind : (b : Backing) (s : Slot) → b.buffer.used < length b.buffer.slots → slot_at (behind b s).buffer b.buffer.used ≡ s
unfolding behind
slot_behind b s h = get_or-set_same b.buffer.slots b.buffer.used s empty_slot h

-- every other place stays
pub slot_other : (b : Backing) (s : Slot) (i : ℕ) → i ≢ b.buffer.used → slot_at (behind b s).buffer i ≡ slot_at b.buffer i
unfolding behind
slot_other b s i h = get_or-set_other b.buffer.slots b.buffer.used i s empty_slot h

-- there is one entry more
pub used_behind : (b : Backing) (s : Slot) → (behind b s).buffer.used ≡ b.buffer.used + 1
unfolding behind
used_behind b s = refl

-- ---- eight places, no more entries, sixteen bytes in each place

pub record BufferShape (b : Buffer) : Type 0 where
  pub places : length b.slots ≡ 8
  pub low : b.used ≤ 8
  pub sixteen : (i : ℕ) → length (slot_at b i).bytes ≡ 16

-- one place replaced by another with sixteen bytes
sixteen_set : (l : List Slot) (i : ℕ) (s : Slot) → ((j : ℕ) → length (get_or l j empty_slot).bytes ≡ 16) → length s.bytes ≡ 16
    → (j : ℕ) → length (get_or (set l i s) j empty_slot).bytes ≡ 16
sixteen_set l i s f e j =
    case (eqb j i)
    (λ t.
    let q : j ≡ i = eqb-true j i t in
    case (ltb i (length l))
    (λ u. rw q (ap (λ (x : Slot). length x.bytes) (get_or-set_same l i s empty_slot (ltb-true i (length l) u)) ∙ e))
    (λ u. ap (λ (r : List Slot). length (get_or r j empty_slot).bytes) (set_out l i s (ltb-false i (length l) u)) ∙ f j))
    (λ t. ap (λ (x : Slot). length x.bytes) (get_or-set_other l i j s empty_slot (eqb-false j i t)) ∙ f j)

places_oldest : (b : Backing) → length b.buffer.slots ≡ 8 → length (oldest_left b).buffer.slots ≡ 8
unfolding oldest_left
places_oldest b h = closed b.buffer.slots h
  where
    closed : (l : List Slot) → length l ≡ 8 → length (drop 1 l ++ (empty_slot ∷ [])) ≡ 8
    closed [] e = absurd (omega arith)
    closed (s ∷ ss) e = let n = length-append ss (empty_slot ∷ []) in omega arith

-- the oldest entry leaves
pub shape_oldest : (b : Backing) → BufferShape b.buffer → BufferShape (oldest_left b).buffer
shape_oldest b h =
    let u = used_oldest b in
    record {
      places = places_oldest b h.places;
      low = omega (arith, h.low);
      sixteen = λ i. ap (λ (x : Slot). length x.bytes) (slot_oldest b i) ∙ h.sixteen (suc i);
    }

-- n entries leave
pub shape_leaving : (n : ℕ) (b : Backing) → BufferShape b.buffer → BufferShape (leaving n b).buffer
unfolding leaving
shape_leaving zero b h = h
shape_leaving (suc n) b h = shape_leaving n (oldest_left b) (shape_oldest b h)

-- a drain
pub shape_drained : (b : Backing) → BufferShape b.buffer → BufferShape (drained b).buffer
unfolding drained
shape_drained b h = shape_leaving b.buffer.used b h

-- a drain if a masked byte lies in what is read
pub shape_ready : (b : Backing) (a n : ℕ) → BufferShape b.buffer → BufferShape (ready b a n).buffer
unfolding ready
shape_ready b a n h = case (holds b.buffer a n) (λ t. rw t (shape_drained b h)) (λ t. rw t h)

-- a new entry in the first free place
pub shape_behind : (b : Backing) (s : Slot) → b.buffer.used < 8 → length s.bytes ≡ 16 → BufferShape b.buffer → BufferShape (behind b s).buffer
unfolding behind
shape_behind b s k e h =
    record {
      places = length-set b.buffer.slots b.buffer.used s ∙ h.places;
      low = omega arith;
      sixteen = sixteen_set b.buffer.slots b.buffer.used s h.sixteen e;
    }

-- a new entry, for which the oldest may leave
pub shape_pushed : (b : Backing) (s : Slot) → length s.bytes ≡ 16 → BufferShape b.buffer → BufferShape (pushed b s).buffer
unfolding pushed
shape_pushed b s e h =
    case (ltb b.buffer.used 8)
    (λ t. rw t (shape_behind b s (ltb-true b.buffer.used 8 t) e h))
    (λ t.
    let u = used_oldest b in
    let k = h.low in
    rw t (shape_behind (oldest_left b) s (omega arith) e (shape_oldest b h)))

-- a half sent out
pub shape_half : (b : Backing) (block : ℕ) (bytes : List ℕ) → length bytes ≡ 16 → BufferShape b.buffer → BufferShape (half_pushed b block bytes).buffer
unfolding half_pushed
shape_half b block bytes e h = shape_pushed b (record { block = block; mask = 0xFFFF; bytes = bytes }) e h

-- a store that joins an entry, or takes a new one
pub shape_stored : (b : Backing) (block width offset v : ℕ) (x : Option ℕ) → BufferShape b.buffer → BufferShape (stored_at b block width offset v x).buffer
unfolding joined
shape_stored b block width offset v (Some i) h =
    record {
      places = length-set b.buffer.slots i (joined (slot_at b.buffer i) width offset v) ∙ h.places;
      low = h.low;
      sixteen =
          sixteen_set b.buffer.slots i (joined (slot_at b.buffer i) width offset v) h.sixteen
          (length_stored width (slot_at b.buffer i).bytes offset v ∙ h.sixteen i);
    }
shape_stored b block width offset v None h =
    shape_pushed b (new_slot block width offset v) (length_stored width (replicate 16 0) offset v) h

-- a store that is buffered
pub shape_buffered : (b : Backing) (pa : PhysicalAddress) (width v : ℕ) → BufferShape b.buffer → BufferShape (buffered b pa width v).buffer
unfolding buffered
shape_buffered b pa width v h =
    shape_stored b (block_of pa) width (pa.0 % 16) v (newest_of b.buffer.slots (block_of pa) b.buffer.used) h
