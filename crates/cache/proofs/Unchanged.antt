-- What each operation of the Dcache leaves as it was: memory's length, the numbers of lines, pointers and cache store bytes, the buffer's shape,
-- the pointers and the cache store.
use Rattle.std.specs.Prelude.{Option, Some, None}
use Prim.Native.Nat.{ℕ, ◌+◌, ◌*◌, ◌%◌, ◌<◌, ◌≤◌}
use native.Mathlib.Omega.{arith}
use mathlib.Core.Bool.{Bool, true, false}
use mathlib.Core.Path.{◌≡◌, refl, sym, ◌∙◌, subst}
use mathlib.Core.List.{List}
use lib.Dec.{ltb}
use lib.ListN.{length, length-set, length-drop, get_or, set, take, drop, get_or-eq_default}
use lib.Seq.{length-take-le, length-paste}
use borrow.Author.Tests.{ltb-true, ltb-false}
use Rattle.values.specs.Empty.{empty_line}
use Rattle.values.specs.Addresses.{set_of, tag_of, offset_of, physical_line}
use Rattle.values.specs.declared.VirtualAddress.{VirtualAddress}
use Rattle.values.specs.declared.PhysicalAddress.{PhysicalAddress}
use Rattle.values.specs.declared.Line.{Line}
use Rattle.values.proofs.Cases.{case}
use Rattle.words.proofs.Laws.{length_stored}
use Rattle.bus.specs.Physical.{line_aborts}
use Rattle.buffer.specs.Buffer.{Backing, physical_behind}
use Rattle.buffer.proofs.Lengths.{BufferShape, memory_half, memory_ready, bad_half, bad_ready, shape_half}
use Rattle.cache.specs.Dcache.{
  Dcache,
  Side,
  dcache_from,
  line_at,
  with_line,
  find,
  marked,
  hit_store,
  half_sent,
  halves_sent,
  victim,
  turned,
  copied,
  fresh_line,
  gave_way,
  line_read,
  filled,
  clean_line,
  cleaned_at,
  cleaned,
  flushed_at,
  line_flushed,
  all_flushed,
}

-- ---- memory's length stays

-- one half sent out, if it is dirty
pub memory_half_sent : (dirty : Bool) (b : Backing) (block : ℕ) (store : List ℕ) (a : ℕ)
    → length (half_sent dirty b block store a).memory ≡ length b.memory
memory_half_sent true b block store a = memory_half b block (take 16 (drop a store))
memory_half_sent false b block store a = refl

-- the dirty halves of a line sent out
pub memory_sent : (b : Backing) (l : Line) (store : List ℕ) (a : ℕ) → length (halves_sent b l store a).memory ≡ length b.memory
unfolding halves_sent
memory_sent b l store a =
    memory_half_sent l.high (half_sent l.low b (l.frame * 2) store a) (l.frame * 2 + 1) store (a + 16)
    ∙ memory_half_sent l.low b (l.frame * 2) store a

-- the line at the set's pointer gives way
pub memory_way : (s : Side) (va : VirtualAddress) (pa : PhysicalAddress)
    → length (gave_way s va pa).side.backing.memory ≡ length s.backing.memory
unfolding gave_way
memory_way s va pa =
    let i = victim s.cache va in
    let l = line_at s.cache i in
    memory_ready (halves_sent s.backing l s.cache.store (i * 32)) (physical_line pa * 32) 32
    ∙ memory_sent s.backing l s.cache.store (i * 32)

-- a clean of the line found
pub memory_cleaned_at : (s : Side) (x : Option ℕ) → length (cleaned_at s x).side.backing.memory ≡ length s.backing.memory
unfolding cleaned_at
memory_cleaned_at s None = refl
memory_cleaned_at s (Some i) = memory_sent s.backing (line_at s.cache i) s.cache.store (i * 32)

-- a clean of the line of an address
pub memory_cleaned : (s : Side) (va : VirtualAddress) → length (cleaned s va).side.backing.memory ≡ length s.backing.memory
unfolding cleaned
memory_cleaned s va = memory_cleaned_at s (find s.cache.lines va)

-- ---- the map stays

-- one half sent out, if it is dirty
pub bad_half_sent : (dirty : Bool) (b : Backing) (block : ℕ) (store : List ℕ) (a : ℕ) → (half_sent dirty b block store a).bad ≡ b.bad
bad_half_sent true b block store a = bad_half b block (take 16 (drop a store))
bad_half_sent false b block store a = refl

-- the dirty halves of a line sent out
pub bad_sent : (b : Backing) (l : Line) (store : List ℕ) (a : ℕ) → (halves_sent b l store a).bad ≡ b.bad
unfolding halves_sent
bad_sent b l store a =
    bad_half_sent l.high (half_sent l.low b (l.frame * 2) store a) (l.frame * 2 + 1) store (a + 16)
    ∙ bad_half_sent l.low b (l.frame * 2) store a

-- the line at the set's pointer gives way
pub bad_way : (s : Side) (va : VirtualAddress) (pa : PhysicalAddress) → (gave_way s va pa).side.backing.bad ≡ s.backing.bad
unfolding gave_way
bad_way s va pa =
    let i = victim s.cache va in
    let l = line_at s.cache i in
    bad_ready (halves_sent s.backing l s.cache.store (i * 32)) (physical_line pa * 32) 32
    ∙ bad_sent s.backing l s.cache.store (i * 32)

-- a fill
pub bad_filled : (s : Side) (va : VirtualAddress) (pa : PhysicalAddress) → (filled s va pa).side.backing.bad ≡ s.backing.bad
unfolding filled
bad_filled s va pa =
    case (line_aborts (physical_behind s.backing) pa) (λ t. rw t (bad_way s va pa)) (λ t. rw t (bad_way s va pa))

-- a clean of the line found
pub bad_cleaned_at : (s : Side) (x : Option ℕ) → (cleaned_at s x).side.backing.bad ≡ s.backing.bad
unfolding cleaned_at
bad_cleaned_at s None = refl
bad_cleaned_at s (Some i) = bad_sent s.backing (line_at s.cache i) s.cache.store (i * 32)

-- a clean of the line of an address
pub bad_cleaned : (s : Side) (va : VirtualAddress) → (cleaned s va).side.backing.bad ≡ s.backing.bad
unfolding cleaned
bad_cleaned s va = bad_cleaned_at s (find s.cache.lines va)

-- ---- "pointers and cache store bytes stay"

-- a store on a hit moves no pointer
pub pointers_stored : (c : Dcache) (i : ℕ) (va : VirtualAddress) (width v : ℕ) → (hit_store c i va width v).pointers ≡ c.pointers
unfolding hit_store
pointers_stored c i va width v = refl

-- a clean of the line found moves no pointer
pub pointers_cleaned_at : (s : Side) (x : Option ℕ) → (cleaned_at s x).side.cache.pointers ≡ s.cache.pointers
unfolding cleaned_at
pointers_cleaned_at s None = refl
pointers_cleaned_at s (Some i) = refl

-- a clean of the line of an address moves no pointer
pub pointers_cleaned : (s : Side) (va : VirtualAddress) → (cleaned s va).side.cache.pointers ≡ s.cache.pointers
unfolding cleaned
pointers_cleaned s va = pointers_cleaned_at s (find s.cache.lines va)

-- a clean of the line found changes no byte of the cache store
pub store_cleaned_at : (s : Side) (x : Option ℕ) → (cleaned_at s x).side.cache.store ≡ s.cache.store
unfolding cleaned_at
store_cleaned_at s None = refl
store_cleaned_at s (Some i) = refl

-- a clean of the line of an address changes no byte of the cache store
pub store_cleaned : (s : Side) (va : VirtualAddress) → (cleaned s va).side.cache.store ≡ s.cache.store
unfolding cleaned
store_cleaned s va = store_cleaned_at s (find s.cache.lines va)

-- a flush of the line found moves no pointer
pub pointers_flushed_at : (c : Dcache) (x : Option ℕ) → (flushed_at c x).pointers ≡ c.pointers
unfolding flushed_at
pointers_flushed_at c None = refl
pointers_flushed_at c (Some i) = refl

-- a flush of the line of an address moves no pointer
pub pointers_flushed : (c : Dcache) (va : VirtualAddress) → (line_flushed c va).pointers ≡ c.pointers
unfolding line_flushed
pointers_flushed c va = pointers_flushed_at c (find c.lines va)

-- a flush of the line found changes no byte of the cache store
pub store_flushed_at : (c : Dcache) (x : Option ℕ) → (flushed_at c x).store ≡ c.store
unfolding flushed_at
store_flushed_at c None = refl
store_flushed_at c (Some i) = refl

-- a flush of the line of an address changes no byte of the cache store
pub store_flushed : (c : Dcache) (va : VirtualAddress) → (line_flushed c va).store ≡ c.store
unfolding line_flushed
store_flushed c va = store_flushed_at c (find c.lines va)

-- a flush of all lines moves no pointer
pub pointers_all_flushed : (c : Dcache) → (all_flushed c).pointers ≡ c.pointers
unfolding all_flushed
pointers_all_flushed c = refl

-- a flush of all lines changes no byte of the cache store
pub store_all_flushed : (c : Dcache) → (all_flushed c).store ≡ c.store
unfolding all_flushed
store_all_flushed c = refl

-- ---- 512 lines, 16 pointers, 16384 bytes

pub record CacheShape (c : Dcache) : Type 0 where
  pub lines_long : length c.lines ≡ 512
  pub pointers_long : length c.pointers ≡ 16
  pub store_long : length c.store ≡ 16384

-- the Dcache and the buffer
pub record SideShape (s : Side) : Type 0 where
  pub cache_shape : CacheShape s.cache
  pub buffer_shape : BufferShape s.backing.buffer

-- one line replaced
pub shape_with : (c : Dcache) (i : ℕ) (l : Line) → CacheShape c → CacheShape (with_line c i l)
shape_with c i l h =
    record { lines_long = length-set c.lines i l ∙ h.lines_long; pointers_long = h.pointers_long; store_long = h.store_long }

-- a store on a hit
pub shape_hit : (c : Dcache) (i : ℕ) (va : VirtualAddress) (width v : ℕ) → CacheShape c → CacheShape (hit_store c i va width v)
unfolding hit_store
shape_hit c i va width v h =
    record {
      lines_long = length-set c.lines i (marked (line_at c i) (offset_of va)) ∙ h.lines_long;
      pointers_long = h.pointers_long;
      store_long = length_stored width c.store (i * 32 + offset_of va) v ∙ h.store_long;
    }

-- bytes laid over others of a list
pub length_copied : (d : List ℕ) (at : ℕ) (s : List ℕ) (from n : ℕ) → at + n ≤ length d → from + n ≤ length s
    → length (copied d at s from n) ≡ length d
length_copied d at s from n h k = length-paste d at (drop from s) n h (rw (length-drop from s) (omega arith))

-- a line read
pub shape_read : (c : Dcache) (i : ℕ) (va : VirtualAddress) (pa : PhysicalAddress) (m : List ℕ) → i < 512
    → physical_line pa * 32 + 32 ≤ length m → CacheShape c → CacheShape (line_read c i va pa m)
unfolding line_read
shape_read c i va pa m low inside h =
    record {
      lines_long = length-set c.lines i (fresh_line (tag_of va) (physical_line pa)) ∙ h.lines_long;
      pointers_long = h.pointers_long;
      store_long = length_copied c.store (i * 32) m (physical_line pa * 32) 32 (fits h.store_long) inside ∙ h.store_long;
    }
  where
    fits : length c.store ≡ 16384 → i * 32 + 32 ≤ length c.store
    fits e = omega (arith, low)

-- a flush of the line found
pub shape_flushed_at : (c : Dcache) (x : Option ℕ) → CacheShape c → CacheShape (flushed_at c x)
unfolding flushed_at
shape_flushed_at c None h = h
shape_flushed_at c (Some i) h = shape_with c i empty_line h

-- a flush of the line of an address
pub shape_flushed : (c : Dcache) (va : VirtualAddress) → CacheShape c → CacheShape (line_flushed c va)
unfolding line_flushed
shape_flushed c va h = shape_flushed_at c (find c.lines va) h

-- a flush of all lines
pub shape_all_flushed : (c : Dcache) → CacheShape c → CacheShape (all_flushed c)
unfolding all_flushed
shape_all_flushed c h = record { lines_long = refl; pointers_long = h.pointers_long; store_long = h.store_long }

-- the buffer, when one half is sent out
pub shape_half_sent : (dirty : Bool) (b : Backing) (block : ℕ) (store : List ℕ) (a : ℕ) → a + 16 ≤ length store
    → BufferShape b.buffer → BufferShape (half_sent dirty b block store a).buffer
shape_half_sent true b block store a k h =
    shape_half b block (take 16 (drop a store)) (length-take-le 16 (drop a store) (rw (length-drop a store) (omega arith))) h
shape_half_sent false b block store a k h = h

-- the buffer, when the dirty halves of a line are sent out
pub shape_sent : (b : Backing) (l : Line) (store : List ℕ) (a : ℕ) → a + 32 ≤ length store
    → BufferShape b.buffer → BufferShape (halves_sent b l store a).buffer
unfolding halves_sent
shape_sent b l store a k h =
    shape_half_sent l.high (half_sent l.low b (l.frame * 2) store a) (l.frame * 2 + 1) store (a + 16) (omega arith)
    (shape_half_sent l.low b (l.frame * 2) store a (omega arith) h)

-- a line with no dirty half sends nothing
pub none_sent : (b : Backing) (l : Line) (store : List ℕ) (a : ℕ) → l.low ≡ false → l.high ≡ false → halves_sent b l store a ≡ b
unfolding halves_sent
none_sent b l store a p q = rw (p, q)

-- the line that gives way is one of the 512
pub victim_low : (c : Dcache) (va : VirtualAddress) → get_or c.pointers (set_of va) 0 < 32 → victim c va < 512
victim_low c va h = omega arith

-- a line that gives way
pub shape_way : (c : Dcache) (i s : ℕ) → CacheShape c → CacheShape (dcache_from (set c.lines i empty_line) (turned c.pointers s) c.store)
shape_way c i s h =
    record {
      lines_long = length-set c.lines i empty_line ∙ h.lines_long;
      pointers_long = length-set c.pointers s ((get_or c.pointers s 0 + 1) % 32) ∙ h.pointers_long;
      store_long = h.store_long;
    }

-- a clean of the line found
pub shape_cleaned_at : (s : Side) (x : Option ℕ) → SideShape s → SideShape (cleaned_at s x).side
unfolding cleaned_at
shape_cleaned_at s None h = h
shape_cleaned_at s (Some i) h =
    let l = line_at s.cache i in
    record {
      cache_shape = shape_with s.cache i (clean_line l) h.cache_shape;
      buffer_shape =
          case (ltb i 512)
          (λ t. shape_sent s.backing l s.cache.store (i * 32) (room (ltb-true i 512 t) h.cache_shape.store_long) h.buffer_shape)
          (λ t. nothing (get_or-eq_default s.cache.lines empty_line (out (ltb-false i 512 t) h.cache_shape.lines_long)));
    }
  where
    room : i < 512 → length s.cache.store ≡ 16384 → i * 32 + 32 ≤ length s.cache.store
    room k e = omega (arith, k, e)

    out : 512 ≤ i → length s.cache.lines ≡ 512 → length s.cache.lines ≤ i
    out k e = omega arith

    nothing : line_at s.cache i ≡ empty_line → BufferShape (halves_sent s.backing (line_at s.cache i) s.cache.store (i * 32)).buffer
    nothing e =
        subst (λ (x : Line). BufferShape (halves_sent s.backing x s.cache.store (i * 32)).buffer) (sym e)
        (subst (λ (x : Backing). BufferShape x.buffer) (sym (none_sent s.backing empty_line s.cache.store (i * 32) refl refl)) h.buffer_shape)

-- a clean of the line of an address
pub shape_cleaned : (s : Side) (va : VirtualAddress) → SideShape s → SideShape (cleaned s va).side
unfolding cleaned
shape_cleaned s va h = shape_cleaned_at s (find s.cache.lines va) h
