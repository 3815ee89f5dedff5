-- Lines, pointers and cache store bytes after each operation: what it puts, and every other as it was.
use Rattle.std.specs.Prelude.{Option, Some, None}
use Prim.Native.Nat.{ℕ, ◌+◌, ◌-◌, ◌*◌, ◌%◌, ◌^◌, ◌<◌, ◌≤◌}
use native.Mathlib.Omega.{arith}
use mathlib.Core.Bool.{true, false}
use mathlib.Core.Logic.{◌≢◌}
use mathlib.Core.Path.{◌≡◌, refl, sym, ◌∙◌, ap}
use mathlib.Core.List.{List, ◌++◌}
use lib.Dec.{eqb, ltb}
use lib.ListN.{length, length-drop, get_or, get_or-replicate, set, take, drop, get_or-append, get_or-eq_default}
use lib.Seq.{get_or-set_same, get_or-set_other, get_or-append-add, get_or-take, get_or-drop, set_out, length-take-le, length_paste_head}
use borrow.Author.Tests.{eqb-true, eqb-false, lt-ltb, le-ltb, ltb-true, ltb-false}
use Rattle.values.specs.Empty.{empty_line, no_lines}
use Rattle.values.specs.Addresses.{tag_of, offset_of, physical_line}
use Rattle.values.specs.declared.VirtualAddress.{VirtualAddress}
use Rattle.values.specs.declared.PhysicalAddress.{PhysicalAddress}
use Rattle.values.specs.declared.Line.{Line}
use Rattle.values.proofs.Cases.{case}
use Rattle.words.specs.Words.{stored}
use Rattle.words.proofs.Laws.{byte_in, byte_before, byte_behind, load_same}
use Rattle.bus.specs.Physical.{line_aborts}
use Rattle.buffer.specs.Buffer.{physical_behind, ready}
use Rattle.cache.specs.Dcache.{
  Dcache,
  Side,
  side_from,
  line_at,
  with_line,
  find,
  marked,
  hit_load,
  hit_store,
  halves_sent,
  victim,
  turned,
  copied,
  fresh_line,
  gave_way,
  line_read,
  filled,
  clean_line,
  cleaned_at,
  cleaned,
  flushed_at,
  line_flushed,
  all_flushed,
}

-- ---- one line replaced

module _ (c : Dcache) (i : ℕ) (l : Line) where
  -- the line put
  pub line_with : i < length c.lines → line_at (with_line c i l) i ≡ l
  line_with h = get_or-set_same c.lines i l empty_line h

  -- every other line stays
  pub other_with : (j : ℕ) → j ≢ i → line_at (with_line c i l) j ≡ line_at c j
  other_with j n = get_or-set_other c.lines i j l empty_line n

-- a line put, which is the empty line where the place has the empty line
line_put : (l : List Line) (i : ℕ) (x : Line) → (get_or l i empty_line ≡ empty_line → x ≡ empty_line) → get_or (set l i x) i empty_line ≡ x
line_put l i x f =
    case (ltb i (length l))
    (λ t. get_or-set_same l i x empty_line (ltb-true i (length l) t))
    (λ t.
    let h = ltb-false i (length l) t in
    let e = get_or-eq_default l empty_line h in
    ap (λ (r : List Line). get_or r i empty_line) (set_out l i x h) ∙ e ∙ sym (f e))

-- ---- the same mapping: valid or not, tag and frame

pub record SameLine (old new : Line) : Type 0 where
  pub valid : new.valid ≡ old.valid
  pub tag : new.tag ≡ old.tag
  pub frame : new.frame ≡ old.frame

-- a line as it was
pub same_line : (l : Line) → SameLine l l
same_line l = record { valid = refl; tag = refl; frame = refl }

-- one line replaced by one of the same mapping
pub same_set : (ls : List Line) (i : ℕ) (x : Line) → SameLine (get_or ls i empty_line) x
    → (j : ℕ) → SameLine (get_or ls j empty_line) (get_or (set ls i x) j empty_line)
same_set ls i x h j =
    case (eqb j i)
    (λ t.
    let q : j ≡ i = eqb-true j i t in
    case (ltb i (length ls))
    (λ u. rw (q, get_or-set_same ls i x empty_line (ltb-true i (length ls) u)) h)
    (λ u. rw (set_out ls i x (ltb-false i (length ls) u)) (same_line (get_or ls j empty_line))))
    (λ t. rw (get_or-set_other ls i j x empty_line (eqb-false j i t)) (same_line (get_or ls j empty_line)))

-- ---- a mark

module _ (l : Line) (offset : ℕ) where
  -- the line is as valid as it was
  pub valid_marked : (marked l offset).valid ≡ l.valid
  valid_marked = case (ltb offset 16) (λ t. rw t) (λ t. rw t)

  -- the tag stays
  pub tag_marked : (marked l offset).tag ≡ l.tag
  tag_marked = case (ltb offset 16) (λ t. rw t) (λ t. rw t)

  -- the frame stays
  pub frame_marked : (marked l offset).frame ≡ l.frame
  frame_marked = case (ltb offset 16) (λ t. rw t) (λ t. rw t)

  -- the mapping stays
  pub same_marked : SameLine l (marked l offset)
  same_marked = record { valid = valid_marked; tag = tag_marked; frame = frame_marked }

  -- a mark of the low half
  pub low_marked : offset < 16 → (marked l offset).low ≡ true
  low_marked h = rw (lt-ltb offset 16 h)

  -- a mark of the low half leaves the high half as it was
  pub high_kept : offset < 16 → (marked l offset).high ≡ l.high
  high_kept h = rw (lt-ltb offset 16 h)

  -- a mark of the high half
  pub high_marked : 16 ≤ offset → (marked l offset).high ≡ true
  high_marked h = rw (le-ltb offset 16 h)

  -- a mark of the high half leaves the low half as it was
  pub low_kept : 16 ≤ offset → (marked l offset).low ≡ l.low
  low_kept h = rw (le-ltb offset 16 h)

-- ---- a store on a hit

module _ (c : Dcache) (i : ℕ) (va : VirtualAddress) (width v : ℕ) where
  abbrev at : ℕ
  at = i * 32 + offset_of va

  -- "a store marks its half"
  pub line_stored : i < length c.lines → line_at (hit_store c i va width v) i ≡ marked (line_at c i) (offset_of va)
  unfolding hit_store
  line_stored h = get_or-set_same c.lines i (marked (line_at c i) (offset_of va)) empty_line h

  -- every other line stays
  pub other_stored : (j : ℕ) → j ≢ i → line_at (hit_store c i va width v) j ≡ line_at c j
  unfolding hit_store
  other_stored j n = get_or-set_other c.lines i j (marked (line_at c i) (offset_of va)) empty_line n

  -- every line keeps its mapping
  pub same_stored : (j : ℕ) → SameLine (line_at c j) (line_at (hit_store c i va width v) j)
  unfolding hit_store
  same_stored j = same_set c.lines i (marked (line_at c i) (offset_of va)) (same_marked (line_at c i) (offset_of va)) j

  -- a load of what was stored
  pub load_stored : i * 32 + offset_of va + width ≤ length c.store → v < 256 ^ width → hit_load (hit_store c i va width v) i va width ≡ v
  unfolding hit_store hit_load
  load_stored h k = load_same width c.store at v h k

  -- a byte that is stored, as a store of the number to any other list leaves it
  pub byte_stored : (m : List ℕ) (a j : ℕ) → j < width → i * 32 + offset_of va + width ≤ length c.store → a + width ≤ length m
      → get_or (hit_store c i va width v).store (i * 32 + offset_of va + j) 0 ≡ get_or (stored width m a v) (a + j) 0
  unfolding hit_store
  byte_stored m a j h k f = byte_in width c.store m at a v j h k f

  -- a byte before what is stored
  pub byte_before_stored : (p : ℕ) → p < i * 32 + offset_of va → get_or (hit_store c i va width v).store p 0 ≡ get_or c.store p 0
  unfolding hit_store
  byte_before_stored p h = byte_before width c.store at v p h

  -- a byte behind what is stored
  pub byte_behind_stored : (p : ℕ) → i * 32 + offset_of va + width ≤ p → get_or (hit_store c i va width v).store p 0 ≡ get_or c.store p 0
  unfolding hit_store
  byte_behind_stored p h = byte_behind width c.store at v p h

-- ---- a part copied

module _ (d : List ℕ) (at : ℕ) (s : List ℕ) (from n : ℕ) (h : at + n ≤ length d) (k : from + n ≤ length s) where
  abbrev front : List ℕ
  front = take at d

  abbrev part : List ℕ
  part = take n (drop from s)

  abbrev back : List ℕ
  back = drop (at + n) d

  front_long : length front ≡ at
  front_long = length-take-le at d (omega arith)

  both_long : length (front ++ part) ≡ at + n
  both_long = length_paste_head d at (drop from s) n (omega arith) (rw (length-drop from s) (omega arith))

  -- a byte of the part
  pub copied_in : (j : ℕ) → j < n → get_or (copied d at s from n) (at + j) 0 ≡ get_or s (from + j) 0
  copied_in j l =
      let b = both_long in
      get_or-append (front ++ part) back 0 (at + j) (omega arith)
      ∙ ap (λ (x : ℕ). get_or (front ++ part) (x + j) 0) (sym front_long)
      ∙ get_or-append-add front part j 0 ∙ get_or-take n (drop from s) j 0 l ∙ get_or-drop from s j 0

  -- a byte before the part
  pub copied_before : (p : ℕ) → p < at → get_or (copied d at s from n) p 0 ≡ get_or d p 0
  copied_before p l =
      let b = both_long in
      get_or-append (front ++ part) back 0 p (omega arith)
      ∙ get_or-append front part 0 p (rw front_long l) ∙ get_or-take at d p 0 l

  -- a byte behind the part
  pub copied_behind : (p : ℕ) → at + n ≤ p → get_or (copied d at s from n) p 0 ≡ get_or d p 0
  copied_behind p l =
      let b = both_long in
      let q : length (front ++ part) + (p - (at + n)) ≡ p = omega arith in
      let t : at + n + (p - (at + n)) ≡ p = omega arith in
      ap (λ (x : ℕ). get_or (copied d at s from n) x 0) (sym q)
      ∙ get_or-append-add (front ++ part) back (p - (at + n)) 0
      ∙ get_or-drop (at + n) d (p - (at + n)) 0 ∙ ap (λ (x : ℕ). get_or d x 0) t

-- ---- a line read

module _ (c : Dcache) (i : ℕ) (va : VirtualAddress) (pa : PhysicalAddress) (m : List ℕ) where
  -- a valid line with no dirty half
  pub line_read_lem : i < length c.lines → line_at (line_read c i va pa m) i ≡ fresh_line (tag_of va) (physical_line pa)
  unfolding line_read
  line_read_lem h = get_or-set_same c.lines i (fresh_line (tag_of va) (physical_line pa)) empty_line h

  -- every other line stays
  pub other_read : (j : ℕ) → j ≢ i → line_at (line_read c i va pa m) j ≡ line_at c j
  unfolding line_read
  other_read j n = get_or-set_other c.lines i j (fresh_line (tag_of va) (physical_line pa)) empty_line n

  module _ (h : i * 32 + 32 ≤ length c.store) (k : physical_line pa * 32 + 32 ≤ length m) where
    -- its bytes are memory's
    pub byte_read : (j : ℕ) → j < 32 → get_or (line_read c i va pa m).store (i * 32 + j) 0 ≡ get_or m (physical_line pa * 32 + j) 0
    unfolding line_read
    byte_read j l = copied_in c.store (i * 32) m (physical_line pa * 32) 32 h k j l

    -- a byte before the line
    pub byte_before_read : (p : ℕ) → p < i * 32 → get_or (line_read c i va pa m).store p 0 ≡ get_or c.store p 0
    unfolding line_read
    byte_before_read p l = copied_before c.store (i * 32) m (physical_line pa * 32) 32 h k p l

    -- a byte behind the line
    pub byte_behind_read : (p : ℕ) → i * 32 + 32 ≤ p → get_or (line_read c i va pa m).store p 0 ≡ get_or c.store p 0
    unfolding line_read
    byte_behind_read p l = copied_behind c.store (i * 32) m (physical_line pa * 32) 32 h k p l

-- ---- "the pointer steps"

module _ (pointers : List ℕ) (s : ℕ) where
  -- the pointer of the set
  pub pointer_turned : s < length pointers → get_or (turned pointers s) s 0 ≡ (get_or pointers s 0 + 1) % 32
  pointer_turned h = get_or-set_same pointers s ((get_or pointers s 0 + 1) % 32) 0 h

  -- every other pointer stays
  pub other_turned : (j : ℕ) → j ≢ s → get_or (turned pointers s) j 0 ≡ get_or pointers j 0
  other_turned j n = get_or-set_other pointers s j ((get_or pointers s 0 + 1) % 32) 0 n

  -- pointers stay at most 31
  pub turned_low : ((j : ℕ) → get_or pointers j 0 ≤ 31) → (j : ℕ) → get_or (turned pointers s) j 0 ≤ 31
  turned_low f j =
      case (eqb j s)
      (λ t.
      let q : j ≡ s = eqb-true j s t in
      case (ltb s (length pointers))
      (λ u. rw (q, pointer_turned (ltb-true s (length pointers) u)) (omega arith))
      (λ u. rw (set_out pointers s ((get_or pointers s 0 + 1) % 32) (ltb-false s (length pointers) u)) (f j)))
      (λ t. rw (other_turned j (eqb-false j s t)) (f j))

-- ---- a fill

module _ (s : Side) (va : VirtualAddress) (pa : PhysicalAddress) where
  -- the backing once the victim has given way and the buffer is ready
  pub way_backing : (gave_way s va pa).side.backing
      ≡ ready (halves_sent s.backing (line_at s.cache (victim s.cache va)) s.cache.store (victim s.cache va * 32)) (physical_line pa * 32) 32
  unfolding gave_way
  way_backing = refl

  -- the place is empty
  pub line_way : line_at (gave_way s va pa).side.cache (victim s.cache va) ≡ empty_line
  unfolding gave_way
  line_way = line_put s.cache.lines (victim s.cache va) empty_line (λ e. refl)

  -- every other line stays
  pub other_way : (j : ℕ) → j ≢ victim s.cache va → line_at (gave_way s va pa).side.cache j ≡ line_at s.cache j
  unfolding gave_way
  other_way j n = get_or-set_other s.cache.lines (victim s.cache va) j empty_line empty_line n

  -- "the cache store keeps its bytes"
  pub way_store : (gave_way s va pa).side.cache.store ≡ s.cache.store
  unfolding gave_way
  way_store = refl

  -- the cache once the line is read
  abbrev pub read_into : Dcache
  read_into = line_read (gave_way s va pa).side.cache (victim s.cache va) va pa (gave_way s va pa).side.backing.memory

  -- a fill leaves an empty place, or the line read
  pub fill_cases {ℓ} : (P : Side → Type ℓ) → (line_aborts (physical_behind s.backing) pa ≡ true → P (gave_way s va pa).side)
      → (line_aborts (physical_behind s.backing) pa ≡ false → P (side_from read_into (gave_way s va pa).side.backing)) → P (filled s va pa).side
  unfolding filled
  fill_cases P f g = case (line_aborts (physical_behind s.backing) pa) (λ t. rw t (f t)) (λ t. rw t (g t))

  -- what it leaves behind the cache, and the number of halves sent out, are the same
  pub fill_backing : (filled s va pa).side.backing ≡ (gave_way s va pa).side.backing
  fill_backing = fill_cases (λ t. t.backing ≡ (gave_way s va pa).side.backing) (λ e. refl) (λ e. refl)

  pub fill_halves : (filled s va pa).halves ≡ (gave_way s va pa).halves
  unfolding filled
  fill_halves = case (line_aborts (physical_behind s.backing) pa) (λ t. rw t) (λ t. rw t)

-- ---- a clean

-- "clears their dirty bits and leaves the line valid"
pub line_cleaned : (s : Side) (i : ℕ) → line_at (cleaned_at s (Some i)).side.cache i ≡ clean_line (line_at s.cache i)
unfolding cleaned_at
line_cleaned s i = line_put s.cache.lines i (clean_line (line_at s.cache i)) (λ e. ap clean_line e)

-- every other line stays
pub other_cleaned : (s : Side) (i j : ℕ) → j ≢ i → line_at (cleaned_at s (Some i)).side.cache j ≡ line_at s.cache j
unfolding cleaned_at
other_cleaned s i j n = other_with s.cache i (clean_line (line_at s.cache i)) j n

-- every line keeps its mapping
pub same_cleaned_at : (s : Side) (x : Option ℕ) (j : ℕ) → SameLine (line_at s.cache j) (line_at (cleaned_at s x).side.cache j)
unfolding cleaned_at
same_cleaned_at s None j = same_line (line_at s.cache j)
same_cleaned_at s (Some i) j =
    same_set s.cache.lines i (clean_line (line_at s.cache i)) (record { valid = refl; tag = refl; frame = refl }) j

-- the same of the line of an address
pub same_cleaned : (s : Side) (va : VirtualAddress) (j : ℕ) → SameLine (line_at s.cache j) (line_at (cleaned s va).side.cache j)
unfolding cleaned
same_cleaned s va j = same_cleaned_at s (find s.cache.lines va) j

-- its dirty halves have gone to the buffer
pub backing_cleaned : (s : Side) (i : ℕ)
    → (cleaned_at s (Some i)).side.backing ≡ halves_sent s.backing (line_at s.cache i) s.cache.store (i * 32)
unfolding cleaned_at
backing_cleaned s i = refl

-- where no line is found, nothing changes
pub clean_none : (s : Side) → (cleaned_at s None).side ≡ s
unfolding cleaned_at
clean_none s = refl

-- the line of an address is the one found
pub cleaned_as : (s : Side) (va : VirtualAddress) (x : Option ℕ) → find s.cache.lines va ≡ x → cleaned s va ≡ cleaned_at s x
unfolding cleaned
cleaned_as s va x e = ap (cleaned_at s) e

-- ---- a flush

-- the line is emptied
pub line_flushed_lem : (c : Dcache) (i : ℕ) → line_at (flushed_at c (Some i)) i ≡ empty_line
unfolding flushed_at
line_flushed_lem c i = line_put c.lines i empty_line (λ e. refl)

-- every other line stays
pub other_flushed : (c : Dcache) (i j : ℕ) → j ≢ i → line_at (flushed_at c (Some i)) j ≡ line_at c j
unfolding flushed_at
other_flushed c i j n = other_with c i empty_line j n

-- where no line is found, nothing changes
pub flush_none : (c : Dcache) → flushed_at c None ≡ c
unfolding flushed_at
flush_none c = refl

-- the line of an address is the one found
pub flushed_as : (c : Dcache) (va : VirtualAddress) (x : Option ℕ) → find c.lines va ≡ x → line_flushed c va ≡ flushed_at c x
unfolding line_flushed
flushed_as c va x e = ap (flushed_at c) e

-- no line is left
pub all_flushed_lem : (c : Dcache) (j : ℕ) → line_at (all_flushed c) j ≡ empty_line
unfolding all_flushed
all_flushed_lem c j =
    case (ltb j 512)
    (λ t. get_or-replicate 512 j empty_line empty_line (ltb-true j 512 t))
    (λ t. get_or-eq_default no_lines empty_line {n = j} (ltb-false j 512 t))
