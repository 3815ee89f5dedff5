-- Hits, fills, cleans and flushes keep the Dcache sound, and the write buffer behind it.
use Rattle.std.specs.Prelude.{Option, Some, None}
use Prim.Native.Nat.{ℕ, ◌+◌, ◌*◌, ◌/◌, ◌%◌, ◌<◌, ◌≤◌}
use native.Mathlib.Omega.{arith}
use mathlib.Core.Bool.{Bool, true, false}
use mathlib.Core.Logic.{◌≢◌}
use mathlib.Core.Path.{◌≡◌, refl, sym, ◌∙◌, ap, subst}
use mathlib.Core.List.{List, ◌++◌}
use lib.Dec.{eqb, ltb}
use lib.ListN.{length, length-drop, get_or, set, take, drop}
use lib.Seq.{get_or-set_same, get_or-set_other, length-take-le}
use borrow.Author.Tests.{eqb-true, eqb-false, ltb-true, ltb-false}
use Rattle.values.specs.Addresses.{set_of, tag_of, offset_of, physical_line}
use Rattle.values.specs.Empty.{empty_line}
use Rattle.values.specs.declared.VirtualAddress.{VirtualAddress}
use Rattle.values.specs.declared.PhysicalAddress.{PhysicalAddress}
use Rattle.values.specs.declared.Line.{Line}
use Rattle.values.proofs.Cases.{case, clash, and_no}
use Rattle.words.specs.Words.{Bytes}
use Rattle.bus.proofs.Laws.{line_inside}
use Rattle.buffer.specs.Buffer.{Backing, physical_behind}
use Rattle.cache.specs.Dcache.{Dcache, Side, line_at, matches, find, marked, hit_store, half_sent, halves_sent, victim, fresh_line, gave_way, line_read, filled}
use Rattle.cache.specs.Dcache.{clean_line, cleaned_at, cleaned, flushed_at, line_flushed, all_flushed}
use Rattle.cache.proofs.Finds.{found, Missed, missed}
use Rattle.cache.proofs.PutGet.{valid_marked, tag_marked, frame_marked, turned_low, line_way, other_way, fill_cases}
use Rattle.cache.proofs.Unchanged.{CacheShape, shape_with, shape_hit, shape_way, shape_read, shape_all_flushed, victim_low}
use Rattle.soundness_laws.proofs.LowBytes.{bytes_stored, bytes_append, bytes_take, bytes_drop}
use Rattle.soundness_laws.proofs.Elements.{same_at}
use Rattle.soundness_laws.proofs.CacheParts.{LineIs, Differ, Apart}
use Rattle.soundness_laws.proofs.BackingKept.{BackingIs, ready_kept, half_kept}

-- a sound Dcache before a memory of n bytes
pub record CacheIs (n : ℕ) (c : Dcache) : Type 0 where
  pub shape : CacheShape c
  pub store_bytes : Bytes c.store
  pub lines : (i : ℕ) → LineIs n (line_at c i)
  pub apart : Apart 16 c.lines
  pub pointers : (s : ℕ) → get_or c.pointers s 0 ≤ 31

pub record SideIs (n : ℕ) (s : Side) : Type 0 where
  pub cache : CacheIs n s.cache
  pub backing : BackingIs n s.backing

-- ---- one line replaced

differ_sym : (a b : Line) → Differ a b → Differ b a
differ_sym a b d u v e = d v u (sym e)

module _ (lines : List Line) (k : ℕ) (l : Line) (long : length lines ≡ 512) (low : k < 512) where
  here : get_or (set lines k l) k empty_line ≡ l
  here = get_or-set_same lines k l empty_line (omega arith)

  other : (i : ℕ) → i ≢ k → get_or (set lines k l) i empty_line ≡ get_or lines i empty_line
  other i h = get_or-set_other lines k i l empty_line h

  lines_set : (n : ℕ) → ((i : ℕ) → LineIs n (get_or lines i empty_line)) → LineIs n l → (i : ℕ) → LineIs n (get_or (set lines k l) i empty_line)
  lines_set n f g i =
      case (eqb i k)
      (λ t. let e : i ≡ k = eqb-true i k t in rw (e, here) g)
      (λ t. rw (other i (eqb-false i k t)) (f i))

  -- the line differs from the others of its set
  apart_set : Apart 16 lines → ((i : ℕ) → i / 32 ≡ k / 32 → i ≢ k → Differ (get_or lines i empty_line) l) → Apart 16 (set lines k l)
  apart_set a f s i j h p b =
      case (eqb (s * 32 + i) k)
      (λ t.
      let e : s * 32 + i ≡ k = eqb-true (s * 32 + i) k t in
      let o : s * 32 + j ≢ k = λ q. later e q in
      subst (λ (x : Line). Differ x (get_or (set lines k l) (s * 32 + j) empty_line)) (sym (ap (λ (y : ℕ). get_or (set lines k l) y empty_line) e ∙ here))
      (subst (λ (x : Line). Differ l x) (sym (other (s * 32 + j) o)) (differ_sym (get_or lines (s * 32 + j) empty_line) l (f (s * 32 + j) (same_set e) o))))
      (λ t.
      let n = eqb-false (s * 32 + i) k t in
      case (eqb (s * 32 + j) k)
      (λ u.
      let e : s * 32 + j ≡ k = eqb-true (s * 32 + j) k u in
      subst (λ (x : Line). Differ (get_or (set lines k l) (s * 32 + i) empty_line) x) (sym (ap (λ (y : ℕ). get_or (set lines k l) y empty_line) e ∙ here))
      (subst (λ (x : Line). Differ x l) (sym (other (s * 32 + i) n)) (f (s * 32 + i) (same_set' e) n)))
      (λ u.
      let o = eqb-false (s * 32 + j) k u in
      subst (λ (x : Line). Differ x (get_or (set lines k l) (s * 32 + j) empty_line)) (sym (other (s * 32 + i) n))
      (subst (λ (x : Line). Differ (get_or lines (s * 32 + i) empty_line) x) (sym (other (s * 32 + j) o)) (a s i j h p b))))
    where
      later : s * 32 + i ≡ k → s * 32 + j ≡ k → ⊥
      later e q = omega arith

      same_set : s * 32 + i ≡ k → (s * 32 + j) / 32 ≡ k / 32
      same_set e = omega arith

      same_set' : s * 32 + j ≡ k → (s * 32 + i) / 32 ≡ k / 32
      same_set' e = omega arith

  -- a line with the old one's valid bit and tag
  alike : Apart 16 lines → l.valid ≡ (get_or lines k empty_line).valid → l.tag ≡ (get_or lines k empty_line).tag → Apart 16 (set lines k l)
  alike a v t =
      apart_set a
      (λ i h o.
      let d : Differ (get_or lines i empty_line) (get_or lines k empty_line) = pair i h o in
      λ x y e. d x (sym v ∙ y) (e ∙ t))
    where
      strict : (i : ℕ) → i / 32 ≡ k / 32 → i ≢ k → k % 32 ≤ i % 32 → k % 32 < i % 32
      strict i h o g = omega arith

      -- the line and another of its set
      pair : (i : ℕ) → i / 32 ≡ k / 32 → i ≢ k → Differ (get_or lines i empty_line) (get_or lines k empty_line)
      pair i h o =
          let p : k / 32 * 32 + i % 32 ≡ i = omega arith in
          let q : k / 32 * 32 + k % 32 ≡ k = omega arith in
          case (ltb (i % 32) (k % 32))
          (λ w. rw (p, q) at (a (k / 32) (i % 32) (k % 32) (omega arith) (ltb-true (i % 32) (k % 32) w) (omega arith)))
          (λ w.
          differ_sym (get_or lines k empty_line) (get_or lines i empty_line)
          (rw (p, q) at (a (k / 32) (k % 32) (i % 32) (omega arith) (strict i h o (ltb-false (i % 32) (k % 32) w)) (omega arith))))

  -- a line that none of the set matches, put in place of another
  pub new_apart : (va : VirtualAddress) → k / 32 ≡ set_of va → Missed lines va → l.tag ≡ tag_of va → Apart 16 lines → Apart 16 (set lines k l)
  new_apart va h f t a =
      apart_set a
      (λ i g o u v e.
      eqb-false (get_or lines i empty_line).tag (tag_of va)
      (and_no (get_or lines i empty_line).valid (eqb (get_or lines i empty_line).tag (tag_of va)) u (f i (from i (g ∙ h)) (below i (g ∙ h)))) (e ∙ t))
    where
      from : (i : ℕ) → i / 32 ≡ set_of va → set_of va * 32 ≤ i
      from i g = omega arith

      below : (i : ℕ) → i / 32 ≡ set_of va → i < set_of va * 32 + 32
      below i g = omega arith

  -- an empty line
  empty_apart : l ≡ empty_line → Apart 16 lines → Apart 16 (set lines k l)
  empty_apart e a = apart_set a (λ i g o u v q. clash v (ap (λ (x : Line). x.valid) e))

-- ---- lines

pub empty_is : (n : ℕ) → LineIs n empty_line
empty_is n = record { inside = λ v. clash v refl; tag = λ v. clash v refl; empty = λ v. refl }

-- a line with a valid one's tag and frame
alike_is : (n : ℕ) (l k : Line) → LineIs n l → l.valid ≡ true → k.valid ≡ l.valid → k.tag ≡ l.tag → k.frame ≡ l.frame → LineIs n k
alike_is n l k h v ev et ef =
    record { inside = λ u. rw ef (h.inside v); tag = λ u. rw et (h.tag v); empty = λ u. clash (ev ∙ v) u }

-- a line read
fresh_is : (n : ℕ) (va : VirtualAddress) (pa : PhysicalAddress) → va.0 < 0x100000000 → physical_line pa * 32 + 32 ≤ n
    → LineIs n (fresh_line (tag_of va) (physical_line pa))
fresh_is n va pa h k = record { inside = λ v. k; tag = λ v. omega arith; empty = λ v. clash {b = true} refl v }

-- ---- a hit

pub hit_kept : (n : ℕ) (c : Dcache) (va : VirtualAddress) (i w v : ℕ) → CacheIs n c → find c.lines va ≡ Some i → CacheIs n (hit_store c i va w v)
unfolding hit_store
hit_kept n c va i w v k e =
    let f = found c.lines va i e in
    let l = line_at c i in
    let new = marked l (offset_of va) in
    let a = valid_marked l (offset_of va) in
    let b = tag_marked l (offset_of va) in
    record {
      shape = shape_hit c i va w v k.shape;
      store_bytes = bytes_stored w c.store (i * 32 + offset_of va) v k.store_bytes;
      lines =
          lines_set c.lines i new k.shape.lines_long f.low n k.lines
          (alike_is n l new (k.lines i) f.valid a b (frame_marked l (offset_of va)));
      apart = alike c.lines i new k.shape.lines_long f.low k.apart a b;
      pointers = k.pointers;
    }

-- ---- halves sent out

-- a dirty line is valid, and inside memory
dirty_inside : (n : ℕ) (l : Line) → LineIs n l → (b : Bool) → b ≡ true → (l ≡ empty_line → b ≡ false) → l.frame * 32 + 32 ≤ n
dirty_inside n l k b t f = case l.valid (λ v. k.inside v) (λ v. clash t (f (k.empty v)))

pub half_sent_kept : (n : ℕ) (dirty : Bool) (b : Backing) (block : ℕ) (store : List ℕ) (a : ℕ) → (dirty ≡ true → block * 16 + 16 ≤ n) → Bytes store
    → a + 16 ≤ length store → BackingIs n b → BackingIs n (half_sent dirty b block store a)
half_sent_kept n true b block store a h f g k =
    half_kept n b block (take 16 (drop a store)) k (h refl) (length-take-le 16 (drop a store) (rw (length-drop a store) (omega arith)))
    (bytes_take 16 (drop a store) (bytes_drop a store f))
half_sent_kept n false b block store a h f g k = k

pub halves_kept : (n : ℕ) (b : Backing) (l : Line) (store : List ℕ) (a : ℕ) → LineIs n l → Bytes store → a + 32 ≤ length store → BackingIs n b
    → BackingIs n (halves_sent b l store a)
unfolding halves_sent
halves_kept n b l store a h f g k =
    half_sent_kept n l.high (half_sent l.low b (l.frame * 2) store a) (l.frame * 2 + 1) store (a + 16)
    (λ t. upper (dirty_inside n l h l.high t (λ e. ap (λ (x : Line). x.high) e))) f (omega arith)
    (half_sent_kept n l.low b (l.frame * 2) store a (λ t. lower (dirty_inside n l h l.low t (λ e. ap (λ (x : Line). x.low) e))) f (omega arith) k)
  where
    upper : l.frame * 32 + 32 ≤ n → (l.frame * 2 + 1) * 16 + 16 ≤ n
    upper q = omega arith

    lower : l.frame * 32 + 32 ≤ n → l.frame * 2 * 16 + 16 ≤ n
    lower q = omega arith

-- ---- a fill

-- the line at the set's pointer gives way
pub way_kept : (n : ℕ) (s : Side) (va : VirtualAddress) (pa : PhysicalAddress) → SideIs n s → SideIs n (gave_way s va pa).side
unfolding gave_way
way_kept n s va pa k =
    let c = s.cache in
    let i = victim c va in
    let low : i < 512 = victim_low c va (let p = k.cache.pointers (set_of va) in omega arith) in
    let l = line_at c i in
    record {
      cache = record {
        shape = shape_way c i (set_of va) k.cache.shape;
        store_bytes = k.cache.store_bytes;
        lines = lines_set c.lines i empty_line k.cache.shape.lines_long low n k.cache.lines (empty_is n);
        apart = empty_apart c.lines i empty_line k.cache.shape.lines_long low refl k.cache.apart;
        pointers = turned_low c.pointers (set_of va) k.cache.pointers;
      };
      backing =
          ready_kept n (halves_sent s.backing l c.store (i * 32)) (physical_line pa * 32) 32
          (halves_kept n s.backing l c.store (i * 32) (k.cache.lines i) k.cache.store_bytes (omega (arith, k.cache.shape.store_long))
          k.backing);
    }

-- the line is read into place i of the address's set
pub read_kept : (n : ℕ) (c : Dcache) (i : ℕ) (va : VirtualAddress) (pa : PhysicalAddress) (m : List ℕ) → i < 512 → i / 32 ≡ set_of va → CacheIs n c
    → Missed c.lines va → va.0 < 0x100000000 → length m ≡ n → Bytes m → physical_line pa * 32 + 32 ≤ n → CacheIs n (line_read c i va pa m)
unfolding line_read
read_kept n c i va pa m low in_set k f h long b g =
    let new = fresh_line (tag_of va) (physical_line pa) in
    record {
      shape = shape_read c i va pa m low (omega arith) k.shape;
      store_bytes =
          bytes_append (take (i * 32) c.store ++ take 32 (drop (physical_line pa * 32) m)) (drop (i * 32 + 32) c.store)
          (bytes_append (take (i * 32) c.store) (take 32 (drop (physical_line pa * 32) m)) (bytes_take (i * 32) c.store k.store_bytes)
          (bytes_take 32 (drop (physical_line pa * 32) m) (bytes_drop (physical_line pa * 32) m b)))
          (bytes_drop (i * 32 + 32) c.store k.store_bytes);
      lines = lines_set c.lines i new k.shape.lines_long low n k.lines (fresh_is n va pa h g);
      apart = new_apart c.lines i new k.shape.lines_long low va in_set f refl k.apart;
      pointers = k.pointers;
    }

pub filled_kept : (n : ℕ) (s : Side) (va : VirtualAddress) (pa : PhysicalAddress) → SideIs n s → find s.cache.lines va ≡ None
    → va.0 < 0x100000000 → SideIs n (filled s va pa).side
filled_kept n s va pa k e h =
    fill_cases s va pa (SideIs n) (λ t. w)
    (λ t.
    let inside = line_inside (physical_behind s.backing) pa t in
    record {
      cache =
          read_kept n (gave_way s va pa).side.cache i va pa (gave_way s va pa).side.backing.memory low in_set w.cache gone h
          w.backing.memory_long w.backing.memory_bytes (omega (arith, k.backing.memory_long));
      backing = w.backing;
    })
  where
    i : ℕ
    i = victim s.cache va

    w : SideIs n (gave_way s va pa).side
    w = way_kept n s va pa k

    low : i < 512
    low = victim_low s.cache va (let p = k.cache.pointers (set_of va) in omega arith)

    in_set : i / 32 ≡ set_of va
    in_set = let p = k.cache.pointers (set_of va) in omega arith

    gone : Missed (gave_way s va pa).side.cache.lines va
    gone j f g =
        case (eqb j i)
        (λ t. ap (matches va) (ap (line_at (gave_way s va pa).side.cache) (eqb-true j i t) ∙ line_way s va pa))
        (λ t. ap (matches va) (other_way s va pa j (eqb-false j i t)) ∙ missed s.cache.lines va e j f g)

-- ---- a clean, and flushes

pub clean_at_kept : (n : ℕ) (s : Side) (va : VirtualAddress) (x : Option ℕ) → SideIs n s → find s.cache.lines va ≡ x → SideIs n (cleaned_at s x).side
unfolding cleaned_at
clean_at_kept n s va None k e = k
clean_at_kept n s va (Some i) k e =
    let c = s.cache in
    let l = line_at c i in
    let f = found c.lines va i e in
    let d = k.cache in
    let new = alike_is n l (clean_line l) (d.lines i) f.valid refl refl refl in
    record {
      cache = record {
        shape = shape_with c i (clean_line l) d.shape;
        store_bytes = d.store_bytes;
        lines = lines_set c.lines i (clean_line l) d.shape.lines_long f.low n d.lines new;
        apart = alike c.lines i (clean_line l) d.shape.lines_long f.low d.apart refl refl;
        pointers = d.pointers;
      };
      backing = halves_kept n s.backing l c.store (i * 32) (d.lines i) d.store_bytes (omega (arith, d.shape.store_long, f.low)) k.backing;
    }

pub cleaned_kept : (n : ℕ) (s : Side) (va : VirtualAddress) → SideIs n s → SideIs n (cleaned s va).side
unfolding cleaned
cleaned_kept n s va k = clean_at_kept n s va (find s.cache.lines va) k refl

pub flush_at_kept : (n : ℕ) (c : Dcache) (va : VirtualAddress) (x : Option ℕ) → CacheIs n c → find c.lines va ≡ x → CacheIs n (flushed_at c x)
unfolding flushed_at
flush_at_kept n c va None k e = k
flush_at_kept n c va (Some i) k e =
    let f = found c.lines va i e in
    record {
      shape = shape_with c i empty_line k.shape;
      store_bytes = k.store_bytes;
      lines = lines_set c.lines i empty_line k.shape.lines_long f.low n k.lines (empty_is n);
      apart = empty_apart c.lines i empty_line k.shape.lines_long f.low refl k.apart;
      pointers = k.pointers;
    }

pub flushed_kept : (n : ℕ) (c : Dcache) (va : VirtualAddress) → CacheIs n c → CacheIs n (line_flushed c va)
unfolding line_flushed
flushed_kept n c va k = flush_at_kept n c va (find c.lines va) k refl

pub all_flushed_kept : (n : ℕ) (c : Dcache) → CacheIs n c → CacheIs n (all_flushed c)
unfolding all_flushed
all_flushed_kept n c k =
    record {
      shape = shape_all_flushed c k.shape;
      store_bytes = k.store_bytes;
      lines = λ i. rw (same_at 512 empty_line i) (empty_is n);
      apart = λ s i j p q r u. clash u (ap (λ (x : Line). x.valid) (same_at 512 empty_line (s * 32 + i)));
      pointers = k.pointers;
    }
