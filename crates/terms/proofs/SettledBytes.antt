-- Settled bytes stay settled when entries leave and enter; and what lies below the cache then, by the places of the backing.
use Rattle.std.specs.Prelude.{Option, Some, None}
use Prim.Native.Nat.{ℕ, zero, suc, ◌+◌, ◌-◌, ◌*◌, ◌/◌, ◌%◌, ◌<◌, ◌≤◌}
use native.Mathlib.Omega.{arith}
use mathlib.Core.Bool.{true, false, cond, not}
use mathlib.Core.Path.{◌≡◌, refl, sym, ◌∙◌, ap, subst}
use mathlib.Core.List.{List, [], ◌∷◌}
use lib.Bits.{bit_or}
use lib.Dec.{eqb, ltb}
use lib.ListN.{length, length-drop, length-replicate, get_or, get_or-replicate, set, take, drop, replicate}
use lib.Seq.{get_or-set_same, get_or-set_other, get_or-take, get_or-drop, length-take-le, ext_get_or}
use borrow.Author.Tests.{eqb-true, eqb-false, eq-eqb, ltb-true, ltb-false}
use Rattle.values.specs.Addresses.{block_of}
use Rattle.values.specs.Empty.{empty_slot}
use Rattle.values.specs.Bits.{bit}
use Rattle.values.specs.declared.PhysicalAddress.{PhysicalAddress}
use Rattle.values.specs.declared.Slot.{Slot}
use Rattle.values.proofs.Anys.{any_means}
use Rattle.values.proofs.Cases.{case, clash, and_left, and_right, and_both, and_no, or_cases, or_none}
use Rattle.words.specs.Words.{stored}
use Rattle.bus.specs.Physical.{is_bad}
use Rattle.words.proofs.Laws.{byte_before, byte_behind}
use Rattle.buffer.specs.Buffer.{Backing, slot_at, oldest_left, drained, behind, pushed, half_pushed, newest_of, mask_of, joined, new_slot, stored_at}
use Rattle.buffer.specs.Buffer.{buffered, masks, meets, holds}
use Rattle.buffer.proofs.Joining.{newest_below}
use Rattle.buffer.proofs.Below.{lands, over, below, laid_slot, bad_lands, unmasked_lands, lands_masks, empty_masks, Behind, Good, drained_below, drained_memory}
use Rattle.buffer.proofs.Lengths.{memory_behind, slot_oldest, used_oldest, slot_drained, slot_behind, slot_other}
use Rattle.buffer.proofs.StoredBelow.{or_bit, mask_before, mask_in, mask_behind, laid_over, as_stored, newest_block, over_away, half_below, buffered_below}
use Rattle.soundness_laws.proofs.BackingKept.{BackingIs, oldest_kept}
use Rattle.terms.proofs.Invariant.{SettledAt}

-- byte x is none of the w bytes from a on
abbrev pub Outside : ℕ → ℕ → ℕ → Type 0
Outside a w x = a ≤ x → x < a + w → ⊥

-- ---- the places of a backing

good_of : (u long : ℕ) (l : List Slot) → u ≤ length l → ((i : ℕ) → i < u → length (get_or l i empty_slot).bytes ≡ 16)
    → ((i : ℕ) → i < u → (get_or l i empty_slot).block * 16 + 16 ≤ long) → Good u long l
unfolding Good
good_of zero long l h f g = tt
good_of (suc u) long [] h f g = absurd (omega arith)
good_of (suc u) long (s ∷ ss) h f g =
    (f 0 (omega arith), g 0 (omega arith), good_of u long ss (omega arith) (λ i p. f (suc i) (omega arith)) (λ i p. g (suc i) (omega arith)))

module _ (n : ℕ) (b : Backing) (k : BackingIs n b) where
  -- as the laws of the buffer ask it: the entries are good, and the places behind them are empty
  good : Good b.buffer.used (length b.memory) b.buffer.slots
  good =
      good_of b.buffer.used (length b.memory) b.buffer.slots (omega (arith, k.shape.places, k.shape.low)) (λ i h. k.shape.sixteen i)
      (λ i h. let e = k.memory_long in let q = (k.entries i h).sound.inside in omega arith)

  rest : Behind b.buffer.slots b.buffer.used
  rest =
      let l = b.buffer.slots in
      let u = b.buffer.used in
      ext_get_or empty_slot (drop u l) (replicate (length l - u) empty_slot) (length-drop u l ∙ sym (length-replicate (length l - u) empty_slot))
      (λ i h.
      let q : length (drop u l) ≡ length l - u = length-drop u l in
      get_or-drop u l i empty_slot ∙ k.empties (u + i) (omega arith) ∙ sym (get_or-replicate (length l - u) i empty_slot empty_slot (omega arith)))

  -- a place behind the entries masks nothing
  empty_place : (i x : ℕ) → b.buffer.used ≤ i → masks (slot_at b.buffer i) x ≡ false
  empty_place i x h = ap (λ (s : Slot). masks s x) (k.empties i h) ∙ empty_masks x

-- ---- what lies below the cache

-- entries over a byte, when each of which it goes to memory holds the same
over_same : (bad : List ℕ) (l : List Slot) (x y v : ℕ) → y ≡ v
    → ((j : ℕ) → lands bad (get_or l j empty_slot) x ≡ true → get_or (get_or l j empty_slot).bytes (x % 16) 0 ≡ v) → over bad l x y ≡ v
unfolding over
over_same bad [] x y v e f = e
over_same bad (s ∷ ss) x y v e f =
    over_same bad ss x (cond (lands bad s x) (get_or s.bytes (x % 16) 0) y) v (case (lands bad s x) (λ t. rw t (f 0 t)) (λ t. rw t e)) (λ j. f (suc j))

pub settled_over : (b : Backing) (pm : List ℕ) (x : ℕ) → SettledAt b pm x → below b x ≡ get_or pm x 0
settled_over b pm x s = over_same b.bad b.buffer.slots x (get_or b.memory x 0) (get_or pm x 0) s.in_memory s.in_entries

-- the plain machine's memory may change elsewhere
pub settled_same : (b : Backing) (pm qm : List ℕ) (x : ℕ) → get_or pm x 0 ≡ get_or qm x 0 → SettledAt b pm x → SettledAt b qm x
settled_same b pm qm x e s = record { in_memory = s.in_memory ∙ e; in_entries = λ j t. s.in_entries j t ∙ e }

-- ---- a drain

module _ (n : ℕ) (b : Backing) (k : BackingIs n b) where
  pub drained_over : (x : ℕ) → below (drained b) x ≡ below b x
  drained_over x = drained_below b (good n b k) x

  pub drained_byte : (x : ℕ) → get_or (drained b).memory x 0 ≡ below b x
  drained_byte x = drained_memory b (good n b k) (omega (arith, k.shape.places, k.shape.low)) (rest n b k) x

  -- no place masks a byte
  pub drained_none : (j x : ℕ) → lands (drained b).bad (slot_at (drained b).buffer j) x ≡ false
  drained_none j x =
      unmasked_lands (drained b).bad (slot_at (drained b).buffer j) x
      (ap (λ (s : Slot). masks s x) (slot_drained b j) ∙ empty_place n b k (b.buffer.used + j) x (omega arith))

-- ---- a read that no entry meets

-- no byte read is masked
meets_none : (c a x : ℕ) (s : Slot) → meets c a s ≡ false → a ≤ x → x < a + c → masks s x ≡ false
unfolding meets
meets_none zero a x s e h l = absurd (omega arith)
meets_none (suc c) a x s e h l =
    let q = or_none (masks s a) (meets c (a + 1) s) e in
    case (eqb a x)
    (λ t. let r : a ≡ x = eqb-true a x t in subst (λ (y : ℕ). masks s y ≡ false) r q.0)
    (λ t. meets_none c (a + 1) x s q.1 (next (eqb-false a x t)) (omega arith))
  where
    next : (a ≡ x → ⊥) → a + 1 ≤ x
    next r = omega arith

-- what lies below the cache is memory's byte
pub unmet_below : (n : ℕ) (b : Backing) (k : BackingIs n b) (a c x : ℕ) → holds b.buffer a c ≡ false → a ≤ x → x < a + c → get_or b.memory x 0 ≡ below b x
unfolding holds
unmet_below n b k a c x e h l =
    let u = b.buffer.used in
    let ss = b.buffer.slots in
    let long : length (take u ss) ≡ u = length-take-le u ss (omega (arith, k.shape.places, k.shape.low)) in
    sym
    (over_away b.bad ss x (get_or b.memory x 0)
    (λ j g.
    case (ltb j u)
    (λ t.
    let q = ltb-true j u t in
    meets_none c a x (slot_at b.buffer j)
    (ap (meets c a) (sym (get_or-take u ss j empty_slot q)) ∙ any_means (meets c a) empty_slot (take u ss) e j (omega arith)) h l)
    (λ t. empty_place n b k j x (ltb-false j u t))))

-- ---- an entry pushed

module _ (n : ℕ) (b : Backing) (k : BackingIs n b) (pm : List ℕ) (x : ℕ) (s : SettledAt b pm x) where
  settled_oldest : 0 < b.buffer.used → SettledAt (oldest_left b) pm x
  unfolding oldest_left
  settled_oldest h =
      let o = slot_at b.buffer 0 in
      record {
        in_memory =
            laid_slot b.bad o b.memory x (k.shape.sixteen 0) (let e = k.memory_long in let i = (k.entries 0 h).sound.inside in omega arith)
            ∙ case (lands b.bad o x) (λ t. rw t (s.in_entries 0 t)) (λ t. rw t s.in_memory);
        in_entries = λ j t.
            ap (λ (r : Slot). get_or r.bytes (x % 16) 0) (slot_oldest b j)
            ∙ s.in_entries (suc j) (ap (λ (r : Slot). lands b.bad r x) (sym (slot_oldest b j)) ∙ t);
      }

  module _ (new : Slot) (f : lands b.bad new x ≡ true → get_or new.bytes (x % 16) 0 ≡ get_or pm x 0) where
    settled_behind : b.buffer.used < 8 → SettledAt (behind b new) pm x
    unfolding behind
    settled_behind h =
        let u = b.buffer.used in
        record {
          in_memory = ap (λ (m : List ℕ). get_or m x 0) (memory_behind b new) ∙ s.in_memory;
          in_entries = λ j t.
              case (eqb j u)
              (λ v.
              let e : slot_at (behind b new).buffer j ≡ new =
              ap (slot_at (behind b new).buffer) (eqb-true j u v) ∙ slot_behind b new (omega (arith, k.shape.places)) in
              ap (λ (r : Slot). get_or r.bytes (x % 16) 0) e ∙ f (ap (λ (r : Slot). lands b.bad r x) (sym e) ∙ t))
              (λ v.
              let e : slot_at (behind b new).buffer j ≡ slot_at b.buffer j = slot_other b new j (eqb-false j u v) in
              ap (λ (r : Slot). get_or r.bytes (x % 16) 0) e ∙ s.in_entries j (ap (λ (r : Slot). lands b.bad r x) (sym e) ∙ t));
        }

settled_pushed : (n : ℕ) (b : Backing) (k : BackingIs n b) (pm : List ℕ) (x : ℕ) → SettledAt b pm x → (new : Slot)
    → (lands b.bad new x ≡ true → get_or new.bytes (x % 16) 0 ≡ get_or pm x 0) → SettledAt (pushed b new) pm x
unfolding pushed oldest_left
settled_pushed n b k pm x s new f =
    let u = used_oldest b in
    let l = k.shape.low in
    case (ltb b.buffer.used 8)
    (λ t. rw t (settled_behind n b k pm x s new f (ltb-true b.buffer.used 8 t)))
    (λ t.
    let q = ltb-false b.buffer.used 8 t in
    rw t (settled_behind n (oldest_left b) (oldest_kept n b k) pm x (settled_oldest n b k pm x s (omega arith)) new f (omega arith)))

-- ---- a half pushed

module _ (n : ℕ) (b : Backing) (k : BackingIs n b) (block : ℕ) (bytes : List ℕ) where
  pub half_over : (x : ℕ) → (x / 16 ≡ block → is_bad b.bad (x / 4) ≡ false)
      → below (half_pushed b block bytes) x ≡ cond (eqb (x / 16) block) (get_or bytes (x % 16) 0) (below b x)
  half_over x =
      half_below b.memory b.bad b.buffer.slots b.buffer.used k.shape.places k.shape.low (rest n b k) (good n b k) block bytes x

  pub settled_half : (pm : List ℕ) (x : ℕ) → (x / 16 ≡ block → get_or bytes (x % 16) 0 ≡ get_or pm x 0) → SettledAt b pm x
      → SettledAt (half_pushed b block bytes) pm x
  unfolding half_pushed
  settled_half pm x h s =
      let new : Slot = record { block = block; mask = 0xFFFF; bytes = bytes } in
      settled_pushed n b k pm x s new
      (λ t. h (eqb-true (x / 16) block (and_left (eqb (x / 16) block) (bit 0xFFFF (x % 16)) (lands_masks b.bad new x t))))

-- ---- a store buffered

-- a byte outside a store is as it was
pub outside_stored : (w : ℕ) (m : List ℕ) (a v x : ℕ) → Outside a w x → get_or (stored w m a v) x 0 ≡ get_or m x 0
outside_stored w m a v x o =
    case (ltb x a)
    (λ t. byte_before w m a v x (ltb-true x a t))
    (λ t.
    case (ltb x (a + w))
    (λ u. absurd (o (ltb-false x a t) (ltb-true x (a + w) u)))
    (λ u. byte_behind w m a v x (ltb-false x (a + w) u)))

module _ (a w v : ℕ) (fits : a % 16 + w ≤ 16) (x : ℕ) where
  -- the mask of a store, and a new entry of it, have the bytes of the store alone
  mask_outside : Outside a w x → x / 16 ≡ a / 16 → bit (mask_of w (a % 16)) (x % 16) ≡ false
  mask_outside o e =
      case (ltb (x % 16) (a % 16))
      (λ t. mask_before w (a % 16) (x % 16) (ltb-true (x % 16) (a % 16) t))
      (λ t.
      case (ltb (x % 16) (a % 16 + w))
      (λ u.
      let p = ltb-false (x % 16) (a % 16) t in
      let q = ltb-true (x % 16) (a % 16 + w) u in
      absurd (o (omega arith) (omega arith)))
      (λ u. mask_behind w (a % 16) (x % 16) (ltb-false (x % 16) (a % 16 + w) u)))

  new_outside : Outside a w x → masks (new_slot (a / 16) w (a % 16) v) x ≡ false
  new_outside o =
      case (eqb (x / 16) (a / 16))
      (λ t. rw t (mask_outside o (eqb-true (x / 16) (a / 16) t)))
      (λ t. rw t)

  new_inside : masks (new_slot (a / 16) w (a % 16) v) x ≡ false → Outside a w x
  new_inside e h l =
      let q : x / 16 ≡ a / 16 = omega arith in
      clash (rw (eq-eqb (x / 16) (a / 16) q) (mask_in w (a % 16) (x % 16) (omega arith) (omega arith))) e

  -- an entry of the block, joined, masks the bytes outside the store that it masked, and holds what it held
  module _ (s : Slot) (same : s.block ≡ a / 16) (o : Outside a w x) where
    joined_masks : masks (joined s w (a % 16) v) x ≡ true → masks s x ≡ true
    unfolding joined
    joined_masks t =
        let here = eqb (x / 16) s.block in
        let p : here ≡ true = and_left here (bit (bit_or s.mask (mask_of w (a % 16))) (x % 16)) t in
        let q = and_right here (bit (bit_or s.mask (mask_of w (a % 16))) (x % 16)) t in
        let m = mask_outside o (eqb-true (x / 16) s.block p ∙ same) in
        and_both here (bit s.mask (x % 16)) p
        (or_cases (bit s.mask (x % 16)) (bit (mask_of w (a % 16)) (x % 16)) (sym (or_bit s.mask (mask_of w (a % 16)) (x % 16)) ∙ q) (λ y. y)
        (λ y. clash y m))

    joined_byte : masks (joined s w (a % 16) v) x ≡ true → get_or (joined s w (a % 16) v).bytes (x % 16) 0 ≡ get_or s.bytes (x % 16) 0
    unfolding joined
    joined_byte t =
        let here = and_left (eqb (x / 16) s.block) (bit (bit_or s.mask (mask_of w (a % 16))) (x % 16)) t in
        let e : x / 16 ≡ a / 16 = eqb-true (x / 16) s.block here ∙ same in
        outside_stored w s.bytes (a % 16) v (x % 16) (λ h l. o (omega arith) (omega arith))

-- a byte that the store does not bring to memory, because it lies outside the store or in a bad word
pub settled_buffered : (n : ℕ) (b : Backing) (k : BackingIs n b) (pm : List ℕ) (pa : PhysicalAddress) (w v x : ℕ) → pa.0 % 16 + w ≤ 16
    → lands b.bad (new_slot (block_of pa) w (pa.0 % 16) v) x ≡ false → SettledAt b pm x → SettledAt (buffered b pa w v) pm x
unfolding buffered
settled_buffered n b k pm pa w v x fits o s = by (newest_of b.buffer.slots (block_of pa) b.buffer.used) refl
  where
    by : (y : Option ℕ) → newest_of b.buffer.slots (block_of pa) b.buffer.used ≡ y → SettledAt (stored_at b (block_of pa) w (pa.0 % 16) v y) pm x
    by None e =
        settled_pushed n b k pm x s (new_slot (block_of pa) w (pa.0 % 16) v) (λ t. clash t o)
    by (Some i) e =
        let l = b.buffer.slots in
        let old = slot_at b.buffer i in
        let new = joined old w (pa.0 % 16) v in
        let low = newest_below l (block_of pa) b.buffer.used i e in
        let same : old.block ≡ block_of pa = newest_block l (block_of pa) b.buffer.used i e in
        let is-good = not (is_bad b.bad (x / 4)) in
        record {
          in_memory = s.in_memory;
          in_entries = λ j t.
              case (eqb j i)
              (λ u.
              let q : get_or (set l i new) j empty_slot ≡ new =
              ap (λ (y : ℕ). get_or (set l i new) y empty_slot) (eqb-true j i u)
              ∙ get_or-set_same l i new empty_slot (omega (arith, k.shape.places, k.shape.low)) in
              let m : lands b.bad new x ≡ true = ap (λ (r : Slot). lands b.bad r x) (sym q) ∙ t in
              let g : is-good ≡ true = and_left is-good (masks new x) m in
              let out : Outside pa.0 w x =
              new_inside pa.0 w v fits x (and_no is-good (masks (new_slot (block_of pa) w (pa.0 % 16) v) x) g o) in
              ap (λ (r : Slot). get_or r.bytes (x % 16) 0) q
              ∙ joined_byte pa.0 w v fits x old same out (lands_masks b.bad new x m)
              ∙ s.in_entries i (and_both is-good (masks old x) g (joined_masks pa.0 w v fits x old same out (lands_masks b.bad new x m))))
              (λ u.
              let q : get_or (set l i new) j empty_slot ≡ slot_at b.buffer j = get_or-set_other l i j new empty_slot (eqb-false j i u) in
              ap (λ (r : Slot). get_or r.bytes (x % 16) 0) q ∙ s.in_entries j (ap (λ (r : Slot). lands b.bad r x) (sym q) ∙ t));
        }

-- a byte outside a store
pub outside_lands : (bad : List ℕ) (pa : PhysicalAddress) (w v x : ℕ) → pa.0 % 16 + w ≤ 16 → Outside pa.0 w x
    → lands bad (new_slot (block_of pa) w (pa.0 % 16) v) x ≡ false
outside_lands bad pa w v x fits o = unmasked_lands bad (new_slot (block_of pa) w (pa.0 % 16) v) x (new_outside pa.0 w v fits x o)

-- a store to a bad word brings no byte to memory
pub bad_store_lands : (bad : List ℕ) (pa : PhysicalAddress) (w v x : ℕ) → pa.0 % 4 + w ≤ 4 → is_bad bad (pa.0 / 4) ≡ true
    → lands bad (new_slot (block_of pa) w (pa.0 % 16) v) x ≡ false
bad_store_lands bad pa w v x fits g =
    let new = new_slot (block_of pa) w (pa.0 % 16) v in
    case (masks new x)
    (λ t.
    case (is_bad bad (x / 4))
    (λ u. bad_lands bad new x u)
    (λ u. let e : x / 4 ≡ pa.0 / 4 = in_word t in clash (ap (is_bad bad) e ∙ g) u))
    (λ t. unmasked_lands bad new x t)
  where
    in_word : masks (new_slot (block_of pa) w (pa.0 % 16) v) x ≡ true → x / 4 ≡ pa.0 / 4
    in_word t =
        case (ltb x pa.0)
        (λ u. clash t (new_outside pa.0 w v (omega arith) x (λ h l. let q = ltb-true x pa.0 u in omega arith)))
        (λ u.
        case (ltb x (pa.0 + w))
        (λ r. let q = ltb-false x pa.0 u in let z = ltb-true x (pa.0 + w) r in omega arith)
        (λ r. clash t (new_outside pa.0 w v (omega arith) x (λ h l. let q = ltb-false x (pa.0 + w) r in omega arith))))

pub buffered_over : (n : ℕ) (b : Backing) (k : BackingIs n b) (pa : PhysicalAddress) (w v x : ℕ) → pa.0 % 16 + w ≤ 16
    → below (buffered b pa w v) x ≡ laid_over b.bad (new_slot (block_of pa) w (pa.0 % 16) v) x (below b x)
buffered_over n b k pa w v x fits =
    buffered_below b.memory b.bad b.buffer.slots b.buffer.used k.shape.places k.shape.low (rest n b k) (good n b k) pa w v x fits

-- over what lies below the cache, a new entry of a store gives what the store to the plain machine's memory gives
pub new_stored : (bad pm : List ℕ) (a w v x y : ℕ) → a % 16 + w ≤ 16 → a + w ≤ length pm → (a ≤ x → x < a + w → is_bad bad (x / 4) ≡ false)
    → (Outside a w x → y ≡ get_or pm x 0) → laid_over bad (new_slot (a / 16) w (a % 16) v) x y ≡ get_or (stored w pm a v) x 0
new_stored bad pm a w v x y fits long good h =
    let s = new_slot (a / 16) w (a % 16) v in
    case (masks s x)
    (λ t.
    case (is_bad bad (x / 4))
    (λ u. let o : Outside a w x = λ p q. clash u (good p q) in clash t (new_outside a w v fits x o))
    (λ u. same s y (get_or pm x 0) (rw (u, t))))
    (λ t. ap (λ (z : ℕ). laid_over bad s x z) (h (new_inside a w v fits x t)))
    ∙ as_stored bad pm a w v x fits long good
  where
    same : (s : Slot) (y z : ℕ) → lands bad s x ≡ true → laid_over bad s x y ≡ laid_over bad s x z
    same s y z t = rw t
