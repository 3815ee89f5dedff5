-- What a store and a half do to the bytes below the cache: the bytes masked in change, and no other.
use Rattle.std.specs.Prelude.{Option, Some, None}
use Prim.Native.Nat.{ℕ, zero, suc, ◌+◌, ◌-◌, ◌*◌, ◌/◌, ◌%◌, ◌^◌, ◌<◌, ◌≤◌}
use native.Mathlib.Omega.{arith}
use native.Mathlib.Nat.{zero-add, mul-one, mul_assoc, pow-suc, zero-div}
use mathlib.Core.Bool.{Bool, true, false, cond, ◌||◌}
use mathlib.Core.Path.{◌≡◌, refl, sym, ◌∙◌, ap, subst}
use mathlib.Core.List.{List, [], ◌∷◌, ◌++◌}
use lib.Bits.{bit_or, or_shr, or_mod}
use lib.Dec.{eqb, ltb}
use lib.ListN.{length, length-append, get_or, take, drop, replicate, get_or-replicate, replicate-append-replicate}
use lib.Pow.{pow_pos}
use lib.Seq.{set_split, split_at, get_or-drop, drop-append-le}
use borrow.Author.Tests.{eqb-true, eqb-false, eq-eqb, ltb-true, ltb-false}
use Rattle.values.specs.Bits.{bit}
use Rattle.values.specs.Empty.{empty_slot}
use Rattle.values.specs.Addresses.{block_of}
use Rattle.values.specs.declared.PhysicalAddress.{PhysicalAddress}
use Rattle.values.specs.declared.Slot.{Slot}
use Rattle.values.proofs.Cases.{case}
use Rattle.words.specs.Words.{stored}
use Rattle.words.proofs.Laws.{byte_before, byte_behind, byte_in}
use Rattle.bus.specs.Physical.{is_bad}
use Rattle.buffer.specs.Buffer.{masks, oldest_left, leaving, pushed, half_pushed, newest_of, mask_of, joined, new_slot, stored_at, buffered}
use Rattle.buffer.proofs.Below.{lands, over, below, unmasked_lands, over_append, empty_masks, half_bit, Behind, behind_below}
use Rattle.buffer.proofs.Below.{Good, with_slots, leaving_below}
use Rattle.buffer.proofs.Joining.{newest_below}

-- ---- bits of a mask

-- a bit of two masks together
pub or_bit : (a b k : ℕ) → bit (bit_or a b) k ≡ (bit a k || bit b k)
or_bit a b k =
    ap (λ (n : ℕ). eqb (n % 2) 1) (or_shr a b k) ∙ ap (λ (n : ℕ). eqb n 1) (or_mod (a / 2 ^ k) (b / 2 ^ k) 1)
    ∙ low (a / 2 ^ k) (b / 2 ^ k)
  where
    zero_if : (n : ℕ) → eqb (n % 2) 1 ≡ false → n % 2 ≡ 0
    zero_if n t = let q = eqb-false (n % 2) 1 t in even q
      where
        even : (n % 2 ≡ 1 → ⊥) → n % 2 ≡ 0
        even q = omega arith

    low : (x y : ℕ) → eqb (bit_or (x % 2) (y % 2)) 1 ≡ (eqb (x % 2) 1 || eqb (y % 2) 1)
    low x y =
        case (eqb (x % 2) 1)
        (λ t. case (eqb (y % 2) 1) (λ u. rw (eqb-true (x % 2) 1 t, eqb-true (y % 2) 1 u)) (λ u. rw (eqb-true (x % 2) 1 t, zero_if y u)))
        (λ t. case (eqb (y % 2) 1) (λ u. rw (zero_if x t, eqb-true (y % 2) 1 u)) (λ u. rw (zero_if x t, zero_if y u)))

-- bit 0 of an even and of an odd number
even_bit : (n : ℕ) → n % 2 ≡ 0 → bit n 0 ≡ false
even_bit n e = let q : n / 1 % 2 ≡ 0 = omega arith in rw q

odd_bit : (n : ℕ) → n % 2 ≡ 1 → bit n 0 ≡ true
odd_bit n e = let q : n / 1 % 2 ≡ 1 = omega arith in rw q

-- the mask one place higher is twice the mask
mask_up : (w o : ℕ) → mask_of w (suc o) ≡ mask_of w o * 2
mask_up w o = ap (λ (y : ℕ). (2 ^ w - 1) * y) (pow-suc 2 o) ∙ sym (mul_assoc (2 ^ w - 1) (2 ^ o) 2)

-- a bit of twice a number, and of one more
twice_bit : (n k : ℕ) → bit (n * 2) (suc k) ≡ bit n k
twice_bit n k = let e : n * 2 / 2 ≡ n = omega arith in sym (half_bit (n * 2) k) ∙ ap (λ (m : ℕ). bit m k) e

odd_up : (n k : ℕ) → bit (n * 2 + 1) (suc k) ≡ bit n k
odd_up n k = let e : (n * 2 + 1) / 2 ≡ n = omega arith in sym (half_bit (n * 2 + 1) k) ∙ ap (λ (m : ℕ). bit m k) e

-- one more low bit
ones_up : (w : ℕ) → 2 ^ suc w - 1 ≡ (2 ^ w - 1) * 2 + 1
ones_up w = let e = pow-suc 2 w in let h = pow_pos w in ap (λ (y : ℕ). y - 1) e ∙ next (2 ^ w) h
  where
    next : (y : ℕ) → 0 < y → y * 2 - 1 ≡ (y - 1) * 2 + 1
    next y h = omega arith

pub ones_in : (w k : ℕ) → k < w → bit (2 ^ w - 1) k ≡ true
ones_in zero k h = absurd (omega arith)
ones_in (suc w) zero h = ap (λ (n : ℕ). bit n 0) (ones_up w) ∙ odd_bit ((2 ^ w - 1) * 2 + 1) (odd (2 ^ w - 1))
  where
    odd : (n : ℕ) → (n * 2 + 1) % 2 ≡ 1
    odd n = omega arith
ones_in (suc w) (suc k) h = ap (λ (n : ℕ). bit n (suc k)) (ones_up w) ∙ odd_up (2 ^ w - 1) k ∙ ones_in w k (omega arith)

pub ones_behind : (w k : ℕ) → w ≤ k → bit (2 ^ w - 1) k ≡ false
ones_behind zero k h = rw (zero-div (2 ^ k))
ones_behind (suc w) zero h = absurd (omega arith)
ones_behind (suc w) (suc k) h = ap (λ (n : ℕ). bit n (suc k)) (ones_up w) ∙ odd_up (2 ^ w - 1) k ∙ ones_behind w k (omega arith)

-- the mask of an access has the bits from the offset on, as many as the width
pub mask_before : (w o k : ℕ) → k < o → bit (mask_of w o) k ≡ false
mask_before w zero k h = absurd (omega arith)
mask_before w (suc o) zero h = ap (λ (n : ℕ). bit n 0) (mask_up w o) ∙ even_bit (mask_of w o * 2) (even (mask_of w o))
  where
    even : (n : ℕ) → n * 2 % 2 ≡ 0
    even n = omega arith
mask_before w (suc o) (suc k) h = ap (λ (n : ℕ). bit n (suc k)) (mask_up w o) ∙ twice_bit (mask_of w o) k ∙ mask_before w o k (omega arith)

mask_at : (w o k : ℕ) → bit (mask_of w o) (o + k) ≡ bit (2 ^ w - 1) k
mask_at w zero k = rw (mul-one (2 ^ w - 1), zero-add k)
mask_at w (suc o) k =
    let e : suc o + k ≡ suc (o + k) = omega arith in
    ap (λ (n : ℕ). bit (mask_of w (suc o)) n) e ∙ ap (λ (n : ℕ). bit n (suc (o + k))) (mask_up w o) ∙ twice_bit (mask_of w o) (o + k) ∙ mask_at w o k

pub mask_in : (w o k : ℕ) → o ≤ k → k < o + w → bit (mask_of w o) k ≡ true
mask_in w o k h l =
    let e : o + (k - o) ≡ k = omega arith in
    ap (λ (n : ℕ). bit (mask_of w o) n) (sym e) ∙ mask_at w o (k - o) ∙ ones_in w (k - o) (omega arith)

pub mask_behind : (w o k : ℕ) → o + w ≤ k → bit (mask_of w o) k ≡ false
mask_behind w o k h =
    let e : o + (k - o) ≡ k = omega arith in
    ap (λ (n : ℕ). bit (mask_of w o) n) (sym e) ∙ mask_at w o (k - o) ∙ ones_behind w (k - o) (omega arith)

-- ---- a store that joins an entry

-- the byte that an entry leaves over x
abbrev pub laid_over : List ℕ → Slot → ℕ → ℕ → ℕ
laid_over bad s p x = cond (lands bad s p) (get_or s.bytes (p % 16) 0) x

-- joined, an entry holds the bytes of the store over its own
pub joined_over : (bad : List ℕ) (s : Slot) (w o v p x : ℕ) → length s.bytes ≡ 16 → o + w ≤ 16
    → laid_over bad (joined s w o v) p x ≡ laid_over bad (new_slot s.block w o v) p (laid_over bad s p x)
unfolding joined
joined_over bad s w o v p x n h =
    case (is_bad bad (p / 4))
    (λ g. rw g)
    (λ g.
    case (eqb (p / 16) s.block)
    (λ t. rw (g, t, or_bit s.mask (mask_of w o) (p % 16)) (here (p % 16)))
    (λ t. rw (g, t)))
  where
    here : (k : ℕ) → cond (bit s.mask k || bit (mask_of w o) k) (get_or (stored w s.bytes o v) k 0) x
        ≡ cond (bit (mask_of w o) k) (get_or (stored w (replicate 16 0) o v) k 0) (cond (bit s.mask k) (get_or s.bytes k 0) x)
    here k =
        case (ltb k o)
        (λ t.
        let q = ltb-true k o t in
        rw (mask_before w o k q, byte_before w s.bytes o v k q) (or_false (bit s.mask k) (get_or s.bytes k 0)))
        (λ t.
        let q = ltb-false k o t in
        case (ltb k (o + w))
        (λ u.
        let r = ltb-true k (o + w) u in
        rw (mask_in w o k q r, same q r) (or-true (bit s.mask k) (get_or (stored w (replicate 16 0) o v) k 0)))
        (λ u.
        let r = ltb-false k (o + w) u in
        rw (mask_behind w o k r, byte_behind w s.bytes o v k r) (or_false (bit s.mask k) (get_or s.bytes k 0))))
      where
        same : o ≤ k → k < o + w → get_or (stored w s.bytes o v) k 0 ≡ get_or (stored w (replicate 16 0) o v) k 0
        same q r =
            let e : o + (k - o) ≡ k = omega arith in
            subst (λ (i : ℕ). get_or (stored w s.bytes o v) i 0 ≡ get_or (stored w (replicate 16 0) o v) i 0) e
            (byte_in w s.bytes (replicate 16 0) o o v (k - o) (omega arith) (omega arith) h)

        or_false : (b : Bool) (y : ℕ) → cond (b || false) y x ≡ cond b y x
        or_false true y = refl
        or_false false y = refl

        or-true : (b : Bool) (y : ℕ) → cond (b || true) y x ≡ y
        or-true true y = refl
        or-true false y = refl

-- over bytes, a new entry of a store gives what the store to them gives
pub as_stored : (bad m : List ℕ) (pa w v p : ℕ) → pa % 16 + w ≤ 16 → pa + w ≤ length m → (pa ≤ p → p < pa + w → is_bad bad (p / 4) ≡ false)
    → laid_over bad (new_slot (pa / 16) w (pa % 16) v) p (get_or m p 0) ≡ get_or (stored w m pa v) p 0
as_stored bad m pa w v p h k good =
    case (ltb p pa)
    (λ t. let q = ltb-true p pa t in outside (before q) ∙ sym (byte_before w m pa v p q))
    (λ t.
    let q = ltb-false p pa t in
    case (ltb p (pa + w))
    (λ u.
    let r = ltb-true p (pa + w) u in
    let e : p / 16 ≡ pa / 16 = omega arith in
    let i : pa % 16 + (p - pa) ≡ p % 16 = omega arith in
    let j : pa + (p - pa) ≡ p = omega arith in
    rw (good q r, eq-eqb (p / 16) (pa / 16) e, mask_in w (pa % 16) (p % 16) (omega arith) (omega arith))
    (ap (λ (x : ℕ). get_or (stored w (replicate 16 0) (pa % 16) v) x 0) (sym i)
    ∙ byte_in w (replicate 16 0) m (pa % 16) pa v (p - pa) (omega arith) h k
    ∙ ap (λ (x : ℕ). get_or (stored w m pa v) x 0) j))
    (λ u. let r = ltb-false p (pa + w) u in outside (after r) ∙ sym (byte_behind w m pa v p r)))
  where
    outside : masks (new_slot (pa / 16) w (pa % 16) v) p ≡ false → laid_over bad (new_slot (pa / 16) w (pa % 16) v) p (get_or m p 0) ≡ get_or m p 0
    outside e = rw (unmasked_lands bad (new_slot (pa / 16) w (pa % 16) v) p e)

    before : p < pa → masks (new_slot (pa / 16) w (pa % 16) v) p ≡ false
    before q =
        case (eqb (p / 16) (pa / 16))
        (λ t. let e = eqb-true (p / 16) (pa / 16) t in rw (t, mask_before w (pa % 16) (p % 16) (omega arith)))
        (λ t. rw t)

    after : pa + w ≤ p → masks (new_slot (pa / 16) w (pa % 16) v) p ≡ false
    after r =
        case (eqb (p / 16) (pa / 16))
        (λ t. let e = eqb-true (p / 16) (pa / 16) t in rw (t, mask_behind w (pa % 16) (p % 16) (omega arith)))
        (λ t. rw t)

-- ---- the entries behind the newest of a block

-- each entry behind it has another block
pub newest_later : (slots : List Slot) (block n i k : ℕ) → newest_of slots block n ≡ Some i → i < k → k < n → eqb (get_or slots k empty_slot).block block ≡ false
unfolding newest_of
newest_later slots block zero i k e h l = absurd (omega arith)
newest_later slots block (suc n) i k e h l =
    case (eqb (get_or slots n empty_slot).block block)
    (λ t. let f : Some n ≡ Some i = rw t at e in let q : n ≡ i = cc in absurd (omega arith))
    (λ t.
    case (eqb k n)
    (λ u. let q : k ≡ n = eqb-true k n u in rw q t)
    (λ u. let q = eqb-false k n u in newest_later slots block n i k (rw t at e) h (under q)))
  where
    under : (k ≡ n → ⊥) → k < n
    under q = omega arith

-- it has the block
pub newest_block : (slots : List Slot) (block n i : ℕ) → newest_of slots block n ≡ Some i → (get_or slots i empty_slot).block ≡ block
unfolding newest_of
newest_block slots block zero i e = let z : ◌≡◌ {A = ℕ} 0 1 = cc in absurd (omega arith)
newest_block slots block (suc n) i e =
    case (eqb (get_or slots n empty_slot).block block)
    (λ t. let f : Some n ≡ Some i = rw t at e in let q : n ≡ i = cc in subst (λ (k : ℕ). (get_or slots k empty_slot).block ≡ block) q
    (eqb-true (get_or slots n empty_slot).block block t))
    (λ t. newest_block slots block n i (rw t at e))

-- entries of which none masks the byte
pub over_away : (bad : List ℕ) (l : List Slot) (p z : ℕ) → ((j : ℕ) → j < length l → masks (get_or l j empty_slot) p ≡ false) → over bad l p z ≡ z
unfolding over
over_away bad [] p z f = refl
over_away bad (s ∷ ss) p z f =
    let e : lands bad s p ≡ false = unmasked_lands bad s p (f 0 (omega arith)) in
    ap (λ (b : Bool). over bad ss p (cond b (get_or s.bytes (p % 16) 0) z)) e ∙ over_away bad ss p z (λ j h. f (suc j) (omega arith))

through : (bad : List ℕ) (s : Slot) (ts hs : List Slot) (p x : ℕ) → over bad (hs ++ s ∷ ts) p x ≡ over bad ts p (laid_over bad s p (over bad hs p x))
unfolding over
through bad s ts hs p x = over_append bad hs (s ∷ ts) p x

get_d_out : {A : Type 0} (l : List A) (k : ℕ) (d : A) → length l ≤ k → get_or l k d ≡ d
get_d_out [] k d h = refl
get_d_out (x ∷ xs) zero d h = absurd (omega arith)
get_d_out (x ∷ xs) (suc k) d h = get_d_out xs k d (omega arith)

-- the places from `used` on are empty
pub place_empty : (l : List Slot) (used k : ℕ) → Behind l used → used ≤ k → k < length l → get_or l k empty_slot ≡ empty_slot
place_empty l used k e h f =
    let q : used + (k - used) ≡ k = omega arith in
    ap (λ (j : ℕ). get_or l j empty_slot) (sym q) ∙ sym (get_or-drop used l (k - used) empty_slot)
    ∙ ap (λ (r : List Slot). get_or r (k - used) empty_slot) e ∙ get_or-replicate (length l - used) (k - used) empty_slot empty_slot (omega arith)

-- ---- "a store joins the newest entry of the same block": exactly the bytes masked in change

module _ (m bad : List ℕ) (l : List Slot) (used block w o v i : ℕ) (e : newest_of l block used ≡ Some i) (low : used ≤ length l) (rest : Behind l used)
    (n : length (get_or l i empty_slot).bytes ≡ 16) (h : o + w ≤ 16) where
  found : i < used
  found = newest_below l block used i e

  later : (p : ℕ) → p / 16 ≡ block → (j : ℕ) → j < length (drop (suc i) l) → masks (get_or (drop (suc i) l) j empty_slot) p ≡ false
  later p q j k =
      ap (λ (s : Slot). masks s p) (get_or-drop (suc i) l j empty_slot)
      ∙ case (ltb (suc i + j) used)
      (λ t.
      let f : eqb (get_or l (suc i + j) empty_slot).block block ≡ false = newest_later l block used i (suc i + j) e (omega arith) (ltb-true (suc i + j) used t) in
      other (get_or l (suc i + j) empty_slot) f)
      (λ t.
      case (ltb (suc i + j) (length l))
      (λ u. ap (λ (s : Slot). masks s p) (place_empty l used (suc i + j) rest (ltb-false (suc i + j) used t) (ltb-true (suc i + j) (length l) u))
      ∙ empty_masks p)
      (λ u. ap (λ (s : Slot). masks s p) (get_d_out l (suc i + j) empty_slot (ltb-false (suc i + j) (length l) u)) ∙ empty_masks p))
    where
      other : (s : Slot) → eqb s.block block ≡ false → masks s p ≡ false
      other s f =
          case (eqb (p / 16) s.block)
          (λ t. let r : s.block ≡ block = sym (eqb-true (p / 16) s.block t) ∙ q in absurd (eqb-false s.block block f r))
          (λ t. rw t)

  pub joined_below : (p : ℕ) → below (stored_at (with_slots m bad l used) block w o v (Some i)) p
      ≡ laid_over bad (new_slot block w o v) p (below (with_slots m bad l used) p)
  joined_below p =
      let s = get_or l i empty_slot in
      let at = found in
      let x = get_or m p 0 in
      let y = over bad (take i l) p x in
      let ts = drop (suc i) l in
      let eb : s.block ≡ block = newest_block l block used i e in
      let old : over bad l p x ≡ over bad ts p (laid_over bad s p y) = ap (λ (r : List Slot). over bad r p x) (split_at l i empty_slot (omega arith))
      ∙ through bad s ts (take i l) p x in
      ap (λ (r : List Slot). over bad r p x) (set_split l i (joined s w o v) (omega arith)) ∙ through bad (joined s w o v) ts (take i l) p x
      ∙ ap (λ (z : ℕ). over bad ts p z) (joined_over bad s w o v p y n h)
      ∙ ap (λ (k : ℕ). over bad ts p (laid_over bad (new_slot k w o v) p (laid_over bad s p y))) eb
      ∙ past (laid_over bad s p y)
      ∙ ap (λ (z : ℕ). laid_over bad (new_slot block w o v) p z) (sym old)
    where
      past : (z : ℕ) → over bad (drop (suc i) l) p (laid_over bad (new_slot block w o v) p z)
          ≡ laid_over bad (new_slot block w o v) p (over bad (drop (suc i) l) p z)
      past z =
          case (eqb (p / 16) block)
          (λ t.
          let f = later p (eqb-true (p / 16) block t) in
          over_away bad (drop (suc i) l) p (laid_over bad (new_slot block w o v) p z) f
          ∙ ap (λ (u : ℕ). laid_over bad (new_slot block w o v) p u) (sym (over_away bad (drop (suc i) l) p z f)))
          (λ t. let f = unmasked_lands bad (new_slot block w o v) p (rw t) in rw f)

-- ---- a new entry, and the oldest leaving for it: exactly the bytes masked in change

-- the oldest entry leaves, and one more place is empty
oldest_behind : (m bad : List ℕ) (l : List Slot) (used : ℕ) → 0 < used → used ≤ length l → Behind l used
    → Behind (oldest_left (with_slots m bad l used)).buffer.slots (used - 1)
unfolding oldest_left
oldest_behind m bad [] used h k e = absurd (omega arith)
oldest_behind m bad (s ∷ ss) used h k e =
    let q : used ≡ suc (used - 1) = omega arith in
    let n : length (ss ++ (empty_slot ∷ [])) ≡ length ss + 1 = length-append ss (empty_slot ∷ []) in
    let f : drop (used - 1) ss ≡ replicate (suc (length ss) - used) empty_slot = ap (λ (j : ℕ). drop j (s ∷ ss)) (sym q) ∙ e in
    let c : suc (length ss) - used + 1 ≡ length (ss ++ (empty_slot ∷ [])) - (used - 1) = omega arith in
    drop-append-le (used - 1) ss (empty_slot ∷ []) (omega arith) ∙ ap (λ (r : List Slot). r ++ (empty_slot ∷ [])) f
    ∙ replicate-append-replicate (suc (length ss) - used) 1 empty_slot ∙ ap (λ (j : ℕ). replicate j empty_slot) c

-- the number of places stays
oldest_long : (m bad : List ℕ) (l : List Slot) (used : ℕ) → 0 < length l → length (oldest_left (with_slots m bad l used)).buffer.slots ≡ length l
unfolding oldest_left
oldest_long m bad [] used h = absurd (omega arith)
oldest_long m bad (s ∷ ss) used h = let n = length-append ss (empty_slot ∷ []) in let q : length ss + 1 ≡ suc (length ss) = omega arith in n ∙ q

oldest_used : (m bad : List ℕ) (l : List Slot) (used : ℕ) → (oldest_left (with_slots m bad l used)).buffer.used ≡ used - 1
unfolding oldest_left
oldest_used m bad l used = refl

good_first : (used long : ℕ) (l : List Slot) → 0 < used → Good used long l → Good 1 long l
unfolding Good
good_first zero long l h g = absurd (omega arith)
good_first (suc n) long [] h g = absurd g
good_first (suc n) long (s ∷ ss) h g = (g.0, g.1, tt)

oldest_same : (m bad : List ℕ) (l : List Slot) (used p : ℕ) → 0 < used → Good used (length m) l
    → below (oldest_left (with_slots m bad l used)) p ≡ below (with_slots m bad l used) p
unfolding leaving
oldest_same m bad l used p h g = leaving_below 1 m bad l used p (good_first used (length m) l h g)

bytes_long : (n : ℕ) (l : List Slot) (i long : ℕ) → i < n → Good n long l → length (get_or l i empty_slot).bytes ≡ 16
unfolding Good
bytes_long zero l i long h g = absurd (omega arith)
bytes_long (suc n) [] i long h g = absurd g
bytes_long (suc n) (s ∷ ss) zero long h g = g.0
bytes_long (suc n) (s ∷ ss) (suc i) long h g = bytes_long n ss i long (omega arith) g.2

module _ (m bad : List ℕ) (l : List Slot) (used : ℕ) (eight : length l ≡ 8) (low : used ≤ 8) (rest : Behind l used) (good : Good used (length m) l) where
  pub pushed_below : (s : Slot) (p : ℕ) → below (pushed (with_slots m bad l used) s) p ≡ laid_over bad s p (below (with_slots m bad l used) p)
  unfolding pushed oldest_left
  pushed_below s p =
      case (ltb used 8)
      (λ t. let q = ltb-true used 8 t in rw t (behind_below (with_slots m bad l used) s p (omega arith) rest))
      (λ t.
      let q = ltb-false used 8 t in
      let b = oldest_left (with_slots m bad l used) in
      let n = oldest_long m bad l used (omega arith) in
      let u = oldest_used m bad l used in
      rw t
      (behind_below b s p (omega arith) (subst (λ (k : ℕ). Behind b.buffer.slots k) (sym u) (oldest_behind m bad l used (omega arith) (omega arith) rest))
      ∙ ap (λ (z : ℕ). laid_over bad s p z) (oldest_same m bad l used p (omega arith) good)))

  good_at : (i : ℕ) → i < used → length (get_or l i empty_slot).bytes ≡ 16
  good_at i h = bytes_long used l i (length m) h good

  -- "a half sent out always takes a new one"
  pub half_below : (block : ℕ) (bytes : List ℕ) (p : ℕ) → (p / 16 ≡ block → is_bad bad (p / 4) ≡ false)
      → below (half_pushed (with_slots m bad l used) block bytes) p ≡ cond (eqb (p / 16) block) (get_or bytes (p % 16) 0) (below (with_slots m bad l used) p)
  unfolding half_pushed
  half_below block bytes p h =
      let s : Slot = record { block = block; mask = 0xFFFF; bytes = bytes } in
      pushed_below s p
      ∙ case (eqb (p / 16) block)
      (λ t. rw (h (eqb-true (p / 16) block t), t, ones_in 16 (p % 16) (omega arith)))
      (λ t. let f = unmasked_lands bad s p (rw t) in rw (f, t))

  -- "A store joins the newest entry of the same block, else takes a new one": exactly the bytes of the store change
  pub buffered_below : (pa : PhysicalAddress) (w v p : ℕ) → pa.0 % 16 + w ≤ 16
      → below (buffered (with_slots m bad l used) pa w v) p ≡ laid_over bad (new_slot (block_of pa) w (pa.0 % 16) v) p (below (with_slots m bad l used) p)
  unfolding buffered
  buffered_below pa w v p h = by (newest_of l (block_of pa) used) refl
    where
      by : (x : Option ℕ) → newest_of l (block_of pa) used ≡ x
          → below (stored_at (with_slots m bad l used) (block_of pa) w (pa.0 % 16) v x) p
          ≡ laid_over bad (new_slot (block_of pa) w (pa.0 % 16) v) p (below (with_slots m bad l used) p)
      by (Some i) e =
          joined_below m bad l used (block_of pa) w (pa.0 % 16) v i e (omega arith) rest (good_at i (newest_below l (block_of pa) used i e)) h p
      by None e = pushed_below (new_slot (block_of pa) w (pa.0 % 16) v) p
