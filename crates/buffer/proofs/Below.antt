-- What a reader finds under the cache: memory, and the buffer's entries over it; and what leaving and entering do to it.
use Prim.Native.Nat.{ℕ, zero, suc, ◌+◌, ◌-◌, ◌*◌, ◌/◌, ◌%◌, ◌^◌, ◌<◌, ◌≤◌}
use native.Mathlib.Omega.{arith}
use native.Mathlib.Nat.{add-zero, zero-div}
use native.Mathlib.Numerals.{add-one}
use mathlib.Core.Bool.{Bool, true, false, cond, not, ◌&&◌}
use mathlib.Core.Logic.{◌≢◌}
use mathlib.Core.Path.{◌≡◌, refl, sym, ◌∙◌, ap, subst}
use mathlib.Core.List.{List, [], ◌∷◌, ◌++◌, append-nil}
use lib.Dec.{eqb}
use lib.ListN.{length, length-append, get_or, take, drop, replicate, take-append-drop, replicate-append-replicate}
use lib.Pow.{shr-shr}
use lib.Seq.{get_or-set_same, get_or-set_other, set_split, drop-drop, drop-append-le, append_snoc}
use borrow.Author.Tests.{eqb-true, eqb-false}
use Rattle.values.specs.Bits.{bit}
use Rattle.values.specs.Empty.{empty_slot}
use Rattle.values.specs.declared.Slot.{Slot}
use Rattle.values.proofs.Cases.{case, and-false, and_right}
use Rattle.bus.specs.Physical.{is_bad}
use Rattle.buffer.specs.Buffer.{Backing, masks, laid_one, laid, good_mask, oldest_left, leaving, drained, behind}
use Rattle.buffer.proofs.GoodMask.{good_bit}
use Rattle.buffer.proofs.Laying.{length_laid_one, length_laid}
use Rattle.buffer.specs.Buffer.{backing_from}
use Rattle.buffer.specs.Buffer.{buffer_from}

-- an entry masks byte p, whose word is not bad: the byte goes to memory when the entry leaves
abbrev pub lands : List ℕ → Slot → ℕ → Bool
lands bad s p = not (is_bad bad (p / 4)) && masks s p

-- the byte p under entries, oldest first, over the byte x: the newest of which it goes to memory holds it
unfoldable pub over : List ℕ → List Slot → ℕ → ℕ → ℕ
over bad [] p x = x
over bad (s ∷ ss) p x = over bad ss p (cond (lands bad s p) (get_or s.bytes (p % 16) 0) x)

-- the byte p of memory, or of the newest entry of which it goes to memory: memory's byte once all have left
abbrev pub below : Backing → ℕ → ℕ
below b p = over b.bad b.buffer.slots p (get_or b.memory p 0)

-- a byte of a good word lands where it is masked, that of a bad word nowhere
pub good_lands : (bad : List ℕ) (s : Slot) (p : ℕ) → is_bad bad (p / 4) ≡ false → lands bad s p ≡ masks s p
good_lands bad s p h = rw h

pub bad_lands : (bad : List ℕ) (s : Slot) (p : ℕ) → is_bad bad (p / 4) ≡ true → lands bad s p ≡ false
bad_lands bad s p h = rw h

-- a byte that is not masked does not land, and one that lands is masked
pub unmasked_lands : (bad : List ℕ) (s : Slot) (p : ℕ) → masks s p ≡ false → lands bad s p ≡ false
unmasked_lands bad s p h = and-false (not (is_bad bad (p / 4))) (masks s p) h

pub lands_masks : (bad : List ℕ) (s : Slot) (p : ℕ) → lands bad s p ≡ true → masks s p ≡ true
lands_masks bad s p h = and_right (not (is_bad bad (p / 4))) (masks s p) h

-- ---- memory after an entry's bytes are laid

laid_one_other : (m : List ℕ) (a mask x p : ℕ) → p ≢ a → get_or (laid_one m a mask x) p 0 ≡ get_or m p 0
laid_one_other m a mask x p h = case (bit mask 0) (λ t. rw t (get_or-set_other m a p x 0 h)) (λ t. rw t)

laid_one_here : (m : List ℕ) (a mask x : ℕ) → a < length m → get_or (laid_one m a mask x) a 0 ≡ cond (bit mask 0) x (get_or m a 0)
laid_one_here m a mask x h = case (bit mask 0) (λ t. rw t (get_or-set_same m a x 0 h)) (λ t. rw t)

pub laid_before : (bs m : List ℕ) (a mask p : ℕ) → p < a → get_or (laid m a mask bs) p 0 ≡ get_or m p 0
unfolding laid
laid_before [] m a mask p h = refl
laid_before (x ∷ xs) m a mask p h =
    laid_before xs (laid_one m a mask x) (a + 1) (mask / 2) p (omega arith) ∙ laid_one_other m a mask x p (omega arith)

pub laid_behind : (bs m : List ℕ) (a mask p : ℕ) → a + length bs ≤ p → get_or (laid m a mask bs) p 0 ≡ get_or m p 0
unfolding laid
laid_behind [] m a mask p h = refl
laid_behind (x ∷ xs) m a mask p h =
    laid_behind xs (laid_one m a mask x) (a + 1) (mask / 2) p (omega arith) ∙ laid_one_other m a mask x p (omega arith)

-- a bit of half a number
pub half_bit : (mask i : ℕ) → bit (mask / 2) i ≡ bit mask (suc i)
half_bit mask i =
    let e : 1 + i ≡ suc i = omega arith in
    ap (λ (x : ℕ). eqb (x % 2) 1) (shr-shr mask 1 i ∙ ap (λ (k : ℕ). mask / 2 ^ k) e)

pub laid_in : (bs m : List ℕ) (a mask i : ℕ) → i < length bs → a + length bs ≤ length m
    → get_or (laid m a mask bs) (a + i) 0 ≡ cond (bit mask i) (get_or bs i 0) (get_or m (a + i) 0)
unfolding laid
laid_in [] m a mask i h k = absurd (omega arith)
laid_in (x ∷ xs) m a mask zero h k =
    let z : a + 0 ≡ a = add-zero a in
    ap (λ (p : ℕ). get_or (laid m a mask (x ∷ xs)) p 0) z
    ∙ laid_before xs (laid_one m a mask x) (a + 1) (mask / 2) a (omega arith) ∙ laid_one_here m a mask x (omega arith)
    ∙ ap (λ (p : ℕ). cond (bit mask 0) x (get_or m p 0)) (sym z)
laid_in (x ∷ xs) m a mask (suc i) h k =
    let e : a + suc i ≡ a + 1 + i = omega arith in
    let m' = laid_one m a mask x in
    let n : length m' ≡ length m = length_laid_one m a mask x in
    ap (λ (p : ℕ). get_or (laid m a mask (x ∷ xs)) p 0) e
    ∙ laid_in xs m' (a + 1) (mask / 2) i (omega arith) (omega arith)
    ∙ ap (λ (b : Bool). cond b (get_or xs i 0) (get_or m' (a + 1 + i) 0)) (half_bit mask i)
    ∙ ap (λ (y : ℕ). cond (bit mask (suc i)) (get_or xs i 0) y) (laid_one_other m a mask x (a + 1 + i) (omega arith))
    ∙ ap (λ (p : ℕ). cond (bit mask (suc i)) (get_or xs i 0) (get_or m p 0)) (sym e)

-- an entry's bytes laid at its block, those of bad words left out: exactly the bytes that land change
pub laid_slot : (bad : List ℕ) (s : Slot) (m : List ℕ) (p : ℕ) → length s.bytes ≡ 16 → s.block * 16 + 16 ≤ length m
    → get_or (laid m (s.block * 16) (good_mask bad s.block s.mask) s.bytes) p 0 ≡ cond (lands bad s p) (get_or s.bytes (p % 16) 0) (get_or m p 0)
laid_slot bad s m p n h =
    case (eqb (p / 16) s.block)
    (λ t.
    let q : p / 16 ≡ s.block = eqb-true (p / 16) s.block t in
    let e : s.block * 16 + p % 16 ≡ p = omega arith in
    rw t
    (subst (λ (y : ℕ). get_or (laid m (s.block * 16) (good_mask bad s.block s.mask) s.bytes) y 0
    ≡ cond (not (is_bad bad (p / 4)) && bit s.mask (p % 16)) (get_or s.bytes (p % 16) 0)
    (get_or m y 0)) e
    (laid_in s.bytes m (s.block * 16) (good_mask bad s.block s.mask) (p % 16) (omega arith) (omega arith)
    ∙ ap (λ (x : Bool). cond x (get_or s.bytes (p % 16) 0) (get_or m (s.block * 16 + p % 16) 0)) (kept q))))
    (λ t.
    let q : p / 16 ≡ s.block → ⊥ = eqb-false (p / 16) s.block t in
    away q ∙ ap (λ (x : Bool). cond x (get_or s.bytes (p % 16) 0) (get_or m p 0)) (sym (unmasked_lands bad s p (rw t))))
  where
    kept : p / 16 ≡ s.block → bit (good_mask bad s.block s.mask) (p % 16) ≡ (not (is_bad bad (p / 4)) && bit s.mask (p % 16))
    kept q =
        let e : s.block * 4 + p % 16 / 4 ≡ p / 4 = omega arith in
        good_bit bad 4 (s.block * 4) s.mask (p % 16) (omega arith) ∙ ap (λ (x : ℕ). not (is_bad bad x) && bit s.mask (p % 16)) e

    away : (p / 16 ≡ s.block → ⊥) → get_or (laid m (s.block * 16) (good_mask bad s.block s.mask) s.bytes) p 0 ≡ get_or m p 0
    away q =
        case (eqb (p / 16 - s.block) 0)
        (λ u. let v = eqb-true (p / 16 - s.block) 0 u in laid_before s.bytes m (s.block * 16) (good_mask bad s.block s.mask) p (front v q))
        (λ u. let v = eqb-false (p / 16 - s.block) 0 u in laid_behind s.bytes m (s.block * 16) (good_mask bad s.block s.mask) p (back v))
      where
        front : p / 16 - s.block ≡ 0 → (p / 16 ≡ s.block → ⊥) → p < s.block * 16
        front v k = omega arith

        back : (p / 16 - s.block ≡ 0 → ⊥) → s.block * 16 + length s.bytes ≤ p
        back v = omega arith

-- ---- entries over a byte

pub over_append : (bad : List ℕ) (xs ys : List Slot) (p x : ℕ) → over bad (xs ++ ys) p x ≡ over bad ys p (over bad xs p x)
unfolding over
over_append bad [] ys p x = refl
over_append bad (s ∷ ss) ys p x = over_append bad ss ys p (cond (lands bad s p) (get_or s.bytes (p % 16) 0) x)

-- an empty place masks nothing
pub empty_masks : (p : ℕ) → masks empty_slot p ≡ false
empty_masks p =
    let e : eqb (0 / 2 ^ (p % 16) % 2) 1 ≡ false = rw (zero-div (2 ^ (p % 16))) in
    case (eqb (p / 16) 0) (λ t. rw t e) (λ t. rw t)

pub over_empties : (bad : List ℕ) (n p x : ℕ) → over bad (replicate n empty_slot) p x ≡ x
unfolding over
over_empties bad zero p x = refl
over_empties bad (suc n) p x =
    ap (λ (b : Bool). over bad (replicate n empty_slot) p (cond b (get_or empty_slot.bytes (p % 16) 0) x))
    (unmasked_lands bad empty_slot p (empty_masks p)) ∙ over_empties bad n p x

pub over_empty : (bad : List ℕ) (p x : ℕ) → over bad (empty_slot ∷ []) p x ≡ x
over_empty bad p x = over_empties bad 1 p x

-- ---- "the oldest leaving changes it nowhere"

pub oldest_below : (m bad : List ℕ) (s : Slot) (ss : List Slot) (used p : ℕ) → length s.bytes ≡ 16 → s.block * 16 + 16 ≤ length m
    → below (oldest_left (backing_from m bad (buffer_from (s ∷ ss) used))) p
    ≡ below (backing_from m bad (buffer_from (s ∷ ss) used)) p
unfolding oldest_left over
oldest_below m bad s ss used p n h =
    let x = get_or (laid m (s.block * 16) (good_mask bad s.block s.mask) s.bytes) p 0 in
    over_append bad ss (empty_slot ∷ []) p x ∙ over_empty bad p (over bad ss p x) ∙ ap (over bad ss p) (laid_slot bad s m p n h)

-- ---- "pushing changes it exactly at the bytes masked in"

-- the places from `used` on are empty
abbrev pub Behind : List Slot → ℕ → Type 0
Behind slots used = drop used slots ≡ replicate (length slots - used) empty_slot

pub behind_below : (b : Backing) (s : Slot) (p : ℕ) → b.buffer.used < length b.buffer.slots → Behind b.buffer.slots b.buffer.used
    → below (behind b s) p ≡ cond (lands b.bad s p) (get_or s.bytes (p % 16) 0) (below b p)
unfolding behind over
behind_below b s p h e =
    let l = b.buffer.slots in
    let u = b.buffer.used in
    let x = get_or b.memory p 0 in
    let y = over b.bad (take u l) p x in
    let k : length l - u ≡ suc (length l - suc u) = omega arith in
    let d : drop (suc u) l ≡ replicate (length l - suc u) empty_slot = sym (drop_one u l)
    ∙ ap (λ (r : List Slot). drop 1 r) (e ∙ ap (λ (j : ℕ). replicate j empty_slot) k) in
    let old : over b.bad l p x ≡ y = ap (λ (r : List Slot). over b.bad r p x) (sym (take-append-drop u l))
    ∙ over_append b.bad (take u l) (drop u l) p x
    ∙ ap (λ (r : List Slot). over b.bad r p y) e ∙ over_empties b.bad (length l - u) p y in
    let z = cond (lands b.bad s p) (get_or s.bytes (p % 16) 0) y in
    ap (λ (r : List Slot). over b.bad r p x) (set_split l u s h) ∙ over_append b.bad (take u l) (s ∷ drop (suc u) l) p x
    ∙ ap (λ (r : List Slot). over b.bad r p z) d ∙ over_empties b.bad (length l - suc u) p z
    ∙ ap (λ (w : ℕ). cond (lands b.bad s p) (get_or s.bytes (p % 16) 0) w) (sym old)
  where
    drop_one : (n : ℕ) (xs : List Slot) → drop 1 (drop n xs) ≡ drop (suc n) xs
    drop_one n xs = drop-drop 1 n xs ∙ ap (λ (j : ℕ). drop j xs) (add-one n)

-- ---- "a drain changes it nowhere; after a drain memory is what it was"

-- the first n entries have sixteen bytes and lie inside a memory of `long` bytes
unfoldable pub Good : ℕ → ℕ → List Slot → Type 0
Good zero long l = Unit {0}
Good (suc n) long [] = ⊥
Good (suc n) long (s ∷ ss) = (length s.bytes ≡ 16) × (s.block * 16 + 16 ≤ long) × Good n long ss

good_append : (n long : ℕ) (l r : List Slot) → Good n long l → Good n long (l ++ r)
unfolding Good
good_append zero long l r g = tt
good_append (suc n) long [] r g = absurd g
good_append (suc n) long (s ∷ ss) r g = (g.0, g.1, good_append n long ss r g.2)

abbrev pub with_slots : List ℕ → List ℕ → List Slot → ℕ → Backing
with_slots m bad l used = (backing_from m bad (buffer_from l used))

pub leaving_below : (n : ℕ) (m bad : List ℕ) (l : List Slot) (used p : ℕ) → Good n (length m) l
    → below (leaving n (with_slots m bad l used)) p ≡ below (with_slots m bad l used) p
unfolding leaving Good oldest_left
leaving_below zero m bad l used p g = refl
leaving_below (suc n) m bad [] used p g = absurd g
leaving_below (suc n) m bad (s ∷ ss) used p g =
    let mask = good_mask bad s.block s.mask in
    let m' = laid m (s.block * 16) mask s.bytes in
    let e : length m' ≡ length m = length_laid s.bytes m (s.block * 16) mask in
    leaving_below n m' bad (ss ++ (empty_slot ∷ [])) (used - 1) p
    (good_append n (length m') ss (empty_slot ∷ []) (subst (λ (k : ℕ). Good n k ss) (sym e) g.2))
    ∙ oldest_below m bad s ss used p g.0 g.1

pub leaving_slots : (n : ℕ) (m bad : List ℕ) (l : List Slot) (used : ℕ) → n ≤ length l
    → (leaving n (with_slots m bad l used)).buffer.slots ≡ drop n l ++ replicate n empty_slot
unfolding leaving oldest_left
leaving_slots zero m bad l used h = sym (append-nil l)
leaving_slots (suc n) m bad [] used h = absurd (omega arith)
leaving_slots (suc n) m bad (s ∷ ss) used h =
    leaving_slots n (laid m (s.block * 16) (good_mask bad s.block s.mask) s.bytes) bad (ss ++ (empty_slot ∷ [])) (used - 1)
    (rw (length-append ss (empty_slot ∷ [])) (omega arith))
    ∙ ap (λ (r : List Slot). r ++ replicate n empty_slot) (drop-append-le n ss (empty_slot ∷ []) (omega arith))
    ∙ append_snoc (drop n ss) empty_slot (replicate n empty_slot)

module _ (b : Backing) (good : Good b.buffer.used (length b.memory) b.buffer.slots) where
  pub drained_below : (p : ℕ) → below (drained b) p ≡ below b p
  unfolding drained
  drained_below p = leaving_below b.buffer.used b.memory b.bad b.buffer.slots b.buffer.used p good

  module _ (low : b.buffer.used ≤ length b.buffer.slots) (rest : Behind b.buffer.slots b.buffer.used) where
    -- no entry is left
    pub drained_slots : (drained b).buffer.slots ≡ replicate (length b.buffer.slots) empty_slot
    unfolding drained
    drained_slots =
        let u = b.buffer.used in
        let n = length b.buffer.slots in
        let e : n - u + u ≡ n = omega arith in
        leaving_slots u b.memory b.bad b.buffer.slots u low ∙ ap (λ (r : List Slot). r ++ replicate u empty_slot) rest
        ∙ replicate-append-replicate (n - u) u empty_slot ∙ ap (λ (k : ℕ). replicate k empty_slot) e

    -- memory is what lay below
    pub drained_memory : (p : ℕ) → get_or (drained b).memory p 0 ≡ below b p
    drained_memory p =
        sym (over_empties (drained b).bad (length b.buffer.slots) p (get_or (drained b).memory p 0))
        ∙ ap (λ (l : List Slot). over (drained b).bad l p (get_or (drained b).memory p 0)) (sym drained_slots) ∙ drained_below p
