-- What the test of the write buffer means: its entries, and its empty places.
use Prim.Native.Nat.{ℕ, zero, suc, ◌+◌, ◌-◌, ◌*◌, ◌/◌, ◌<◌, ◌≤◌, min}
use native.Mathlib.Omega.{arith}
use mathlib.Core.Bool.{true, false, not, ◌&&◌, ◌||◌}
use mathlib.Core.Logic.{◌≢◌}
use mathlib.Core.Path.{◌≡◌, refl, sym, ◌∙◌, ap}
use mathlib.Core.List.{List, [], ◌∷◌}
use lib.Dec.{eqb, ltb, leb}
use lib.ListN.{length, length-take, get_or, take, drop}
use lib.Seq.{get_or-take, get_or-drop}
use borrow.Author.Tests.{eqb-true, eqb-false, eq-eqb, ne_eqb, lt-ltb, le-leb, ltb-true, leb-true, not-true}
use Rattle.values.specs.Bits.{bit}
use Rattle.values.specs.Lists.{all}
use Rattle.values.specs.Empty.{empty_slot}
use Rattle.values.specs.declared.Slot.{Slot}
use Rattle.values.proofs.Cases.{case, clash, and_left, and_right, and_both, or_cases, or_left, or_right}
use Rattle.values.proofs.Alls.{all_true, all_means}
use Rattle.buffer.specs.Buffer.{Buffer, slot_at}
use Rattle.buffer.proofs.Below.{half_bit}
use Rattle.soundness.specs.Soundness.{is_zero, slot_empty, zero_outside, slot_sound, buffer_sound}
use Rattle.soundness_laws.proofs.Elements.{each_means, each_of}

-- ---- a place of the write buffer

pub outside_means : (mask : ℕ) (b : List ℕ) → zero_outside mask b ≡ true → (j : ℕ) → bit mask j ≡ false → get_or b j 0 ≡ 0
unfolding zero_outside
outside_means mask [] h j e = refl
outside_means mask (x ∷ xs) h zero e =
    let q = and_left (bit mask 0 || eqb x 0) (zero_outside (mask / 2) xs) h in
    or_cases (bit mask 0) (eqb x 0) q (λ t. clash t e) (λ t. eqb-true x 0 t)
outside_means mask (x ∷ xs) h (suc j) e =
    outside_means (mask / 2) xs (and_right (bit mask 0 || eqb x 0) (zero_outside (mask / 2) xs) h) j (half_bit mask j ∙ e)

pub outside_of : (mask : ℕ) (b : List ℕ) → ((j : ℕ) → bit mask j ≡ false → get_or b j 0 ≡ 0) → zero_outside mask b ≡ true
unfolding zero_outside
outside_of mask [] f = refl
outside_of mask (x ∷ xs) f =
    and_both (bit mask 0 || eqb x 0) (zero_outside (mask / 2) xs)
    (case (bit mask 0) (λ t. or_left (bit mask 0) (eqb x 0) t) (λ t. or_right (bit mask 0) (eqb x 0) (eq-eqb x 0 (f 0 t))))
    (outside_of (mask / 2) xs (λ j e. f (suc j) (sym (half_bit mask j) ∙ e)))

-- an entry
pub record SlotIs (n : ℕ) (s : Slot) : Type 0 where
  pub inside : s.block * 16 + 16 ≤ n
  pub masked : s.mask ≢ 0
  pub low : s.mask < 0x10000
  pub outside : (j : ℕ) → bit s.mask j ≡ false → get_or s.bytes j 0 ≡ 0

pub slot_means : (n : ℕ) (s : Slot) → slot_sound n s ≡ true → SlotIs n s
unfolding slot_sound
slot_means n s h =
    let a = leb (s.block * 16 + 16) n in
    let b = not (eqb s.mask 0) in
    let c = ltb s.mask 0x10000 in
    let d = zero_outside s.mask s.bytes in
    let h1 = and_right a (b && (c && d)) h in
    let h2 = and_right b (c && d) h1 in
    record {
      inside = leb-true (s.block * 16 + 16) n (and_left a (b && (c && d)) h);
      masked = eqb-false s.mask 0 (not-true (eqb s.mask 0) (and_left b (c && d) h1));
      low = ltb-true s.mask 0x10000 (and_left c d h2);
      outside = outside_means s.mask s.bytes (and_right c d h2);
    }

pub slot_of : (n : ℕ) (s : Slot) → SlotIs n s → slot_sound n s ≡ true
unfolding slot_sound
slot_of n s r =
    rw (le-leb (s.block * 16 + 16) n r.inside, ne_eqb s.mask 0 r.masked, lt-ltb s.mask 0x10000 r.low)
    (outside_of s.mask s.bytes r.outside)

-- an empty place
pub record SlotClear (s : Slot) : Type 0 where
  pub block : s.block ≡ 0
  pub mask : s.mask ≡ 0
  pub bytes : (j : ℕ) → get_or s.bytes j 0 ≡ 0

pub clear_means : (s : Slot) → slot_empty s ≡ true → SlotClear s
clear_means s h =
    let a = eqb s.block 0 in
    let b = eqb s.mask 0 in
    let c = all is_zero s.bytes in
    let h1 = and_right a (b && c) h in
    record {
      block = eqb-true s.block 0 (and_left a (b && c) h);
      mask = eqb-true s.mask 0 (and_left b c h1);
      bytes = λ j. eqb-true (get_or s.bytes j 0) 0 (each_means is_zero 0 refl s.bytes (and_right b c h1) j);
    }

pub clear_of : (s : Slot) → SlotClear s → slot_empty s ≡ true
clear_of s r =
    rw (r.block, r.mask) (each_of is_zero 0 refl s.bytes (λ j. eq-eqb (get_or s.bytes j 0) 0 (r.bytes j)))

-- the buffer
pub record BufferIs (n : ℕ) (b : Buffer) : Type 0 where
  pub used : b.used ≤ 8
  pub entries : (i : ℕ) → i < b.used → i < length b.slots → SlotIs n (slot_at b i)
  pub empties : (i : ℕ) → b.used ≤ i → SlotClear (slot_at b i)

module _ (n : ℕ) (b : Buffer) where
  abbrev front : List Slot
  front = take b.used b.slots

  abbrev back : List Slot
  back = drop b.used b.slots

  -- the places of the entries, and those behind them
  front_at : (i : ℕ) → i < b.used → get_or front i empty_slot ≡ slot_at b i
  front_at i h = get_or-take b.used b.slots i empty_slot h

  back_at : (i : ℕ) → get_or back i empty_slot ≡ slot_at b (b.used + i)
  back_at i = get_or-drop b.used b.slots i empty_slot

  empty_slot_lem : slot_empty empty_slot ≡ true
  unfolding all
  empty_slot_lem = refl

  front_in : (i : ℕ) → i < b.used → i < length b.slots → i < length front
  front_in i h k = rw (length-take b.used b.slots) (omega arith)

  front_out : (i : ℕ) → i < length front → (i < b.used) × (i < length b.slots)
  front_out i h = let k : i < min b.used (length b.slots) = rw (length-take b.used b.slots) at h in (omega arith, omega arith)

  pub buffer_means : buffer_sound n b ≡ true → BufferIs n b
  unfolding buffer_sound
  buffer_means h =
      let u = leb b.used 8 in
      let f = all (slot_sound n) front in
      let e = all slot_empty back in
      let h1 = and_right u (f && e) h in
      record {
        used = leb-true b.used 8 (and_left u (f && e) h);
        entries = λ i l k.
            slot_means n (slot_at b i)
            (ap (slot_sound n) (sym (front_at i l)) ∙ all_means (slot_sound n) empty_slot front (and_left f e h1) i (front_in i l k));
        empties = λ i l.
            let q : b.used + (i - b.used) ≡ i = omega arith in
            clear_means (slot_at b i)
            (ap (λ (k : ℕ). slot_empty (slot_at b k)) (sym q) ∙ ap slot_empty (sym (back_at (i - b.used)))
            ∙ each_means slot_empty empty_slot empty_slot_lem back (and_right f e h1) (i - b.used));
      }

  pub buffer_of : BufferIs n b → buffer_sound n b ≡ true
  unfolding buffer_sound
  buffer_of r =
      let f : all (slot_sound n) front ≡ true =
      all_true (slot_sound n) empty_slot front
      (λ i h. let o = front_out i h in ap (slot_sound n) (front_at i o.0) ∙ slot_of n (slot_at b i) (r.entries i o.0 o.1)) in
      let e : all slot_empty back ≡ true =
      each_of slot_empty empty_slot empty_slot_lem back
      (λ i. ap slot_empty (back_at i) ∙ clear_of (slot_at b (b.used + i)) (r.empties (b.used + i) (omega arith))) in
      rw (le-leb b.used 8 r.used, f, e)
