-- The clauses of refusal 3 of a buffer entry and of the registers.
use Prim.Native.Nat.{ℕ, ◌+◌, ◌-◌, ◌*◌, ◌/◌, ◌%◌, ◌<◌, ◌≤◌}
use native.Mathlib.Omega.{arith}
use native.Mathlib.Numerals.{add-one}
use mathlib.Core.Bool.{Bool, true, false, cond, ◌&&◌, ◌||◌}
use mathlib.Core.Path.{◌≡◌, refl, sym, ◌∙◌, ap, subst}
use mathlib.Core.List.{List, [], ◌∷◌}
use lib.Dec.{eqb, ltb}
use lib.ListN.{length, length-drop, get_or, take, drop, replicate, drop_of_length-le}
use lib.Seq.{drop-cons, get_or-take, get_or-drop, length-take-le}
use borrow.Author.Tests.{eqb-true, eqb-false, eq-eqb, ne_eqb, lt-ltb, le-ltb, le-leb, lt-leb, ltb-true, ltb-false}
use Rattle.values.specs.Control.{kept, listed}
use Rattle.values.specs.Bits.{bit}
use Rattle.values.specs.Lists.{all}
use Rattle.values.specs.declared.Registers.{Registers}
use Rattle.values.proofs.Cases.{case}
use Rattle.values.specs.Empty.{empty_slot}
use Rattle.values.specs.declared.Slot.{Slot}
use Rattle.buffer.specs.Packing.{slot_of, slots_of}
use Rattle.buffer.proofs.Slots.{slot_at, length_slots, any_default}
use Rattle.values.proofs.Alls.{all_true, all_false}
use Rattle.soundness.specs.Soundness.{is_zero, slot_empty, zero_outside, slot_sound, buffer_sound, registers_sound}
use Rattle.buffer.specs.Buffer.{buffer_from}

-- ---- bytes outside the mask

pub byte_masked : (mask x : ℕ) → mask % 2 ≡ 1 → (bit mask 0 || eqb x 0) ≡ true
byte_masked mask x h = let e : mask / 1 % 2 ≡ 1 = omega arith in rw e

pub byte_outside : (mask x : ℕ) → (mask % 2 ≡ 1 → ⊥) → (bit mask 0 || eqb x 0) ≡ eqb x 0
byte_outside mask x h = let e : mask / 1 % 2 ≡ 0 = omega arith in rw e

module _ (mask : ℕ) (b : List ℕ) (i : ℕ) where
  pub outside_no : i < length b → (bit mask 0 || eqb (get_or b i 0) 0) ≡ false → zero_outside mask (drop i b) ≡ false
  unfolding zero_outside
  outside_no h t = rw (drop-cons b i 0 h, t)

  pub outside_on : i < length b → (bit mask 0 || eqb (get_or b i 0) 0) ≡ true → zero_outside mask (drop i b) ≡ zero_outside (mask / 2) (drop (i + 1) b)
  unfolding zero_outside
  outside_on h t = rw (drop-cons b i 0 h, t, add-one i)

  pub outside_end : length b ≤ i → zero_outside mask (drop i b) ≡ true
  unfolding zero_outside
  outside_end h = rw (drop_of_length-le b {i = i} h)

-- no bit of the mask: all bytes are zero
pub no_mask : (b : List ℕ) → zero_outside 0 b ≡ all is_zero b
unfolding zero_outside all
no_mask [] = refl
no_mask (x ∷ xs) = ap (λ (r : Bool). eqb x 0 && r) (no_mask xs)

-- ---- an entry

module _ (w : ℕ) (b : List ℕ) (n : ℕ) where
  pub slot_outside : n < w / 0x100000000 * 16 + 16 → slot_sound n (slot_of w b) ≡ false
  unfolding slot_sound
  slot_outside h = rw (lt-leb (w / 0x100000000 * 16 + 16) n h)

  module _ (k : w / 0x100000000 * 16 + 16 ≤ n) where
    pub slot_unmasked : w % 0x100000000 ≡ 0 → slot_sound n (slot_of w b) ≡ false
    unfolding slot_sound
    slot_unmasked h = rw (le-leb (w / 0x100000000 * 16 + 16) n k, eq-eqb (w % 0x100000000) 0 h)

    module _ (z : w % 0x100000000 ≡ 0 → ⊥) where
      pub slot_wide : 0x10000 ≤ w % 0x100000000 → slot_sound n (slot_of w b) ≡ false
      unfolding slot_sound
      slot_wide h = rw (le-leb (w / 0x100000000 * 16 + 16) n k, ne_eqb (w % 0x100000000) 0 z, le-ltb (w % 0x100000000) 0x10000 h)

      pub slot_bytes : w % 0x100000000 < 0x10000 → slot_sound n (slot_of w b) ≡ zero_outside (w % 0x100000000) b
      unfolding slot_sound
      slot_bytes h = rw (le-leb (w / 0x100000000 * 16 + 16) n k, ne_eqb (w % 0x100000000) 0 z, lt-ltb (w % 0x100000000) 0x10000 h)

pub empty_bytes : (w : ℕ) (b : List ℕ) → w ≡ 0 → slot_empty (slot_of w b) ≡ zero_outside 0 b
empty_bytes w b e = rw e (sym (no_mask b))

pub empty_no : (w : ℕ) (b : List ℕ) → (w ≡ 0 → ⊥) → slot_empty (slot_of w b) ≡ false
empty_no w b z =
    case (eqb (w / 0x100000000) 0)
    (λ s.
    case (eqb (w % 0x100000000) 0)
    (λ t. absurd (z (both (eqb-true (w / 0x100000000) 0 s) (eqb-true (w % 0x100000000) 0 t))))
    (λ t. rw (s, t)))
    (λ s. rw s)
  where
    both : w / 0x100000000 ≡ 0 → w % 0x100000000 ≡ 0 → w ≡ 0
    both s t = omega arith

-- ---- all places

-- what is asked of place j
abbrev pub asked : ℕ → ℕ → List ℕ → List (List ℕ) → ℕ → Bool
asked n used ws bs j =
    cond (ltb j used) (slot_sound n (slot_of (get_or ws j 0) (get_or bs j []))) (slot_empty (slot_of (get_or ws j 0) (get_or bs j [])))

-- the first i places have it
pub record Held (n used : ℕ) (ws : List ℕ) (bs : List (List ℕ)) (i : ℕ) : Type 0 where
  pub each : (j : ℕ) → j < i → asked n used ws bs j ≡ true

module _ (n used : ℕ) (ws : List ℕ) (bs : List (List ℕ)) where
  pub held_none : Held n used ws bs 0
  held_none = record { each = λ j h. absurd (omega arith) }

  pub held_on : (i : ℕ) → Held n used ws bs i → asked n used ws bs i ≡ true → Held n used ws bs (i + 1)
  held_on i f e =
      record {
        each = λ j h.
            case (eqb j i)
            (λ t. let q : j ≡ i = eqb-true j i t in subst (λ (k : ℕ). asked n used ws bs k ≡ true) (sym q) e)
            (λ t. let q = eqb-false j i t in f.each j (before j h q));
      }
    where
      before : (j : ℕ) → j < i + 1 → (j ≡ i → ⊥) → j < i
      before j h q = omega arith

  pub too_many : 8 < used → buffer_sound n (buffer_from (slots_of ws bs) used) ≡ false
  unfolding buffer_sound
  too_many h = rw (lt-leb used 8 h)

  module _ (lw : length ws ≡ 8) (lb : length bs ≡ 8) (low : used ≤ 8) where
    abbrev slots : List Slot
    slots = slots_of ws bs

    long : length slots ≡ 8
    long = length_slots ws bs (lw ∙ sym lb) ∙ lw

    front_long : length (take used slots) ≡ used
    front_long = length-take-le used slots (rw long low)

    back_long : length (drop used slots) ≡ 8 - used
    back_long = length-drop used slots ∙ ap (λ (k : ℕ). k - used) long

    at : (j : ℕ) → j < 8 → get_or slots j empty_slot ≡ slot_of (get_or ws j 0) (get_or bs j [])
    at j h = slot_at ws bs j (lw ∙ sym lb) ∙ ap (λ (b : List ℕ). slot_of (get_or ws j 0) b) (any_default bs j (replicate 16 0) [] (omega arith))

    front : (j : ℕ) → j < used → get_or (take used slots) j empty_slot ≡ slot_of (get_or ws j 0) (get_or bs j [])
    front j h = get_or-take used slots j empty_slot h ∙ at j (omega arith)

    back : (j : ℕ) → used + j < 8 → get_or (drop used slots) j empty_slot ≡ slot_of (get_or ws (used + j) 0) (get_or bs (used + j) [])
    back j h = get_or-drop used slots j empty_slot ∙ at (used + j) h

    pub places_held : Held n used ws bs 8 → buffer_sound n (buffer_from (slots_of ws bs) used) ≡ true
    unfolding buffer_sound
    places_held f = rw (le-leb used 8 low, entries, empties)
      where
        entries : all (slot_sound n) (take used slots) ≡ true
        entries =
            all_true (slot_sound n) empty_slot (take used slots)
            (λ j h. let h' : j < used = rw front_long at h in ap (slot_sound n) (front j h') ∙ (rw (lt-ltb j used h') at (f.each j (omega arith))))

        empties : all slot_empty (drop used slots) ≡ true
        empties =
            all_true slot_empty empty_slot (drop used slots)
            (λ j h. let h' : j < 8 - used = rw back_long at h in ap slot_empty (back j (omega arith)) ∙
            (rw (le-ltb (used + j) used (omega arith)) at (f.each (used + j) (omega arith))))

    pub place_bad : (i : ℕ) → i < 8 → asked n used ws bs i ≡ false → buffer_sound n (buffer_from (slots_of ws bs) used) ≡ false
    unfolding buffer_sound
    place_bad i h e =
        case (ltb i used)
        (λ t.
        let k = ltb-true i used t in
        let s : all (slot_sound n) (take used slots) ≡ false = all_false (slot_sound n) empty_slot (take used slots) i (rw front_long k)
        (ap (slot_sound n) (front i k) ∙ (rw t at e)) in
        rw (le-leb used 8 low, s))
        (λ t.
        let k = ltb-false i used t in
        let q : used + (i - used) ≡ i = omega arith in
        let s : all slot_empty (drop used slots) ≡ false =
        all_false slot_empty empty_slot (drop used slots) (i - used) (rw back_long (omega arith))
        (ap slot_empty (back (i - used) (omega arith)) ∙ rw q (rw t at e)) in
        rw (le-leb used 8 low, s) (never (all (slot_sound n) (take used slots))))
      where
        never : (b : Bool) → (b && false) ≡ false
        never true = refl
        never false = refl

-- ---- the registers

module _ (r : Registers) where
  pub control_no : (kept r.control ≡ r.control → ⊥) → registers_sound r ≡ false
  unfolding registers_sound
  control_no h = rw (ne_eqb (kept r.control) r.control h)

  module _ (k : kept r.control ≡ r.control) where
    pub listed_no : listed r.control ≡ false → registers_sound r ≡ false
    unfolding registers_sound
    listed_no h = rw (eq-eqb (kept r.control) r.control k, h)

    module _ (l : listed r.control ≡ true) where
      pub base_no : (r.base % 0x4000 ≡ 0 → ⊥) → registers_sound r ≡ false
      unfolding registers_sound
      base_no h = rw (eq-eqb (kept r.control) r.control k, l, ne_eqb (r.base / 0x4000 * 0x4000) r.base (λ e. h (multiple e)))
        where
          multiple : r.base / 0x4000 * 0x4000 ≡ r.base → r.base % 0x4000 ≡ 0
          multiple e = omega arith

      pub fsr_test : r.base % 0x4000 ≡ 0 → r.base < 0x100000000 → r.domains < 0x100000000 → r.far < 0x100000000 → registers_sound r ≡ ltb r.fsr 256
      unfolding registers_sound
      fsr_test b hb hd hf =
          let e : r.base / 0x4000 * 0x4000 ≡ r.base = omega arith in
          rw (
            eq-eqb (kept r.control) r.control k,
            l,
            eq-eqb (r.base / 0x4000 * 0x4000) r.base e,
            lt-ltb r.base 0x100000000 hb,
            lt-ltb r.domains 0x100000000 hd,
            lt-ltb r.far 0x100000000 hf,
          )
          (always (ltb r.fsr 256))
        where
          always : (x : Bool) → (x && true) ≡ x
          always true = refl
          always false = refl
