-- The whole form, by its four kinds of lines.
use Prim.Native.Nat.{ℕ, zero, suc, ◌+◌, ◌*◌, ◌-◌, ◌≤◌}
use native.Mathlib.Omega.{arith}
use native.Mathlib.Nat.{add_comm, sub-zero, zero-mul, suc-mul}
use mathlib.Core.Bool.{Bool, true, false, ◌&&◌}
use mathlib.Core.Path.{◌≡◌, refl, sym, ◌∙◌, ap, subst}
use mathlib.Core.List.{List, [], ◌∷◌, ◌++◌}
use lib.ListN.{length, get_or, take, drop, length-append}
use lib.Seq.{take-take, take-nil, drop-drop}
use Rattle.values.specs.Empty.{empty_entry, empty_line, empty_slot}
use Rattle.values.specs.declared.Entry.{Entry}
use Rattle.values.specs.declared.Line.{Line}
use Rattle.values.specs.declared.Slot.{Slot}
use Rattle.values.proofs.Cases.{and_left, and_right}
use Rattle.walk.specs.Ranges.{InRange}
use Rattle.printed.specs.Code.{over}
use Rattle.form.specs.Form.{Form, pair, each_places, each_numbers, each_fits, each_thing}
use Rattle.numbers.specs.Text.{Saved, form}
use Rattle.numbers.specs.Code.{head_line, entry_line, cache_line, buffer_line, LineHolds, SlotHolds, ThingsRead, AllRead, Unfit}
use Rattle.numbers.specs.Fields.{Head}
use Rattle.numbers.proofs.Heads.{head_wide, head_long, four_laid}
use Rattle.numbers.proofs.Entries.{entry_wide, entry_long}
use Rattle.numbers.proofs.Lines.{line_wide, line_long}
use Rattle.numbers.proofs.Slots.{slot_wide, slot_long}

-- a part of the front of a list
drop_take : {A : Type 0} (w k : ℕ) (l : List A) → drop w (take k l) ≡ take (k - w) (drop w l)
drop_take zero k l = ap (λ (n : ℕ). take n l) (sym (sub-zero k))
drop_take {A} (suc w) zero l = let z : 0 - suc w ≡ 0 = omega arith in ap (λ (n : ℕ). take n (drop (suc w) l)) (sym z)
drop_take (suc w) (suc k) [] = sym (take-nil (suc k - suc w))
drop_take (suc w) (suc k) (x ∷ l) = let z : k - w ≡ suc k - suc w = omega arith in drop_take w k l ∙ ap (λ (n : ℕ). take n (drop w l)) z

module _ {A : Type 0} (f : Form A) where
  abbrev w : ℕ
  w = length f.places

  pub places_are : (n : ℕ) → length (each_places f n) ≡ n * w
  unfolding each_places
  places_are zero = sym (zero-mul w)
  places_are (suc n) =
      length-append f.places (each_places f n) ∙ ap (λ (k : ℕ). w + k) (places_are n) ∙ add_comm w (n * w) ∙ sym (suc-mul n w)

  pub numbers_are : ((a : A) → length (f.numbers a) ≡ w) → (xs : List A) → length (each_numbers f xs) ≡ length xs * w
  unfolding each_numbers
  numbers_are g [] = sym (zero-mul w)
  numbers_are g (x ∷ xs) =
      length-append (f.numbers x) (each_numbers f xs) ∙ ap (λ (k : ℕ). k + length (each_numbers f xs)) (g x) ∙ ap (λ (k : ℕ). w + k) (numbers_are g xs)
      ∙ add_comm w (length xs * w) ∙ sym (suc-mul (length xs) w)

  -- the numbers behind those of n things do not matter
  rest_of : (n k : ℕ) → suc n * w ≤ k → (n * w ≤ k - w) × (w ≤ k)
  rest_of n k h = let e = suc-mul n w in (omega arith, omega arith)

  pub things_front : (n k : ℕ) (ns : List ℕ) → n * w ≤ k → each_thing f n (take k ns) ≡ each_thing f n ns
  unfolding each_thing
  things_front zero k ns h = refl
  things_front (suc n) k ns h =
      let r = rest_of n k h in
      rw (take-take w k ns r.1, drop_take w k ns) (ap (λ (l : List A). f.thing (take w ns) ∷ l) (things_front n (k - w) (drop w ns) r.0))

  pub fits_front : (n k : ℕ) (ns : List ℕ) → n * w ≤ k → each_fits f n (take k ns) ≡ each_fits f n ns
  unfolding each_fits
  fits_front zero k ns h = refl
  fits_front (suc n) k ns h =
      let r = rest_of n k h in
      rw (take-take w k ns r.1, drop_take w k ns) (ap (λ (b : Bool). f.fits (take w ns) && b) (fits_front n (k - w) (drop w ns) r.0))

-- ---- the four kinds of lines

entries_wide : length (each_places entry_line 32) ≡ 352
entries_wide = places_are entry_line 32 ∙ ap (λ (k : ℕ). 32 * k) entry_wide

lines_wide : length (each_places cache_line 512) ≡ 2560
lines_wide = places_are cache_line 512 ∙ ap (λ (k : ℕ). 512 * k) line_wide

slots_wide : length (each_places buffer_line 8) ≡ 144
slots_wide = places_are buffer_line 8 ∙ ap (λ (k : ℕ). 8 * k) slot_wide

-- how many places there are
pub form_wide : length form.places ≡ 3085
unfolding form
form_wide =
    let e = entries_wide in
    let l = lines_wide in
    let s = slots_wide in
    let h = head_wide in
    let a = length-append head_line.places (each_places entry_line 32 ++ (each_places cache_line 512 ++ each_places buffer_line 8)) in
    let b = length-append (each_places entry_line 32) (each_places cache_line 512 ++ each_places buffer_line 8) in
    let c = length-append (each_places cache_line 512) (each_places buffer_line 8) in
    a ∙ omega arith

-- the things of numbers, each kind from its own place on
pub form_thing : (ns : List ℕ) → form.thing ns
    ≡ pair (head_line.thing (take 29 ns))
    (pair (each_thing entry_line 32 (drop 29 ns)) (pair (each_thing cache_line 512 (drop 381 ns)) (each_thing buffer_line 8 (drop 2941 ns))))
unfolding form
form_thing ns =
    let e = entry_wide in
    let l = line_wide in
    rw (
      head_wide,
      entries_wide,
      lines_wide,
      things_front entry_line 32 352 (drop 29 ns) (omega arith),
      drop-drop 352 29 ns,
      things_front cache_line 512 2560 (drop 381 ns) (omega arith),
      drop-drop 2560 381 ns,
    )

pub form_fits : (ns : List ℕ) → form.fits ns
    ≡ (head_line.fits (take 29 ns)
    && (each_fits entry_line 32 (drop 29 ns) && (each_fits cache_line 512 (drop 381 ns) && each_fits buffer_line 8 (drop 2941 ns))))
unfolding form
form_fits ns =
    let e = entry_wide in
    let l = line_wide in
    rw (
      head_wide,
      entries_wide,
      lines_wide,
      fits_front entry_line 32 352 (drop 29 ns) (omega arith),
      drop-drop 352 29 ns,
      fits_front cache_line 512 2560 (drop 381 ns) (omega arith),
      drop-drop 2560 381 ns,
    )

-- the numbers of what a text has, each kind behind the other
pub form_numbers : (s : Saved) → form.numbers s
    ≡ head_line.numbers s.first
    ++ (each_numbers entry_line s.rest.first ++ (each_numbers cache_line s.rest.rest.first ++ each_numbers buffer_line s.rest.rest.rest))
unfolding form
form_numbers s = refl

-- ---- all numbers laid

pub all_laid : (o p q r t : List ℕ) (s : Saved) → length o ≡ 3085 → length s.rest.first ≡ 32 → length s.rest.rest.first ≡ 512
    → length s.rest.rest.rest ≡ 8 → p ≡ over o 0 (head_line.numbers s.first) → q ≡ over p 29 (each_numbers entry_line s.rest.first)
    → r ≡ over q 381 (each_numbers cache_line s.rest.rest.first) → t ≡ over r 2941 (each_numbers buffer_line s.rest.rest.rest) → t ≡ form.numbers s
all_laid o p q r t s long es ls ss e f g k =
    let H = head_line.numbers s.first in
    let E = each_numbers entry_line s.rest.first in
    let L = each_numbers cache_line s.rest.rest.first in
    let S = each_numbers buffer_line s.rest.rest.rest in
    let hl : length H ≡ 29 = head_long s.first in
    let el : length E ≡ 352 =
    numbers_are entry_line (λ x. entry_long x ∙ sym entry_wide) s.rest.first ∙ ap (λ (n : ℕ). n * length entry_line.places) es
    ∙ ap (λ (n : ℕ). 32 * n) entry_wide
    in
    let ll : length L ≡ 2560 =
    numbers_are cache_line (λ x. line_long x ∙ sym line_wide) s.rest.rest.first ∙ ap (λ (n : ℕ). n * length cache_line.places) ls
    ∙ ap (λ (n : ℕ). 512 * n) line_wide
    in
    let sl : length S ≡ 144 =
    numbers_are buffer_line (λ x. slot_long x ∙ sym slot_wide) s.rest.rest.rest ∙ ap (λ (n : ℕ). n * length buffer_line.places) ss
    ∙ ap (λ (n : ℕ). 8 * n) slot_wide
    in
    four_laid o p q r t H E L S long hl el ll sl e f g k ∙ sym (form_numbers s)

-- ---- all numbers read

module _ (ns : List ℕ) where
  abbrev E : Bool
  E = each_fits entry_line 32 (drop 29 ns)

  abbrev L : Bool
  L = each_fits cache_line 512 (drop 381 ns)

  abbrev S : Bool
  S = each_fits buffer_line 8 (drop 2941 ns)

  -- all numbers behind the first line fit
  rest_fit : form.fits ns ≡ true → (E && (L && S)) ≡ true
  rest_fit fits = and_right (head_line.fits (take 29 ns)) (E && (L && S)) (sym (form_fits ns) ∙ fits)

  -- the entries do not fit, or are not in range
  pub no_entries_lem : (left : List Entry) → ThingsRead entry_line InRange empty_entry 32 (drop 29 ns) left false → Unfit ns
  no_entries_lem left t fits holds =
      t.unfit refl (and_left E (L && S) (rest_fit fits))
      (λ i k. subst InRange (ap (λ (s : Saved). get_or s.rest.first i empty_entry) (form_thing ns)) (holds.entries_hold i k))

  -- the lines do not fit
  pub no_lines_lem : (left : List Line) → ThingsRead cache_line LineHolds empty_line 512 (drop 381 ns) left false → Unfit ns
  no_lines_lem left t fits holds =
      t.unfit refl (and_left L S (and_right E (L && S) (rest_fit fits)))
      (λ i k. subst LineHolds (ap (λ (s : Saved). get_or s.rest.rest.first i empty_line) (form_thing ns)) (holds.lines_hold i k))

  -- the buffer does not fit
  pub no_slots_lem : (left : List Slot) → ThingsRead buffer_line SlotHolds empty_slot 8 (drop 2941 ns) left false → Unfit ns
  no_slots_lem left t fits holds = t.unfit refl (and_right L S (and_right E (L && S) (rest_fit fits))) (λ i k. tt)

  -- all are read
  pub all_read : (h : Head) (es : List Entry) (ls : List Line) (ss : List Slot) → h ≡ head_line.thing (take 29 ns)
      → head_line.fits (take 29 ns) ≡ true → ThingsRead entry_line InRange empty_entry 32 (drop 29 ns) es true
      → ThingsRead cache_line LineHolds empty_line 512 (drop 381 ns) ls true → ThingsRead buffer_line SlotHolds empty_slot 8 (drop 2941 ns) ss true
      → AllRead ns (pair h (pair es (pair ls ss)))
  all_read h es ls ss head_is head_fit t u v =
      record {
        same = rw (head_is, t.same refl, u.same refl, v.same refl) (sym (form_thing ns));
        fits = form_fits ns ∙ rw (head_fit, t.fits refl, u.fits refl, v.fits refl);
      }

-- the same, by another name of the number of things and of the flag
pub things_as : {A : Type 0} (f : Form A) (Holds : A → Type 0) (d : A) (n k : ℕ) (ns : List ℕ) (xs : List A) (r b : Bool) → n ≡ k → r ≡ b
    → ThingsRead f Holds d n ns xs r → ThingsRead f Holds d k ns xs b
things_as f Holds d n k ns xs r b e q t =
    subst (λ (m : ℕ). ThingsRead f Holds d m ns xs b) e (subst (λ (c : Bool). ThingsRead f Holds d n ns xs c) q t)
