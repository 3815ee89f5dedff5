-- Buffer entries: their numbers, and the words and bytes of numbers.
use Prim.Native.Nat.{ℕ, zero, suc, ◌+◌, ◌%◌, ◌<◌, ◌≤◌}
use native.Mathlib.Omega.{arith}
use native.Mathlib.Nat.{add-zero}
use mathlib.Core.Bool.{true}
use mathlib.Core.Path.{◌≡◌, refl, sym, ◌∙◌, ap, subst}
use mathlib.Core.List.{List, [], ◌∷◌, ◌++◌, map}
use lib.Dec.{ltb}
use lib.ListN.{length, get_or, set, drop, replicate, length-append, length-map, take-append-drop, get_or-append, get_or-map}
use lib.Seq.{take_all, take_at}
use borrow.Author.Tests.{lt-ltb}
use Rattle.values.specs.declared.Slot.{Slot}
use Rattle.values.proofs.Toward.{Toward, toward_step, toward_all}
use Rattle.buffer.specs.Packing.{slot_of, word_of}
use Rattle.buffer.proofs.Slots.{word_block, word_mask_lem}
use Rattle.form.specs.Form.{Field, word, fit_in, put_in}
use Rattle.form.specs.Texts.{line_places}
use Rattle.numbers.specs.Fields.{byte_fields, slot_from}
use Rattle.numbers.specs.Code.{buffer_line, part, low_bytes}
use Rattle.numbers.proofs.Cells.{cells, part_cells, cells_at, cells_long, fit_first, fit_rest, fit_behind}

pub slot_wide : length buffer_line.places ≡ 18
unfolding line_places byte_fields
slot_wide = refl

pub slot_long : (s : Slot) → length (buffer_line.numbers s) ≡ 18
unfolding byte_fields
slot_long s = refl

-- the numbers of an entry: sixteen bytes, mask, block
pub slot_numbers_are : (s : Slot) → buffer_line.numbers s ≡ cells 16 s.bytes 0 ++ s.mask ∷ s.block ∷ []
unfolding byte_fields cells
slot_numbers_are s = refl

-- the bytes of eighteen numbers from a place on
pub slot_bytes_are : (ns : List ℕ) (i : ℕ) → (buffer_line.thing (cells 18 ns i)).bytes ≡ cells 16 ns i
unfolding byte_fields cells put_in
slot_bytes_are ns i = refl

-- ---- numbers that fit

eighteen : (ns : List ℕ) → length ns ≡ 18 → ns ≡ cells 18 ns 0
eighteen ns h = sym (take_all 18 ns (omega arith)) ∙ part_cells 18 ns 0 (omega arith)

-- eighteen numbers are those of the entry that they are of
again_cells : (ns : List ℕ) → buffer_line.numbers (buffer_line.thing (cells 18 ns 0)) ≡ cells 18 ns 0
unfolding byte_fields cells put_in
again_cells ns = refl

pub slots_again : (ns : List ℕ) → length ns ≡ 18 → buffer_line.numbers (buffer_line.thing ns) ≡ ns
slots_again ns h =
    let q = eighteen ns h in subst (λ (l : List ℕ). buffer_line.numbers (buffer_line.thing l) ≡ l) (sym q) (again_cells ns)

-- bytes that fit are below 256
byte_fit : (n j i : ℕ) (fs : List (Field Slot)) (l ms : List ℕ) → fit_in (byte_fields n j ++ fs) (cells n l i ++ ms) ≡ true
    → (k : ℕ) → k < n → get_or l (i + k) 0 < 0x100
unfolding byte_fields cells
byte_fit zero j i fs l ms e k h = absurd (omega arith)
byte_fit (suc n) j i fs l ms e zero h = rw (add-zero i) (fit_first _ _ _ _ e)
byte_fit (suc n) j i fs l ms e (suc k) h =
    let q : i + suc k ≡ i + 1 + k = omega arith in rw q (byte_fit n (j + 1) (i + 1) fs l ms (fit_rest _ _ _ _ e) k (omega arith))

-- eighteen numbers are sixteen and two
sixteen_two : (l : List ℕ) (at : ℕ) → cells 18 l at ≡ cells 16 l at ++ cells 2 l (at + 16)
unfolding cells
sixteen_two l at =
    let p : at + 1 + 1 + 1 + 1 + 1 + 1 + 1 + 1 + 1 + 1 + 1 + 1 + 1 + 1 + 1 + 1 ≡ at + 16 = omega arith in rw p

-- of eighteen numbers from a place on that fit, sixteen are bytes
pub slot_fit : (l : List ℕ) (at : ℕ) → buffer_line.fits (cells 18 l at) ≡ true → (k : ℕ) → k < 16 → get_or l (at + k) 0 < 0x100
slot_fit l at e k h =
    byte_fit 16 0 at
    (word (λ (s : Slot). s.mask) (λ (s : Slot) (n : ℕ). slot_from s.block n s.bytes)
    ∷ word (λ (s : Slot). s.block) (λ (s : Slot) (n : ℕ). slot_from n s.mask s.bytes) ∷ [])
    l (cells 2 l (at + 16)) (subst (λ (ns : List ℕ). buffer_line.fits ns ≡ true) (sixteen_two l at) e) k h

-- the ranges of an entry whose numbers fit
pub record SlotGood (s : Slot) : Type 0 where
  pub long : length s.bytes ≡ 16
  pub bytes : (i : ℕ) → get_or s.bytes i 0 < 0x100
  pub mask : s.mask < 0x100000000
  pub block : s.block < 0x100000000

pub slot_fits : (s : Slot) → SlotGood s → buffer_line.fits (buffer_line.numbers s) ≡ true
unfolding fit_in byte_fields
slot_fits s g =
    rw (
      byte 0,
      byte 1,
      byte 2,
      byte 3,
      byte 4,
      byte 5,
      byte 6,
      byte 7,
      byte 8,
      byte 9,
      byte 10,
      byte 11,
      byte 12,
      byte 13,
      byte 14,
      byte 15,
      lt-ltb s.mask 0x100000000 g.mask,
      lt-ltb s.block 0x100000000 g.block,
    )
  where
    byte : (i : ℕ) → ltb (get_or s.bytes i 0) 0x100 ≡ true
    byte i = lt-ltb (get_or s.bytes i 0) 0x100 (g.bytes i)

-- the bytes of an entry, as its numbers have them
pub bytes_are : (b : List ℕ) → length b ≡ 16 → cells 16 b 0 ≡ b
bytes_are b h = sym (part_cells 16 b 0 (omega arith)) ∙ take_all 16 b (omega arith)

put_back : (s : Slot) → buffer_line.thing (buffer_line.numbers s) ≡ slot_from s.block s.mask (cells 16 s.bytes 0)
unfolding byte_fields cells put_in
put_back s = refl

pub slot_back : (s : Slot) → SlotGood s → buffer_line.thing (buffer_line.numbers s) ≡ s
slot_back s g = put_back s ∙ ap (λ (b : List ℕ). slot_from s.block s.mask b) (bytes_are s.bytes g.long)

-- ---- the array of an entry's numbers

-- sixteen bytes, and mask and block stored behind them
pub slot_array : (out b : List ℕ) (m k : ℕ) → out ≡ cells 16 b 0 ++ 0 ∷ 0 ∷ [] → set (set out 16 m) 17 k ≡ cells 16 b 0 ++ m ∷ k ∷ []
unfolding cells
slot_array out b m k e = rw e

-- the bytes stored one after another before two zeros
pub slot_step : (b out : List ℕ) (i : ℕ) → length b ≡ 16 → i < 16 → Toward (cells 16 b 0 ++ 0 ∷ 0 ∷ []) (replicate 18 0) out i
    → Toward (cells 16 b 0 ++ 0 ∷ 0 ∷ []) (replicate 18 0) (set out i (get_or b i 0)) (i + 1)
slot_step b out i long h t =
    let l = cells_long 16 b 0 in
    let m = t.long in
    let k = length-append (cells 16 b 0) (0 ∷ 0 ∷ []) in
    let z : 0 + i ≡ i = omega arith in
    toward_step (cells 16 b 0 ++ 0 ∷ 0 ∷ []) (replicate 18 0) out i t (get_or b i 0) 0 (omega arith) (omega arith)
    (sym (get_or-append (cells 16 b 0) (0 ∷ 0 ∷ []) 0 i (omega arith) ∙ cells_at 16 b 0 i h ∙ ap (λ (j : ℕ). get_or b j 0) z))

pub slot_filled : (b out : List ℕ) → Toward (cells 16 b 0 ++ 0 ∷ 0 ∷ []) (replicate 18 0) out 16 → out ≡ cells 16 b 0 ++ 0 ∷ 0 ∷ []
slot_filled b out t =
    let l = cells_long 16 b 0 in
    sym (take-append-drop 16 out)
    ∙ ap (λ (x : List ℕ). x ++ drop 16 out) (t.front ∙ take_at (cells 16 b 0) (0 ∷ 0 ∷ []) 16 l)
    ∙ ap (λ (x : List ℕ). cells 16 b 0 ++ x) t.back

-- the low bytes of numbers from a place on, by these
abbrev pub low_cells : List ℕ → ℕ → List ℕ
low_cells l at = map (λ (x : ℕ). x % 0x100) (cells 16 l at)

pub low_step : (l : List ℕ) (at : ℕ) (out : List ℕ) (i : ℕ) → i < 16 → Toward (low_cells l at) (replicate 16 0) out i
    → Toward (low_cells l at) (replicate 16 0) (set out i (get_or l (at + i) 0 % 0x100)) (i + 1)
low_step l at out i h t =
    let m = t.long in
    let k = cells_long 16 l at in
    let n = length-map (cells 16 l at) (λ (x : ℕ). x % 0x100) in
    toward_step (low_cells l at) (replicate 16 0) out i t (get_or l (at + i) 0 % 0x100) (0 % 0x100) (omega arith) (omega arith)
    (sym (get_or-map (λ (x : ℕ). x % 0x100) (cells 16 l at) i 0 ∙ ap (λ (x : ℕ). x % 0x100) (cells_at 16 l at i h)))

pub low_filled : (l : List ℕ) (at : ℕ) (out : List ℕ) → at + 16 ≤ length l → Toward (low_cells l at) (replicate 16 0) out 16 → out ≡ low_bytes l at
low_filled l at out room t =
    toward_all (low_cells l at) (replicate 16 0) out 16 t refl (length-map (cells 16 l at) (λ (x : ℕ). x % 0x100) ∙ cells_long 16 l at)
    ∙ ap (λ (x : List ℕ). map (λ (y : ℕ). y % 0x100) x) (sym (part_cells 16 l at room))

-- low bytes of numbers below 256 are these
low_same : (n : ℕ) (l : List ℕ) (i : ℕ) → ((k : ℕ) → k < n → get_or l (i + k) 0 < 0x100) → map (λ (x : ℕ). x % 0x100) (cells n l i) ≡ cells n l i
unfolding cells
low_same zero l i g = refl
low_same (suc n) l i g =
    let z = add-zero i in
    let a : get_or l i 0 < 0x100 = subst (λ (j : ℕ). get_or l j 0 < 0x100) z (g 0 (omega arith)) in
    let e : get_or l i 0 % 0x100 ≡ get_or l i 0 = omega arith in
    rw (e, low_same n l (i + 1) (λ k h. let q : i + suc k ≡ i + 1 + k = omega arith in subst (λ (j : ℕ). get_or l j 0 < 0x100) q (g (suc k) (omega arith))))

-- the bytes read are those of the entry, where the numbers fit
low_bytes_lem : (l : List ℕ) (at : ℕ) (b : List ℕ) → at + 18 ≤ length l → b ≡ low_bytes l at → buffer_line.fits (part l at 18) ≡ true
    → b ≡ (buffer_line.thing (part l at 18)).bytes
low_bytes_lem l at b room e fits =
    let p : part l at 18 ≡ cells 18 l at = part_cells 18 l at room in
    let f : buffer_line.fits (cells 18 l at) ≡ true = ap (λ (ns : List ℕ). buffer_line.fits ns) (sym p) ∙ fits in
    e ∙ ap (λ (x : List ℕ). map (λ (y : ℕ). y % 0x100) x) (part_cells 16 l at (omega arith)) ∙ low_same 16 l at (slot_fit l at f)
    ∙ sym (slot_bytes_are l at) ∙ ap (λ (ns : List ℕ). (buffer_line.thing ns).bytes) (sym p)

-- an entry of a word and of low bytes has the ranges of one whose numbers fit
low_each : (l : List ℕ) (i : ℕ) → get_or (map (λ (y : ℕ). y % 0x100) l) i 0 < 0x100
low_each [] i = omega arith
low_each (x ∷ xs) zero = omega arith
low_each (x ∷ xs) (suc i) = low_each xs i

pub slot_good : (l : List ℕ) (at w : ℕ) (b : List ℕ) → at + 18 ≤ length l → b ≡ low_bytes l at → w < 0x10000000000000000 → SlotGood (slot_of w b)
slot_good l at w b room e h =
    record {
      long = ap length e ∙ length-map (part l at 16) (λ (y : ℕ). y % 0x100) ∙ ap length (part_cells 16 l at (omega arith)) ∙ cells_long 16 l at;
      bytes = λ i. subst (λ (x : List ℕ). get_or x i 0 < 0x100) (sym e) (low_each (part l at 16) i);
      mask = omega arith;
      block = omega arith;
    }

-- the fields behind the bytes
abbrev behind_bytes : List (Field Slot)
behind_bytes =
    word (λ (s : Slot). s.mask) (λ (s : Slot) (n : ℕ). slot_from s.block n s.bytes)
    ∷ word (λ (s : Slot). s.block) (λ (s : Slot) (n : ℕ). slot_from n s.mask s.bytes) ∷ []

bytes_wide : length (byte_fields 16 0) ≡ 16
unfolding byte_fields
bytes_wide = refl

two_fit : (l : List ℕ) (at : ℕ) → buffer_line.fits (cells 18 l at) ≡ true → fit_in behind_bytes (cells 2 l (at + 16)) ≡ true
two_fit l at e =
    fit_behind (byte_fields 16 0) behind_bytes (cells 16 l at) (cells 2 l (at + 16)) (bytes_wide ∙ sym (cells_long 16 l at))
    (subst (λ (ns : List ℕ). buffer_line.fits ns ≡ true) (sixteen_two l at) e)

-- the mask of eighteen numbers that fit
mask_fit : (l : List ℕ) (at : ℕ) → buffer_line.fits (cells 18 l at) ≡ true → get_or l (at + 16) 0 < 0x100000000
unfolding cells
mask_fit l at e = fit_first _ _ _ _ (two_fit l at e)

-- eighteen numbers are of the entry with these bytes, mask and block
slot_parts : (l : List ℕ) (at : ℕ) → buffer_line.thing (cells 18 l at) ≡ slot_from (get_or l (at + 17) 0) (get_or l (at + 16) 0) (cells 16 l at)
unfolding byte_fields cells put_in
slot_parts l at =
    let p : at + 1 + 1 + 1 + 1 + 1 + 1 + 1 + 1 + 1 + 1 + 1 + 1 + 1 + 1 + 1 + 1 ≡ at + 16 = omega arith in
    let q : at + 16 + 1 ≡ at + 17 = omega arith in
    rw (p, q)

-- numbers that fit are those of the entry of their word and bytes
pub slot_numbers_same : (l : List ℕ) (at w : ℕ) (b nums : List ℕ) → at + 18 ≤ length l → w ≡ word_of (get_or l (at + 17) 0) (get_or l (at + 16) 0)
    → b ≡ low_bytes l at → nums ≡ buffer_line.numbers (slot_of w b) → buffer_line.fits (part l at 18) ≡ true → part l at 18 ≡ nums
slot_numbers_same l at w b nums room e f n fits =
    let p : part l at 18 ≡ cells 18 l at = part_cells 18 l at room in
    let h : buffer_line.fits (cells 18 l at) ≡ true = ap (λ (ns : List ℕ). buffer_line.fits ns) (sym p) ∙ fits in
    let m = mask_fit l at h in
    let block = get_or l (at + 17) 0 in
    let mask = get_or l (at + 16) 0 in
    let bytes = low_bytes_lem l at b room f fits ∙ ap (λ (ns : List ℕ). (buffer_line.thing ns).bytes) p ∙ slot_bytes_are l at in
    let s : slot_of w b ≡ buffer_line.thing (part l at 18) =
    ap (λ (x : ℕ). slot_of x b) e ∙ rw (word_block block mask m, word_mask_lem block mask m, bytes) (sym (slot_parts l at))
    ∙ ap (λ (ns : List ℕ). buffer_line.thing ns) (sym p)
    in
    sym (slots_again (part l at 18) (ap length p ∙ cells_long 18 l at)) ∙ ap (λ (x : Slot). buffer_line.numbers x) (sym s) ∙ sym n

-- numbers that are not those of the entry of their word and bytes do not fit
pub slot_unread : (l : List ℕ) (at w : ℕ) (b : List ℕ) → at + 18 ≤ length l → w ≡ word_of (get_or l (at + 17) 0) (get_or l (at + 16) 0)
    → b ≡ low_bytes l at → (part l at 18 ≡ buffer_line.numbers (slot_of w b) → ⊥) → buffer_line.fits (part l at 18) ≡ true → ⊥
slot_unread l at w b room e f z fits = z (slot_numbers_same l at w b (buffer_line.numbers (slot_of w b)) room e f refl fits)
