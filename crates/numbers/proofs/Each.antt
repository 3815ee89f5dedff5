-- Numbers read as things, one behind another.
use Prim.Native.Nat.{ℕ, zero, suc, ◌+◌, ◌*◌, ◌<◌}
use native.Mathlib.Omega.{arith}
use native.Mathlib.Nat.{add_comm, zero-mul, suc-mul}
use mathlib.Core.Bool.{Bool, true, false}
use mathlib.Core.Path.{◌≡◌, refl, sym, ◌∙◌, ap, subst}
use mathlib.Core.List.{List}
use lib.ListN.{length, get_or, take, drop}
use lib.Seq.{drop-drop}
use Rattle.std.proofs.lemmas.List.{ext_get_or}
use Rattle.values.proofs.Cases.{clash, and_left, and_right, and_both}
use Rattle.form.specs.Form.{Form, each_fits, each_thing}
use Rattle.numbers.specs.Code.{part, Packs, RowsSame, ThingsRead}

module _ {A : Type 0} (f : Form A) where
  abbrev w : ℕ
  w = length f.places

  pub each_long : (n : ℕ) (ns : List ℕ) → length (each_thing f n ns) ≡ n
  unfolding each_thing
  each_long zero ns = refl
  each_long (suc n) ns = let h = each_long n (drop w ns) in omega arith

  -- the numbers of thing i + 1 are those of thing i behind the first
  next : (i : ℕ) (ns : List ℕ) → drop (suc i * w) ns ≡ drop (i * w) (drop w ns)
  next i ns = ap (λ (k : ℕ). drop k ns) (suc-mul i w ∙ add_comm (i * w) w) ∙ sym (drop-drop (i * w) w ns)

  pub thing_at : (n i : ℕ) (ns : List ℕ) (d : A) → i < n → get_or (each_thing f n ns) i d ≡ f.thing (take w (drop (i * w) ns))
  unfolding each_thing
  thing_at zero i ns d h = absurd (omega arith)
  thing_at (suc n) zero ns d h = ap (λ (k : ℕ). f.thing (take w (drop k ns))) (sym (zero-mul w))
  thing_at (suc n) (suc i) ns d h =
      thing_at n i (drop w ns) d (omega arith) ∙ ap (λ (l : List ℕ). f.thing (take w l)) (sym (next i ns))

  pub fits_at : (n i : ℕ) (ns : List ℕ) → each_fits f n ns ≡ true → i < n → f.fits (take w (drop (i * w) ns)) ≡ true
  unfolding each_fits
  fits_at zero i ns e h = absurd (omega arith)
  fits_at (suc n) zero ns e h = subst (λ (k : ℕ). f.fits (take w (drop k ns)) ≡ true) (sym (zero-mul w))
      (and_left (f.fits (take w ns)) (each_fits f n (drop w ns)) e)
  fits_at (suc n) (suc i) ns e h =
      subst (λ (l : List ℕ). f.fits (take w l) ≡ true) (sym (next i ns))
      (fits_at n i (drop w ns) (and_right (f.fits (take w ns)) (each_fits f n (drop w ns)) e) (omega arith))

  pub fits_all : (n : ℕ) (ns : List ℕ) → ((i : ℕ) → i < n → f.fits (take w (drop (i * w) ns)) ≡ true) → each_fits f n ns ≡ true
  unfolding each_fits
  fits_all zero ns g = refl
  fits_all (suc n) ns g =
      and_both (f.fits (take w ns)) (each_fits f n (drop w ns)) (subst (λ (k : ℕ). f.fits (take w (drop k ns)) ≡ true) (zero-mul w) (g 0 (omega arith)))
      (fits_all n (drop w ns) (λ i h. subst (λ (l : List ℕ). f.fits (take w l) ≡ true) (next i ns) (g (suc i) (omega arith))))

-- ---- things read

module _ {A : Type 0} (f : Form A) (width : ℕ) (wide : length f.places ≡ width) (n : ℕ) (ns : List ℕ) (from : ℕ) where
  abbrev all : List ℕ
  all = drop from ns

  -- the numbers of thing i
  abbrev nth : ℕ → List ℕ
  nth i = take (length f.places) (drop (i * length f.places) all)

  -- they stand at its place
  here : (i : ℕ) → part ns (from + i * width) width ≡ nth i
  here i =
      ap (λ (l : List ℕ). take width l) (sym (drop-drop (i * width) from ns)) ∙ ap (λ (k : ℕ). take k (drop (i * k) all)) (sym wide)

  -- things whose numbers stand there are those read
  pub things_read : (Holds : A → Type 0) (d : A) (xs : List A) → length xs ≡ n
      → ((i : ℕ) → i < n → part ns (from + i * width) width ≡ f.numbers (get_or xs i d))
      → ((i : ℕ) → i < n → f.thing (f.numbers (get_or xs i d)) ≡ get_or xs i d) → ((i : ℕ) → i < n → f.fits (f.numbers (get_or xs i d)) ≡ true)
      → ThingsRead f Holds d n all xs true
  things_read Holds d xs long same back fit =
      record {
        same = λ t. ext_get_or d xs (each_thing f n all) (long ∙ sym (each_long f n all)) (λ i h. let k : i < n = omega arith in
            sym (back i k) ∙ ap (λ (l : List ℕ). f.thing l) (sym (same i k) ∙ here i) ∙ sym (thing_at f n i all d k));
        fits = λ t. fits_all f n all (λ i h. ap (λ (l : List ℕ). f.fits l) (sym (here i) ∙ same i h) ∙ fit i h);
        unfit = λ t. clash {b = true} refl t;
      }

  -- the numbers of thing i do not fit, or are of none that its word can stand for
  pub things_unread : (Holds : A → Type 0) (d : A) (left : List A) (i : ℕ) → i < n
      → (f.fits (part ns (from + i * width) width) ≡ true → Holds (f.thing (part ns (from + i * width) width)) → ⊥)
      → ThingsRead f Holds d n all left false
  things_unread Holds d left i h z =
      record {
        same = λ t. clash {b = false} t refl;
        fits = λ t. clash {b = false} t refl;
        unfit = λ t fits holds. z (ap (λ (l : List ℕ). f.fits l) (here i) ∙ fits_at f n i all fits h)
            (subst Holds (thing_at f n i all d h ∙ ap (λ (l : List ℕ). f.thing l) (sym (here i))) (holds i h));
      }

  -- things read, by a comparison of their rows with the numbers that stand there
  pub things_compared : (Holds : A → Type 0) (d : A) (xs : List A) (IsRow : ℕ → List ℕ → Type 0) (r : Bool) → RowsSame ns from width n IsRow r
      → length xs ≡ n → ((i : ℕ) (row : List ℕ) → i < n → IsRow i row → row ≡ f.numbers (get_or xs i d))
      → ((i : ℕ) → i < n → f.thing (f.numbers (get_or xs i d)) ≡ get_or xs i d) → ((i : ℕ) → i < n → f.fits (f.numbers (get_or xs i d)) ≡ true)
      → ((i : ℕ) → i < n → (part ns (from + i * width) width ≡ f.numbers (get_or xs i d) → ⊥) → f.fits (part ns (from + i * width) width) ≡ true
      → Holds (f.thing (part ns (from + i * width) width)) → ⊥)
      → ThingsRead f Holds d n all xs r
  things_compared Holds d xs IsRow true rows long is back fit unread =
      things_read Holds d xs long (λ i h. is i (part ns (from + i * width) width) h (rows.same refl i h)) back fit
  things_compared Holds d xs IsRow false rows long is back fit unread =
      let w = rows.differs refl in
      things_unread Holds d xs w.0 w.2 (unread w.0 w.2 (λ q. w.4 (q ∙ sym (is w.0 w.1 w.2 w.3))))

-- a word's numbers that are not those lent: these do not fit, or are of no thing that a word can stand for
pub no_thing : {A : Type 0} (f : Form A) (Holds : A → Type 0) (pack : A → ℕ) (unpack : ℕ → A) (ns nums : List ℕ) (word : ℕ)
    → Packs f Holds pack ns word → nums ≡ f.numbers (unpack word) → ((a : A) → Holds a → unpack (pack a) ≡ a)
    → (f.fits ns ≡ true → f.numbers (f.thing ns) ≡ ns) → (ns ≡ nums → ⊥) → f.fits ns ≡ true → Holds (f.thing ns) → ⊥
no_thing f Holds pack unpack ns nums word p e back again z fits holds =
    z (sym (again fits) ∙ ap f.numbers (sym (back (f.thing ns) holds) ∙ ap unpack (sym (p.same fits holds))) ∙ sym e)
