-- Numbers read one after another: the loop that reads a text.
use Prim.Native.Nat.{ℕ, ◌+◌, ◌≤◌, ◌<◌}
use native.Mathlib.Omega.{arith}
use native.Mathlib.Numerals.{add-one}
use mathlib.Core.Bool.{Bool, true, false, cond, ◌&&◌}
use mathlib.Core.Path.{◌≡◌, refl, sym, ◌∙◌, ap}
use mathlib.Core.List.{List, [], ◌∷◌, ◌++◌, append-nil}
use lib.Dec.{eqb}
use lib.ListN.{length, get_or, set, take, drop, length-set, length-map, length-drop, get_or-map, drop_of_length-le}
use lib.Seq.{drop-cons, drop-drop, take_all, take-suc-set, append_snoc}
use borrow.Author.Tests.{eqb-true, eqb-false, eq-eqb, ne_eqb}
use Rattle.std.specs.Prelude.{Option, Some, None, is_some, unwrap_or}
use Rattle.values.proofs.Cases.{case, clash}
use Rattle.fields.specs.Lines.{value_of}
use Rattle.fields.specs.Code.{digits_of, field_from}
use Rattle.fields.specs.declared.Field.{Field}
use Rattle.form.specs.Texts.{Place, place, is_number, Numbers, numbers_from, with_number, read_by}
use Rattle.form.specs.Form.{most32}
use Rattle.form.specs.Code.{places_of, plain_at, NumbersRead}
use Rattle.form.proofs.Plain.{plain_is}

-- the places from place k on, by the byte behind its number
pub places_more : (separators : List ℕ) (k : ℕ) → k < length separators
    → drop k (places_of separators) ≡ place most32 (get_or separators k 0) ∷ drop (k + 1) (places_of separators)
places_more separators k h =
    let ps = places_of separators in
    let l : k < length ps = rw (length-map separators (place most32)) h in
    drop-cons ps k (place most32 0) l ∙ ap (λ (j : ℕ). get_or ps k (place most32 0) ∷ drop j ps) (sym (add-one k))
    ∙ ap (λ (p : Place). p ∷ drop (k + 1) ps) (get_or-map (place most32) separators k 0)

-- ---- a place of a number of 32 bits

module _ (by : ℕ) (ps : List Place) (text : List ℕ) where
  -- whether the place takes the number in front of the text
  abbrev taken : Bool
  taken = is_number most32 (digits_of text) && eqb (get_or text (length (digits_of text)) 0) by

  abbrev whole : Field
  whole = field_from (value_of (digits_of text)) (length (digits_of text) + 1)

  field_is : (f : Option Field) → f ≡ plain_at by text → (t : Bool) → taken ≡ t → f ≡ cond t (Some whole) None
  field_is f e t h = e ∙ plain_is by text ∙ ap (λ (b : Bool). cond b (Some whole) None) h

  -- no field: the text departs
  pub place_bad : None ≡ plain_at by text → read_by (place most32 by ∷ ps) text ≡ numbers_from false []
  unfolding read_by
  place_bad e =
      case taken (λ t. let z : false ≡ true = ap is_some (field_is None e true t) in clash {b = false} z refl) (λ t. rw t)

  -- a field: its number, and what is read behind it
  pub place_good : (f : Field) → Some f ≡ plain_at by text → read_by (place most32 by ∷ ps) text ≡ with_number f.value (read_by ps (drop f.size text))
  unfolding read_by
  place_good f e =
      case taken
      (λ t. let g : f ≡ whole = ap (λ (o : Option Field). unwrap_or o whole) (field_is (Some f) e true t) in rw (t, g))
      (λ t. let z : true ≡ false = ap is_some (field_is (Some f) e false t) in clash {b = true} refl z)

-- ---- the loop

-- what holds before each turn: what is still to be read from here, with the numbers read so far before it, is the whole
pub record Reading (ps : List Place) (text ns₀ ns : List ℕ) (at k : ℕ) : Type 0 where
  pub low : k ≤ length ps
  pub high : at ≤ length text
  pub long : length ns ≡ length ns₀
  pub good : (read_by (drop k ps) (drop at text)).formed ≡ (read_by ps text).formed
  pub numbers : take k ns ++ (read_by (drop k ps) (drop at text)).numbers ≡ (read_by ps text).numbers

pub reading_start : (ps : List Place) (text ns₀ : List ℕ) → Reading ps text ns₀ ns₀ 0 0
reading_start ps text ns₀ = record { low = omega arith; high = omega arith; long = refl; good = refl; numbers = refl }

module _ (separators text ns₀ ns : List ℕ) (at k : ℕ) (g : Reading (places_of separators) text ns₀ ns at k) where
  abbrev ps : List Place
  ps = places_of separators

  module _ (h : k < length separators) where
    -- no number stands here
    pub reading_bad : None ≡ plain_at (get_or separators k 0) (drop at text) → NumbersRead ps text ns false
    reading_bad e =
        let b : read_by (drop k ps) (drop at text) ≡ numbers_from false [] =
        ap (λ (l : List Place). read_by l (drop at text)) (places_more separators k h)
        ∙ place_bad (get_or separators k 0) (drop (k + 1) ps) (drop at text) e
        in
        record { same = ap (λ (r : Numbers). r.formed) (sym b) ∙ g.good; numbered = λ y. clash {b = false} y refl }

    -- the number here is stored
    pub reading_on : (f : Field) → Some f ≡ plain_at (get_or separators k 0) (drop at text) → at + f.size ≤ length text
        → length separators ≡ length ns₀ → Reading ps text ns₀ (set ns k f.value) (at + f.size) (k + 1)
    reading_on f e w same =
        let rest = read_by (drop (k + 1) ps) (drop (at + f.size) text) in
        let b : read_by (drop k ps) (drop at text) ≡ with_number f.value rest =
        ap (λ (l : List Place). read_by l (drop at text)) (places_more separators k h)
        ∙ place_good (get_or separators k 0) (drop (k + 1) ps) (drop at text) f e
        ∙ ap (λ (t : List ℕ). with_number f.value (read_by (drop (k + 1) ps) t)) (drop-drop f.size at text)
        in
        let long = g.long in
        let m = length-map separators (place most32) in
        let t : take (k + 1) (set ns k f.value) ++ rest.numbers ≡ take k ns ++ f.value ∷ rest.numbers =
        ap (λ (j : ℕ). take j (set ns k f.value) ++ rest.numbers) (add-one k)
        ∙ ap (λ (l : List ℕ). l ++ rest.numbers) (take-suc-set ns k f.value (omega arith)) ∙ append_snoc (take k ns) f.value rest.numbers
        in
        record {
          low = omega arith;
          high = w;
          long = length-set ns k f.value ∙ long;
          good = ap (λ (r : Numbers). r.formed) (sym b) ∙ g.good;
          numbers = t ∙ ap (λ (r : Numbers). take k ns ++ r.numbers) (sym b) ∙ g.numbers;
        }

  -- all numbers have been read: the text has the form if nothing is behind them
  pub reading_end : length separators ≤ k → length separators ≡ length ns₀ → NumbersRead ps text ns (eqb at (length text))
  unfolding read_by
  reading_end h same =
      let long = g.long in
      let high = g.high in
      let m = length-map separators (place most32) in
      let b : read_by (drop k ps) (drop at text) ≡ numbers_from (eqb (length (drop at text)) 0) [] =
      ap (λ (l : List Place). read_by l (drop at text)) (drop_of_length-le ps {i = k} (omega arith))
      in
      let d = length-drop at text in
      let q : eqb at (length text) ≡ eqb (length (drop at text)) 0 =
      case (eqb at (length text))
      (λ t. let s = eqb-true at (length text) t in t ∙ sym (eq-eqb (length (drop at text)) 0 (omega arith)))
      (λ t. let s = eqb-false at (length text) t in t ∙ sym (ne_eqb (length (drop at text)) 0 (λ z. s (omega arith))))
      in
      record {
        same = q ∙ ap (λ (r : Numbers). r.formed) (sym b) ∙ g.good;
        numbered = λ y. sym (append-nil ns) ∙ ap (λ (l : List ℕ). l ++ []) (sym (take_all k ns (omega arith)))
            ∙ ap (λ (r : Numbers). take k ns ++ r.numbers) (sym b) ∙ g.numbers;
      }
