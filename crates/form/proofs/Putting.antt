-- Numbers laid one after another: the loop that lays a text.
use Prim.Native.Nat.{ℕ, ◌+◌, ◌≤◌, ◌<◌}
use native.Mathlib.Omega.{arith}
use native.Mathlib.Nat.{zero-add}
use mathlib.Core.Path.{◌≡◌, sym, ◌∙◌, ap}
use mathlib.Core.List.{List, [], ◌∷◌, ◌++◌}
use lib.ListN.{length, get_or, drop, drop_of_length-le, length-append, length-map}
use lib.Seq.{append_snoc}
use Rattle.printed.specs.Printed.{decimal}
use Rattle.printed.specs.Code.{over, Laid}
use Rattle.printed.proofs.Laying.{Laying, laying_start, laying_on, laying_end, laid_long, laid_then}
use Rattle.fields.proofs.Digits.{drop_more}
use Rattle.form.specs.Texts.{Place, place, text_by}
use Rattle.form.specs.Form.{most32}
use Rattle.form.specs.Code.{places_of, text_size}
use Rattle.form.proofs.Sizes.{size_more}
use Rattle.form.proofs.Reading.{places_more}

-- what holds before each turn: the text from here on is to be laid
pub record Putting (ps : List Place) (ns o₀ o : List ℕ) (at k : ℕ) : Type 0 where
  pub low : k ≤ length ns
  pub size : at + text_size (drop k ns) ≡ text_size ns
  pub laying : Laying o₀ 0 (text_by ps ns) o at (text_by (drop k ps) (drop k ns))

pub putting_start : (ps : List Place) (ns o₀ : List ℕ) → Putting ps ns o₀ o₀ 0 0
putting_start ps ns o₀ = record { low = omega arith; size = zero-add (text_size ns); laying = laying_start o₀ 0 (text_by ps ns) }

module _ (separators ns o₀ o : List ℕ) (at k : ℕ) (g : Putting (places_of separators) ns o₀ o at k) (fits : text_size ns ≤ length o₀) where
  abbrev ps : List Place
  ps = places_of separators

  abbrev digits : List ℕ
  digits = decimal (get_or ns k 0)

  module _ (h : k < length ns) where
    -- the number here and the byte behind it have room
    pub putting_room : at + length digits + 1 ≤ length o
    putting_room = let m = size_more ns k h in let long = g.laying.long in let size = g.size in omega arith

    module _ (p : List ℕ) (e : ℕ) (l : Laid o p at e 19 digits) where
      -- the byte has room where the number was laid
      pub putting_byte : e < length p
      putting_byte =
          let r = putting_room in let s = l.ends in let n = laid_long o p at e 19 digits l (omega arith) in omega arith

      -- the number and the byte are laid
      pub putting_on : length separators ≡ length ns → (q : List ℕ) (f : ℕ) → Laid p q e f 1 (get_or separators k 0 ∷ [])
          → Putting ps ns o₀ q f (k + 1)
      unfolding text_by
      putting_on same q f r =
          let b = get_or separators k 0 in
          let rest = text_by (drop (k + 1) ps) (drop (k + 1) ns) in
          let room = putting_room in
          let both : Laid o q at f 20 (digits ++ b ∷ []) = laid_then o p at e 19 digits l q f 1 (b ∷ []) (omega arith) r in
          let long = length-append digits (b ∷ []) in
          let end = both.ends in
          let m = size_more ns k h in
          let size = g.size in
          let more : text_by (drop k ps) (drop k ns) ≡ digits ++ b ∷ rest =
          ap (λ (x : List Place). text_by x (drop k ns)) (places_more separators k (omega arith))
          ∙ ap (λ (x : List ℕ). text_by (place most32 b ∷ drop (k + 1) ps) x) (drop_more ns k h)
          in
          let on = laying_on o₀ 0 (text_by ps ns) o at (text_by (drop k ps) (drop k ns)) g.laying (digits ++ b ∷ []) rest
          (more ∙ sym (append_snoc digits b rest)) (omega arith) q f 20 both
          in
          record { low = omega arith; size = omega arith; laying = on }

  -- all numbers are laid
  pub putting_end : length separators ≡ length ns → length ns ≤ k → o ≡ over o₀ 0 (text_by ps ns)
  unfolding text_by
  putting_end same h =
      let m = length-map separators (place most32) in
      let none : text_by (drop k ps) (drop k ns) ≡ [] =
      ap (λ (x : List Place). text_by x (drop k ns)) (drop_of_length-le ps {i = k} (omega arith))
      in
      (laying_end o₀ 0 (text_by ps ns) o at (text_by (drop k ps) (drop k ns)) g.laying none at (omega arith)).same
