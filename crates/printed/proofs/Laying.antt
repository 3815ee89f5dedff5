-- Bytes laid over a list, one part behind another.
use Prim.Native.Nat.{ℕ, suc, ◌+◌, ◌<◌, ◌≤◌}
use native.Mathlib.Omega.{arith}
use native.Mathlib.Numerals.{add-one}
use native.Mathlib.Nat.{add-zero}
use mathlib.Core.Path.{◌≡◌, refl, sym, ◌∙◌, ap, subst}
use mathlib.Core.List.{List, [], ◌∷◌, ◌++◌, append_assoc, append-nil}
use lib.ListN.{length, take, drop, set, length-append, length-drop, take-append-drop, length-set}
use lib.Seq.{length-take-le, drop-cons, drop-drop, append_snoc, take_at, drop-append-add, set_split, take-set-le, drop-set-lt, get_or-set_same}
use Rattle.printed.specs.Code.{over, Laid}

module _ (o : List ℕ) (a : ℕ) where
  -- nothing laid leaves the list
  pub over_none : over o a [] ≡ o
  over_none =
      ap (λ (k : ℕ). take a o ++ [] ++ drop k o) (add-zero a) ∙ ap (λ (r : List ℕ). r ++ drop a o) (append-nil (take a o)) ∙ take-append-drop a o

  module _ (xs : List ℕ) where
    -- how long what is laid is, with what is before it
    front_long : a ≤ length o → length (take a o ++ xs) ≡ a + length xs
    front_long h = length-append (take a o) xs ∙ ap (λ (k : ℕ). k + length xs) (length-take-le a o h)

    -- laying keeps the length
    pub over_long : a + length xs ≤ length o → length (over o a xs) ≡ length o
    over_long h =
        let f = front_long (omega arith) in
        let g = length-drop (a + length xs) o in
        length-append (take a o ++ xs) (drop (a + length xs) o) ∙ omega arith

    -- bytes laid behind bytes are both, laid at once
    pub over_then : (ys : List ℕ) → a + length xs ≤ length o → over (over o a xs) (a + length xs) ys ≡ over o a (xs ++ ys)
    over_then ys h =
        let p = take a o ++ xs in
        let d = drop (a + length xs) o in
        let f : length p ≡ a + length xs = front_long (omega arith) in
        let e : a + length xs + length ys ≡ a + length (xs ++ ys) = let g = length-append xs ys in omega arith in
        let taken : take (a + length xs) (p ++ d) ≡ p = take_at p d (a + length xs) f in
        let dropped : drop (a + length xs + length ys) (p ++ d) ≡ drop (a + length (xs ++ ys)) o =
        ap (λ (k : ℕ). drop (k + length ys) (p ++ d)) (sym f) ∙ drop-append-add p d (length ys) ∙ drop-drop (length ys) (a + length xs) o
        ∙ ap (λ (k : ℕ). drop k o) e
        in
        ap (λ (l : List ℕ). l ++ ys ++ drop (a + length xs + length ys) (p ++ d)) taken ∙ ap (λ (l : List ℕ). p ++ ys ++ l) dropped
        ∙ ap (λ (l : List ℕ). l ++ drop (a + length (xs ++ ys)) o) (append_assoc (take a o) xs ys)

    -- a byte stored behind the bytes that are to be laid is laid with them
    pub over_last : (b : ℕ) → a + length xs < length o → over (set o (a + length xs) b) a xs ≡ over o a (xs ++ b ∷ [])
    over_last b h =
        let i = a + length xs in
        let s = set o i b in
        let e : suc i ≡ a + length (xs ++ b ∷ []) = let g = length-append xs (b ∷ []) in omega arith in
        let dropped : drop i s ≡ b ∷ drop (a + length (xs ++ b ∷ [])) o =
        drop-cons s i 0 (rw (length-set o i b) h) ∙ ap (λ (x : ℕ). x ∷ drop (suc i) s) (get_or-set_same o i b 0 h)
        ∙ ap (λ (l : List ℕ). b ∷ l) (drop-set-lt (suc i) o i b (omega arith) ∙ ap (λ (k : ℕ). drop k o) e)
        in
        let d = drop (a + length (xs ++ b ∷ [])) o in
        ap (λ (l : List ℕ). l ++ xs ++ drop i s) (take-set-le a o i b (omega arith)) ∙ ap (λ (l : List ℕ). take a o ++ xs ++ l) dropped
        ∙ sym (append_snoc (take a o ++ xs) b d) ∙ ap (λ (l : List ℕ). l ++ d) (append_assoc (take a o) xs (b ∷ []))

-- ---- laid

-- a byte stored is a byte laid
pub laid_byte : (o : List ℕ) (a b : ℕ) → a < length o → Laid o (set o a b) a (a + 1) 1 (b ∷ [])
laid_byte o a b h =
    let s = set_split o a b h ∙ ap (λ (k : ℕ). take a o ++ b ∷ drop k o) (sym (add-one a)) ∙ sym (append_snoc (take a o) b (drop (a + 1) o)) in
    record { same = s; ends = refl; short = omega arith }

module _ (o p : List ℕ) (a e m : ℕ) (xs : List ℕ) (l : Laid o p a e m xs) where
  -- the list keeps its length
  pub laid_long : a + length xs ≤ length o → length p ≡ length o
  laid_long h = ap length l.same ∙ over_long o a xs h

  -- the same, by another bound
  pub laid_within : (k : ℕ) → length xs ≤ k → Laid o p a e k xs
  laid_within k h = record { same = l.same; ends = l.ends; short = h }

  -- the same, of equal bytes
  pub laid_as : (ys : List ℕ) → xs ≡ ys → Laid o p a e m ys
  laid_as ys h = subst (λ (z : List ℕ). Laid o p a e m z) h l

  -- bytes laid behind laid bytes are both laid
  pub laid_then : (q : List ℕ) (f k : ℕ) (ys : List ℕ) → a + length xs ≤ length o → Laid p q e f k ys → Laid o q a f (m + k) (xs ++ ys)
  laid_then q f k ys h r =
      let s : q ≡ over (over o a xs) (a + length xs) ys =
      r.same ∙ ap (λ (t : List ℕ). over t e ys) l.same ∙ ap (λ (t : ℕ). over (over o a xs) t ys) l.ends
      in
      let g = length-append xs ys in
      let x = l.ends in
      let y = r.ends in
      let u = l.short in
      let v = r.short in
      record { same = s ∙ over_then o a xs ys h; ends = omega arith; short = omega arith }

-- ---- parts laid one behind another

-- some bytes are still to be laid, from place a on: what they then leave is what the whole leaves, laid from place `from` on
pub record Laying (o₀ : List ℕ) (from : ℕ) (whole o : List ℕ) (a : ℕ) (rest : List ℕ) : Type 0 where
  pub long : length o ≡ length o₀
  pub ends : a + length rest ≡ from + length whole
  pub same : over o a rest ≡ over o₀ from whole

module _ (o₀ : List ℕ) (from : ℕ) (whole : List ℕ) where
  -- before the first part the whole is to be laid
  pub laying_start : Laying o₀ from whole o₀ from whole
  laying_start = record { long = refl; ends = refl; same = refl }

  module _ (o : List ℕ) (a : ℕ) (rest : List ℕ) (g : Laying o₀ from whole o a rest) where
    -- the first part laid
    pub laying_on : (part others : List ℕ) → rest ≡ part ++ others → a + length part ≤ length o → (p : List ℕ) (e m : ℕ) → Laid o p a e m part
        → Laying o₀ from whole p e others
    laying_on part others h room p e m l =
        let ends = g.ends in
        let end = l.ends in
        let s = ap length h ∙ length-append part others in
        let x : over p e others ≡ over o a rest =
        ap (λ (z : List ℕ). over z e others) l.same ∙ ap (λ (z : ℕ). over (over o a part) z others) end ∙ over_then o a part others room
        ∙ ap (λ (z : List ℕ). over o a z) (sym h)
        in
        record { long = laid_long o p a e m part l room ∙ g.long; ends = omega arith; same = x ∙ g.same }

    -- nothing is left: the whole is laid
    pub laying_end : rest ≡ [] → (m : ℕ) → a ≤ from + m → Laid o₀ o from a m whole
    laying_end h m few =
        let z = ap length h in
        let ends = g.ends in
        record { same = sym (over_none o a) ∙ ap (λ (x : List ℕ). over o a x) (sym h) ∙ g.same; ends = omega arith; short = omega arith }
