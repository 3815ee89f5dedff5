-- Line feeds stored behind lines: the loop that stores them.
use Prim.Native.Nat.{ℕ, suc, ◌+◌, ◌*◌, ◌-◌, ◌≤◌, ◌<◌}
use native.Mathlib.Omega.{arith}
use native.Mathlib.Nat.{suc-mul}
use mathlib.Core.Path.{◌≡◌, refl, sym, ◌∙◌, ap}
use mathlib.Core.List.{List, [], ◌∷◌, ◌++◌, append_assoc}
use lib.ListN.{length, take, drop, set, replicate, length-set, length-append, length-replicate, replicate-append-replicate, take-append-drop}
use lib.Seq.{drop_at, drop-drop, drop-set-lt, drop-set-add, set_at}
use Rattle.printed.specs.Printed.{comma, line_feed}
use Rattle.printed.specs.Code.{over}
use Rattle.printed.proofs.Laying.{over_none, over_last, over_then}
use Rattle.form.specs.Code.{line_separators, lines_separators}

-- bytes that stand in a list already, laid where they stand, leave it
over_same : (o : List ℕ) (a : ℕ) (xs ys : List ℕ) → drop a o ≡ xs ++ ys → over o a xs ≡ o
over_same o a xs ys e =
    let d : drop (a + length xs) o ≡ ys =
    sym (drop-drop (length xs) a o) ∙ ap (λ (l : List ℕ). drop (length xs) l) e ∙ drop_at xs ys (length xs) refl
    in
    ap (λ (l : List ℕ). take a o ++ xs ++ l) d ∙ append_assoc (take a o) xs ys ∙ ap (λ (l : List ℕ). take a o ++ l) (sym e) ∙ take-append-drop a o

-- commas from place j of commas on are commas
commas_from : (n j : ℕ) → j ≤ n → replicate n comma ≡ replicate j comma ++ replicate (n - j) comma
commas_from n j h =
    let e : n ≡ j + (n - j) = omega arith in
    ap (λ (k : ℕ). replicate k comma) e ∙ sym (replicate-append-replicate j (n - j) comma)

drop_commas : (n j : ℕ) → j ≤ n → drop j (replicate n comma) ≡ replicate (n - j) comma
drop_commas n j h =
    ap (λ (l : List ℕ). drop j l) (commas_from n j h) ∙ drop_at (replicate j comma) (replicate (n - j) comma) j (length-replicate j comma)

-- a line has so many bytes behind its fields
line_long : (fields : ℕ) → 1 ≤ fields → length (line_separators fields) ≡ fields
unfolding line_separators
line_long fields h =
    let e = length-append (replicate (fields - 1) comma) (line_feed ∷ []) in let f = length-replicate (fields - 1) comma in e ∙ omega arith

-- a line feed stored at the last of so many commas makes the bytes behind a line
line_laid : (b : List ℕ) (at fields n : ℕ) → 1 ≤ fields → fields ≤ n → length b ≡ at + n → drop at b ≡ replicate n comma
    → set b (at + fields - 1) line_feed ≡ over b at (line_separators fields)
unfolding line_separators
line_laid b at fields n one few long e =
    let j = fields - 1 in
    let xs = replicate j comma in
    let s : at + fields - 1 ≡ at + j = omega arith in
    let x : length xs ≡ j = length-replicate j comma in
    let m : n - j ≡ suc (n - fields) = omega arith in
    let split : replicate n comma ≡ xs ++ comma ∷ replicate (n - fields) comma =
    commas_from n j (omega arith) ∙ ap (λ (k : ℕ). xs ++ replicate k comma) m
    in
    let now = set b (at + j) line_feed in
    let d : drop at now ≡ xs ++ line_feed ∷ replicate (n - fields) comma =
    drop-set-add at b j line_feed ∙ ap (λ (l : List ℕ). set l j line_feed) (e ∙ split)
    ∙ set_at xs comma (replicate (n - fields) comma) line_feed j x
    in
    ap (λ (k : ℕ). set b k line_feed) s ∙ sym (over_same now at xs (line_feed ∷ replicate (n - fields) comma) d)
    ∙ ap (λ (k : ℕ). over (set b (at + k) line_feed) at xs) (sym x) ∙ over_last b at xs line_feed (omega arith)

-- what holds before each turn: the lines still to be ended leave what all leave
pub record Ending (b₀ : List ℕ) (from lines fields : ℕ) (b : List ℕ) (at i : ℕ) : Type 0 where
  pub low : i ≤ lines
  pub long : length b ≡ length b₀
  pub room : at + (lines - i) * fields ≡ from + lines * fields
  pub commas : drop at b ≡ replicate (length b - at) comma
  pub whole : over b at (lines_separators (lines - i) fields) ≡ over b₀ from (lines_separators lines fields)

module _ (b₀ : List ℕ) (from lines fields : ℕ) where
  module _ (b : List ℕ) (at i : ℕ) (g : Ending b₀ from lines fields b at i) where
    module _ (h : i < lines) where
      fewer : lines - i ≡ suc (lines - (i + 1))
      fewer = omega arith

      -- the line here, with those behind it
      pub ending_room : at + fields + (lines - (i + 1)) * fields ≡ from + lines * fields
      ending_room = let r = g.room in let s = ap (λ (k : ℕ). k * fields) fewer ∙ suc-mul (lines - (i + 1)) fields in omega arith

      pub ending_on : 1 ≤ fields → from + lines * fields ≤ length b₀
          → Ending b₀ from lines fields (set b (at + fields - 1) line_feed) (at + fields) (i + 1)
      unfolding lines_separators
      ending_on one fits =
          let r = ending_room in
          let long = g.long in
          let now = set b (at + fields - 1) line_feed in
          let kept : length now ≡ length b = length-set b (at + fields - 1) line_feed in
          let n = length b - at in
          let rest = lines_separators (lines - (i + 1)) fields in
          let line = line_separators fields in
          let size : length line ≡ fields = line_long fields one in
          let laid : now ≡ over b at line = line_laid b at fields n one (omega arith) (omega arith) g.commas in
          let left : n - fields ≡ length now - (at + fields) = omega arith in
          let c : drop (at + fields) now ≡ replicate (length now - (at + fields)) comma =
          drop-set-lt (at + fields) b (at + fields - 1) line_feed (omega arith) ∙ sym (drop-drop fields at b)
          ∙ ap (λ (l : List ℕ). drop fields l) g.commas ∙ drop_commas n fields (omega arith)
          ∙ ap (λ (k : ℕ). replicate k comma) left
          in
          let w : over now (at + fields) rest ≡ over b at (lines_separators (lines - i) fields) =
          ap (λ (l : List ℕ). over l (at + fields) rest) laid ∙ ap (λ (k : ℕ). over (over b at line) (at + k) rest) (sym size)
          ∙ over_then b at line rest (omega arith) ∙ ap (λ (k : ℕ). over b at (lines_separators k fields)) (sym fewer)
          in
          record { low = omega arith; long = kept ∙ long; room = r; commas = c; whole = w ∙ g.whole }

    -- all lines are ended
    pub ending_end : lines ≤ i → b ≡ over b₀ from (lines_separators lines fields)
    unfolding lines_separators
    ending_end h =
        let z : lines - i ≡ 0 = omega arith in
        sym (over_none b at) ∙ ap (λ (k : ℕ). over b at (lines_separators k fields)) (sym z) ∙ g.whole
