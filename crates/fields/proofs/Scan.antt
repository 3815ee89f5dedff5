-- Five fields read one after another: the loop that reads a line.
use Prim.Native.Nat.{ℕ, zero, suc, ◌+◌, ◌*◌, ◌-◌, ◌≤◌, ◌<◌}
use native.Mathlib.Omega.{arith}
use native.Mathlib.Nat.{add-zero}
use mathlib.Core.Bool.{Bool, true, false}
use mathlib.Core.Path.{◌≡◌, sym, ◌∙◌, ap}
use mathlib.Core.List.{List, [], ◌∷◌}
use lib.ListN.{length, take, drop, set, length-set}
use lib.Seq.{sets, drop-drop, take-set-le}
use Rattle.std.specs.Prelude.{Option, Some, None}
use Rattle.fields.specs.Code.{field_at, behind}
use Rattle.fields.specs.declared.Field.{Field}

-- whether so many fields stand at the front of a text, their numbers, and their bytes with those behind them
pub record Scanned : Type 0 where
  pub good : Bool
  pub numbers : List ℕ
  pub size : ℕ

abbrev scanned_from : Bool → List ℕ → ℕ → Scanned
scanned_from good numbers size = record { good = good; numbers = numbers; size = size }

abbrev with_field : Field → Scanned → Scanned
with_field f s = scanned_from s.good (f.value ∷ s.numbers) (f.size + s.size)

-- a field read, before those behind its bytes
abbrev with_read : Option Field → (ℕ → Scanned) → Scanned
with_read None rest = scanned_from false [] 0
with_read (Some f) rest = with_field f (rest f.size)

unfoldable pub scan : ℕ → List ℕ → Scanned
scan zero text = scanned_from true [] 0
scan (suc n) text = with_read (field_at (behind n) text) (λ (size : ℕ). scan n (drop size text))

-- what holds before each turn of the loop
pub record Scanning (text calls₀ : List ℕ) (from k : ℕ) (calls : List ℕ) (at i : ℕ) : Type 0 where
  pub low : i ≤ 5
  pub behind_from : from ≤ at
  pub high : at ≤ length text
  pub long : length calls ≡ length calls₀
  pub good : (scan (5 - i) (drop at text)).good ≡ (scan 5 (drop from text)).good
  pub numbers : sets calls (k * 5 + i) (scan (5 - i) (drop at text)).numbers ≡ sets calls₀ (k * 5) (scan 5 (drop from text)).numbers
  pub size : at + (scan (5 - i) (drop at text)).size ≡ from + (scan 5 (drop from text)).size
  pub front : take (k * 5) calls ≡ take (k * 5) calls₀

module _ (text calls₀ : List ℕ) (from k : ℕ) (calls : List ℕ) (at i : ℕ) (g : Scanning text calls₀ from k calls at i) where
  module _ (h : i < 5) where
    one_more : scan (5 - i) (drop at text) ≡ scan (suc (4 - i)) (drop at text)
    one_more = let q : 5 - i ≡ suc (4 - i) = omega arith in ap (λ (n : ℕ). scan n (drop at text)) q

    -- no field stands here
    pub scanning_bad : None ≡ field_at (behind (4 - i)) (drop at text) → (scan 5 (drop from text)).good ≡ false
    unfolding scan
    scanning_bad e =
        let q : (scan (suc (4 - i)) (drop at text)).good ≡ false = rw (← e) in
        sym g.good ∙ ap (λ (s : Scanned). s.good) one_more ∙ q

    pub scanning_on : (f : Field) → Some f ≡ field_at (behind (4 - i)) (drop at text) → at + f.size ≤ length text
        → Scanning text calls₀ from k (set calls (k * 5 + i) f.value) (at + f.size) (i + 1)
    unfolding scan
    scanning_on f e w =
        let q : scan (suc (4 - i)) (drop at text) ≡ with_field f (scan (4 - i) (drop f.size (drop at text))) = rw (← e) in
        let u : 4 - i ≡ 5 - (i + 1) = omega arith in
        let d : drop f.size (drop at text) ≡ drop (at + f.size) text = drop-drop f.size at text in
        let s : Scanned = scan (5 - (i + 1)) (drop (at + f.size) text) in
        let p : scan (5 - i) (drop at text) ≡ with_field f s = one_more ∙ q ∙ rw (u, d) in
        let v = g.size in
        let vs : (scan (5 - i) (drop at text)).size ≡ f.size + s.size = ap (λ (x : Scanned). x.size) p in
        let low = g.behind_from in
        let b : suc (k * 5 + i) ≡ k * 5 + (i + 1) = omega arith in
        record {
          low = omega arith;
          behind_from = omega arith;
          high = w;
          long = length-set calls (k * 5 + i) f.value ∙ g.long;
          good = ap (λ (x : Scanned). x.good) (sym p) ∙ g.good;
          numbers = ap (λ (j : ℕ). sets (set calls (k * 5 + i) f.value) j s.numbers) (sym b)
              ∙ ap (λ (x : Scanned). sets calls (k * 5 + i) x.numbers) (sym p) ∙ g.numbers;
          size = omega arith;
          front = take-set-le (k * 5) calls (k * 5 + i) f.value (omega arith) ∙ g.front;
        }

  -- five fields have been read
  module _ (h : 5 ≤ i) where
    none_left : scan (5 - i) (drop at text) ≡ scanned_from true [] 0
    unfolding scan
    none_left = let q : 5 - i ≡ 0 = omega arith in ap (λ (n : ℕ). scan n (drop at text)) q

    pub scanned_good : (scan 5 (drop from text)).good ≡ true
    scanned_good = sym g.good ∙ ap (λ (s : Scanned). s.good) none_left

    pub scanned_numbers : calls ≡ sets calls₀ (k * 5) (scan 5 (drop from text)).numbers
    scanned_numbers = ap (λ (s : Scanned). sets calls (k * 5 + i) s.numbers) (sym none_left) ∙ g.numbers

    pub scanned_size : at ≡ from + (scan 5 (drop from text)).size
    scanned_size = sym (add-zero at) ∙ ap (λ (s : Scanned). at + s.size) (sym none_left) ∙ g.size
