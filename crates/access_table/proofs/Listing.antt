-- The steps of the code that lays the lines of a table: a line, and the lines one behind another.
use Prim.Native.Nat.{ℕ, ◌+◌, ◌*◌, ◌<◌, ◌≤◌}
use native.Mathlib.Omega.{arith}
use native.Mathlib.Numerals.{add-one}
use mathlib.Core.Path.{◌≡◌, sym, ◌∙◌, ap}
use mathlib.Core.List.{List, [], ◌∷◌, ◌++◌}
use lib.ListN.{length, get_or, drop, drop_of_length-le}
use lib.Seq.{append_snoc, drop-cons}
use Rattle.printed.specs.Printed.{decimal, comma, line_feed}
use Rattle.printed.specs.Code.{Laid}
use Rattle.printed.proofs.Decimal.{tens, decimal_short}
use Rattle.printed.proofs.Laying.{Laying, laying_start, laying_on, laying_end, laid_within, laid_as, laid_then}
use Rattle.access_table.specs.Lines.{entry_line, entry_lines}

-- a number below 1,000 has at most three digits
pub decimal_three : (n : ℕ) → n < 1000 → length (decimal n) ≤ 3
unfolding tens
decimal_three n h = decimal_short 2 n h

-- the four parts of a line laid are the line laid
pub laid_entry : (o p₁ p₂ p₃ p₄ : List ℕ) (a e₁ e₂ e₃ e₄ b₂ b₄ i n : ℕ) → i < 1000 → n < 1000 → a + 8 ≤ length o
    → Laid o p₁ a e₁ 19 (decimal i) → Laid p₁ p₂ e₁ e₂ 1 (b₂ ∷ []) → b₂ ≡ comma
    → Laid p₂ p₃ e₂ e₃ 19 (decimal n) → Laid p₃ p₄ e₃ e₄ 1 (b₄ ∷ []) → b₄ ≡ line_feed → Laid o p₄ a e₄ 8 (entry_line i n)
unfolding entry_line
laid_entry o p₁ p₂ p₃ p₄ a e₁ e₂ e₃ e₄ b₂ b₄ i n hi hn h l₁ l₂ f₂ l₃ l₄ f₄ =
    let d = decimal i in
    let v = decimal n in
    let u₁ = decimal_three i hi in
    let u₃ = decimal_three n hn in
    let m₁ = laid_within o p₁ a e₁ 19 d l₁ 3 u₁ in
    let m₂ = laid_then o p₁ a e₁ 3 d m₁ p₂ e₂ 1 (comma ∷ []) (omega arith) (laid_as p₁ p₂ e₁ e₂ 1 (b₂ ∷ []) l₂ (comma ∷ []) (rw f₂)) in
    let u₂ = m₂.short in
    let m₃ = laid_then o p₂ a e₂ 4 (d ++ comma ∷ []) m₂ p₃ e₃ 3 v (omega arith) (laid_within p₂ p₃ e₂ e₃ 19 v l₃ 3 u₃) in
    let s₃ = m₃.short in
    let last = laid_as p₃ p₄ e₃ e₄ 1 (b₄ ∷ []) l₄ (line_feed ∷ []) (rw f₄) in
    let m₄ = laid_then o p₃ a e₃ 7 (d ++ (comma ∷ []) ++ v) m₃ p₄ e₄ 1 (line_feed ∷ []) (omega arith) last in
    laid_as o p₄ a e₄ 8 (d ++ (comma ∷ []) ++ v ++ line_feed ∷ []) m₄ (entry_line i n)
    (ap (λ (x : List ℕ). x ++ line_feed ∷ []) (append_snoc d comma v))

-- the lines of the entries from index i on are to be laid
pub record Listing (o₀ table o : List ℕ) (a i : ℕ) : Type 0 where
  pub low : i ≤ length table
  pub few : a ≤ i * 8
  pub laying : Laying o₀ 0 (entry_lines 0 table) o a (entry_lines i (drop i table))

module _ (o₀ table : List ℕ) where
  -- before the first line all are to be laid
  pub listing_start : Listing o₀ table o₀ 0 0
  listing_start = record { low = omega arith; few = omega arith; laying = laying_start o₀ 0 (entry_lines 0 table) }

  module _ (o : List ℕ) (a i : ℕ) (g : Listing o₀ table o a i) where
    -- the lines from index i on are the line of index i and those behind it
    lines_more : i < length table → entry_lines i (drop i table) ≡ entry_line i (get_or table i 0) ++ entry_lines (i + 1) (drop (i + 1) table)
    unfolding entry_lines
    lines_more h =
        ap (entry_lines i) (drop-cons table i 0 h)
        ∙ ap (λ (k : ℕ). entry_line i (get_or table i 0) ++ entry_lines (i + 1) (drop k table)) (sym (add-one i))

    -- the line of index i, laid
    pub listing_on : (p : List ℕ) (e : ℕ) → length table * 8 ≤ length o₀ → i < length table → Laid o p a e 8 (entry_line i (get_or table i 0))
        → Listing o₀ table p e (i + 1)
    listing_on p e room h l =
        let few = g.few in
        let long = g.laying.long in
        let short = l.short in
        let end = l.ends in
        let on = laying_on o₀ 0 (entry_lines 0 table) o a (entry_lines i (drop i table)) g.laying (entry_line i (get_or table i 0))
        (entry_lines (i + 1) (drop (i + 1) table)) (lines_more h) (omega arith) p e 8 l
        in
        record { low = omega arith; few = omega arith; laying = on }

    -- none is left: the lines are laid
    pub listing_end : length table ≤ i → (m : ℕ) → length table * 8 ≤ m → Laid o₀ o 0 a m (entry_lines 0 table)
    unfolding entry_lines
    listing_end h m most =
        let low = g.low in
        let few = g.few in
        laying_end o₀ 0 (entry_lines 0 table) o a (entry_lines i (drop i table)) g.laying (ap (entry_lines i) (drop_of_length-le table {i = i} h)) m
        (omega arith)
