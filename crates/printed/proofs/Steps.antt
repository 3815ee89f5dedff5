-- The steps of the code: the digits of a number, a value, a line, the lines.
use Prim.Native.Nat.{ℕ, suc, ◌+◌, ◌*◌, ◌-◌, ◌/◌, ◌%◌, ◌<◌, ◌≤◌}
use native.Mathlib.Omega.{arith}
use native.Mathlib.Nat.{add-zero, sub-zero}
use mathlib.Core.Bool.{Bool, true, false, ◌&&◌}
use mathlib.Core.Path.{◌≡◌, refl, sym, ◌∙◌, ap}
use mathlib.Core.List.{List, [], ◌∷◌, ◌++◌}
use lib.Dec.{eqb, ltb}
use lib.ListN.{length, get_or, set}
use lib.Seq.{append_snoc}
use borrow.Author.Tests.{le-leb, lt-leb}
use Rattle.trace.specs.Codes.{kind_unit}
use Rattle.printed.specs.Printed.{zero_digit, decimal, line_feed, comma, minus}
use Rattle.printed.specs.Code.{over, Laid, value_text, code_line, code_lines}
use Rattle.printed.proofs.Decimal.{digits_of, digits_long, digits_all, decimal_one, decimal_ten}
use Rattle.printed.proofs.Laying.{Laying, laying_start, laying_on, laying_end, over_none, over_last, laid_within, laid_as, laid_then}

-- ---- the digits of a number, from the last on

-- the digits before place i are to be laid: what they leave is what the number leaves
pub record Writing (o₀ : List ℕ) (a n : ℕ) (o : List ℕ) (i rest : ℕ) : Type 0 where
  pub low : a ≤ i
  pub high : i ≤ a + length (decimal n)
  pub whole : over o a (digits_of (i - a) rest) ≡ over o₀ a (decimal n)

module _ (o₀ : List ℕ) (a n : ℕ) where
  -- before the first digit all are to be laid
  pub writing_start : (e : ℕ) → e ≡ length (decimal n) → Writing o₀ a n o₀ (a + e) n
  writing_start e h =
      let k : a + e - a ≡ length (decimal n) = omega arith in
      let w = ap (λ (l : List ℕ). over o₀ a l) (ap (λ (j : ℕ). digits_of j n) k ∙ digits_all n) in
      record { low = omega arith; high = omega arith; whole = w }

  module _ (o : List ℕ) (i rest : ℕ) (w : Writing o₀ a n o i rest) where
    -- the last digit of what is left, stored before place i
    pub writing_on : (j b : ℕ) → i ≡ j + 1 → a + length (decimal n) ≤ length o → a < i → b ≡ zero_digit + rest % 10
        → Writing o₀ a n (set o j b) j (rest / 10)
    unfolding digits_of
    writing_on j b q f h e =
        let high = w.high in
        let m = j - a in
        let d = digits_of m (rest / 10) in
        let l : length d ≡ m = digits_long m (rest / 10) in
        let k : i - a ≡ suc m = omega arith in
        let p : j ≡ a + length d = omega arith in
        let s : over (set o j b) a d ≡ over o a (digits_of (i - a) rest) =
        ap (λ (x : ℕ). over (set o x b) a d) p ∙ over_last o a d b (omega arith) ∙ ap (λ (x : ℕ). over o a (d ++ x ∷ [])) e
        ∙ ap (λ (x : ℕ). over o a (digits_of x rest)) (sym k)
        in
        record { low = omega arith; high = omega arith; whole = s ∙ w.whole }

    -- none is left: the number is laid
    pub writing_end : (e : ℕ) → e ≡ length (decimal n) → e ≤ 19 → i ≤ a → Laid o₀ o a (a + e) 19 (decimal n)
    unfolding digits_of
    writing_end e h g f =
        let k : i - a ≡ 0 = omega arith in
        let s = sym (over_none o a) ∙ ap (λ (x : ℕ). over o a (digits_of x rest)) (sym k) ∙ w.whole in
        record { same = s; ends = ap (λ (x : ℕ). a + x) h; short = omega arith }

-- ---- a value

-- below 2^31 a value is its digits
pub value_low : (signed : Bool) (v : ℕ) → v < 0x80000000 → value_text signed v ≡ decimal v
value_low true v h = rw (lt-leb 0x80000000 v h)
value_low false v h = refl

-- without a sign a value is its digits
pub value_plain : (signed : Bool) (v : ℕ) → signed ≡ false → value_text signed v ≡ decimal v
value_plain signed v h = rw h

-- with a sign, from 2^31 on, a value is a minus sign and the digits of what is missing to 2^32
pub value_minus : (signed : Bool) (v : ℕ) → signed ≡ true → 0x80000000 ≤ v → value_text signed v ≡ minus ∷ decimal (kind_unit - v)
value_minus signed v h g = rw (h, le-leb 0x80000000 v g)

module _ (o p : List ℕ) (a e v : ℕ) (signed : Bool) (small : v < 0x100000000) where
  -- its digits laid are the value laid
  pub laid_digits : value_text signed v ≡ decimal v → Laid o p a e 19 (decimal v) → Laid o p a e 11 (value_text signed v)
  laid_digits t l =
      let h = decimal_ten v (omega arith) in
      laid_as o p a e 11 (decimal v) (laid_within o p a e 19 (decimal v) l 11 (omega arith)) (value_text signed v) (sym t)

  -- a minus sign laid, and behind it the digits
  pub laid_minus : (q : List ℕ) (b sign : ℕ) → a + 11 ≤ length o → signed ≡ true → 0x80000000 ≤ v → Laid o q a b 1 (sign ∷ []) → sign ≡ minus
      → Laid q p b e 19 (decimal (kind_unit - v)) → Laid o p a e 11 (value_text signed v)
  laid_minus q b sign h s g l m r =
      let d = decimal (kind_unit - v) in
      let t = decimal_ten (kind_unit - v) (omega arith) in
      laid_as o p a e 11 (sign ∷ d) (laid_then o q a b 1 (sign ∷ []) l p e 10 d (omega arith) (laid_within q p b e 19 d r 10 t)) (value_text signed v)
      (ap (λ (x : ℕ). x ∷ d) m ∙ sym (value_minus signed v s g))

-- a conjunction whose first part holds is the second part
pub and_rest : (a b : Bool) → a ≡ true → b ≡ (a && b)
and_rest a b h = rw h

-- ---- a line

-- the six parts of a line laid are the line laid
pub laid_line : (o p₁ p₂ p₃ p₄ p₅ p₆ : List ℕ) (a e₁ e₂ e₃ e₄ e₅ e₆ b₂ b₄ b₆ i code : ℕ) (signed sign : Bool) → code < 0x300000000 → a + 34 ≤ length o
    → Laid o p₁ a e₁ 19 (decimal i) → Laid p₁ p₂ e₁ e₂ 1 (b₂ ∷ []) → b₂ ≡ comma → Laid p₂ p₃ e₂ e₃ 1 ((zero_digit + code / kind_unit) ∷ [])
    → Laid p₃ p₄ e₃ e₄ 1 (b₄ ∷ []) → b₄ ≡ comma → sign ≡ (signed && ltb code kind_unit) → Laid p₄ p₅ e₄ e₅ 11 (value_text sign (code % kind_unit))
    → Laid p₅ p₆ e₅ e₆ 1 (b₆ ∷ []) → b₆ ≡ line_feed → Laid o p₆ a e₆ 34 (code_line i signed code)
unfolding code_line
laid_line o p₁ p₂ p₃ p₄ p₅ p₆ a e₁ e₂ e₃ e₄ e₅ e₆ b₂ b₄ b₆ i code signed sign small h l₁ l₂ f₂ l₃ l₄ f₄ s l₅ l₆ f₆ =
    let d = decimal i in
    let k = (zero_digit + code / kind_unit) ∷ [] in
    let v = value_text sign (code % kind_unit) in
    let u₁ = l₁.short in
    let m₂ = laid_then o p₁ a e₁ 19 d l₁ p₂ e₂ 1 (comma ∷ []) (omega arith) (laid_as p₁ p₂ e₁ e₂ 1 (b₂ ∷ []) l₂ (comma ∷ []) (rw f₂)) in
    let u₂ = m₂.short in
    let m₃ = laid_then o p₂ a e₂ 20 (d ++ comma ∷ []) m₂ p₃ e₃ 1 k (omega arith) l₃ in
    let u₃ = m₃.short in
    let front = d ++ (comma ∷ []) ++ k in
    let m₄ = laid_then o p₃ a e₃ 21 front m₃ p₄ e₄ 1 (comma ∷ []) (omega arith) (laid_as p₃ p₄ e₃ e₄ 1 (b₄ ∷ []) l₄ (comma ∷ []) (rw f₄)) in
    let u₄ = m₄.short in
    let m₅ = laid_then o p₄ a e₄ 22 (front ++ comma ∷ []) m₄ p₅ e₅ 11 v (omega arith) l₅ in
    let u₅ = m₅.short in
    let last = laid_as p₅ p₆ e₅ e₆ 1 (b₆ ∷ []) l₆ (line_feed ∷ []) (rw f₆) in
    let m₆ = laid_then o p₅ a e₅ 33 (front ++ (comma ∷ []) ++ v) m₅ p₆ e₆ 1 (line_feed ∷ []) (omega arith) last in
    let kind : front ≡ d ++ comma ∷ decimal (code / kind_unit) =
    append_snoc d comma k ∙ ap (λ (x : List ℕ). d ++ comma ∷ x) (sym (decimal_one (code / kind_unit) (omega arith)))
    in
    let all : front ++ (comma ∷ []) ++ v ++ line_feed ∷ [] ≡ code_line i signed code =
    ap (λ (x : List ℕ). x ++ line_feed ∷ []) (append_snoc front comma v) ∙ ap (λ (x : List ℕ). x ++ comma ∷ v ++ line_feed ∷ []) kind
    ∙ ap (λ (x : Bool). d ++ comma ∷ decimal (code / kind_unit) ++ comma ∷ value_text x (code % kind_unit) ++ line_feed ∷ []) s
    in
    laid_as o p₆ a e₆ 34 (front ++ (comma ∷ []) ++ v ++ line_feed ∷ []) m₆ (code_line i signed code) all

-- ---- the lines

-- the lines from call k on are to be laid
pub record Printing (o₀ calls answers : List ℕ) (n first : ℕ) (o : List ℕ) (a k : ℕ) : Type 0 where
  pub low : k ≤ n
  pub few : a ≤ k * 34
  pub laying : Laying o₀ 0 (code_lines n first calls answers 0) o a (code_lines (n - k) (first + k) calls answers k)

module _ (o₀ calls answers : List ℕ) (n first : ℕ) where
  -- before the first line all are to be laid
  pub printing_start : Printing o₀ calls answers n first o₀ 0 0
  printing_start =
      record { low = omega arith; few = omega arith; laying = rw (sub-zero n, add-zero first) (laying_start o₀ 0 (code_lines n first calls answers 0)) }

  module _ (o : List ℕ) (a k : ℕ) (g : Printing o₀ calls answers n first o a k) where
    -- the lines from call k on are the line of call k and those behind it
    lines_more : k < n → code_lines (n - k) (first + k) calls answers k
        ≡ code_line (first + k) (eqb (get_or calls (k * 5) 0) 1) (get_or answers k 0) ++ code_lines (n - (k + 1)) (first + (k + 1)) calls answers (k + 1)
    unfolding code_lines
    lines_more h =
        let j : n - k ≡ suc (n - (k + 1)) = omega arith in
        let f : first + k + 1 ≡ first + (k + 1) = omega arith in
        ap (λ (x : ℕ). code_lines x (first + k) calls answers k) j
        ∙ ap (λ (x : ℕ). code_line (first + k) (eqb (get_or calls (k * 5) 0) 1) (get_or answers k 0) ++ code_lines (n - (k + 1)) x calls answers (k + 1)) f

    -- the line of call k, laid
    pub printing_on : (p : List ℕ) (e : ℕ) → n * 34 ≤ length o₀ → k < n
        → Laid o p a e 34 (code_line (first + k) (eqb (get_or calls (k * 5) 0) 1) (get_or answers k 0)) → Printing o₀ calls answers n first p e (k + 1)
    printing_on p e fits h l =
        let few = g.few in
        let long = g.laying.long in
        let short = l.short in
        let end = l.ends in
        let on = laying_on o₀ 0 (code_lines n first calls answers 0) o a (code_lines (n - k) (first + k) calls answers k) g.laying
        (code_line (first + k) (eqb (get_or calls (k * 5) 0) 1) (get_or answers k 0)) (code_lines (n - (k + 1)) (first + (k + 1)) calls answers (k + 1))
        (lines_more h) (omega arith) p e 34 l
        in
        record { low = omega arith; few = omega arith; laying = on }

    -- none is left: the lines are laid
    pub printing_end : n ≤ k → Laid o₀ o 0 a (n * 34) (code_lines n first calls answers 0)
    unfolding code_lines
    printing_end h =
        let j : n - k ≡ 0 = omega arith in
        let low = g.low in
        let few = g.few in
        laying_end o₀ 0 (code_lines n first calls answers 0) o a (code_lines (n - k) (first + k) calls answers k) g.laying
        (ap (λ (x : ℕ). code_lines x (first + k) calls answers k) j) (n * 34) (omega arith)
