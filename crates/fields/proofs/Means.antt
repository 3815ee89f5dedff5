-- Fields read one after another are the fields that the definition parts at commas.
use Prim.Native.Nat.{ℕ, zero, suc, ◌+◌, ◌≤◌}
use native.Mathlib.Omega.{arith}
use native.Mathlib.Nat.{add-zero}
use mathlib.Core.Bool.{Bool, true, false, ◌&&◌}
use mathlib.Core.Path.{◌≡◌, refl, sym, ◌∙◌, ap, subst}
use mathlib.Core.List.{List, [], ◌∷◌, ◌++◌, append-nil, nil≢cons}
use lib.Dec.{eqb, leb, eqb-suc-suc}
use lib.ListN.{length, get_or, drop, length-append, get_or-eq_default}
use lib.Seq.{drop-append-add, get_or-append_seam}
use borrow.Author.Tests.{eqb-true, eqb-false, ne_eqb, eq-eqb}
use Rattle.std.specs.Prelude.{Some, None}
use Rattle.values.specs.Lists.{all}
use Rattle.values.proofs.Cases.{case, and_left, and_right, and-false, clash}
use Rattle.printed.specs.Printed.{line_feed, comma}
use Rattle.fields.specs.Lines.{Line, line_from, onto_field, fields_of, is_digit, value_of, is_field, numbers_in}
use Rattle.fields.specs.Parse.{first_line, size_of}
use Rattle.fields.specs.Code.{digits_of, field_from, field_at, behind}
use Rattle.fields.proofs.Scan.{Scanned, scan}

-- ---- a text is its digits and what is behind them

pub digits_rest : (t : List ℕ) → digits_of t ++ drop (length (digits_of t)) t ≡ t
unfolding digits_of
digits_rest [] = refl
digits_rest (b ∷ bs) = case (is_digit b) (λ d. rw d (ap (λ (r : List ℕ). b ∷ r) (digits_rest bs))) (λ d. rw d)

pub digits_all : (t : List ℕ) → all is_digit (digits_of t) ≡ true
unfolding digits_of all
digits_all [] = refl
digits_all (b ∷ bs) = case (is_digit b) (λ d. rw d (rw d (digits_all bs))) (λ d. rw d)

-- no digit is behind them
pub digits_over : (t : List ℕ) → digits_of (drop (length (digits_of t)) t) ≡ []
unfolding digits_of
digits_over [] = refl
digits_over (b ∷ bs) = case (is_digit b) (λ d. rw d (digits_over bs)) (λ d. rw d (rw d))

-- ---- digits before a text

-- a digit is neither a line feed nor a comma
no_feed : (b : ℕ) → is_digit b ≡ true → eqb b line_feed ≡ false
no_feed b t = ne_eqb b 10 (λ e. clash {b = is_digit b} t (rw e))

no_comma : (b : ℕ) → is_digit b ≡ true → eqb b comma ≡ false
no_comma b t = ne_eqb b 44 (λ e. clash {b = is_digit b} t (rw e))

pub first_digits : (ds q : List ℕ) → all is_digit ds ≡ true → first_line (ds ++ q) ≡ line_from (ds ++ (first_line q).bytes) (first_line q).ended
unfolding first_line all
first_digits [] q h = refl
first_digits (d ∷ ds) q h =
    let t = and_left (is_digit d) (all is_digit ds) h in
    let e = first_digits ds q (and_right (is_digit d) (all is_digit ds) h) in
    rw (no_feed d t, e)

-- digits before a first field
pub field_digits : (ds r f : List ℕ) (fs : List (List ℕ)) → all is_digit ds ≡ true → fields_of r ≡ f ∷ fs → fields_of (ds ++ r) ≡ (ds ++ f) ∷ fs
unfolding fields_of all
field_digits [] r f fs h e = e
field_digits (d ∷ ds) r f fs h e =
    let t = and_left (is_digit d) (all is_digit ds) h in
    let i = field_digits ds r f fs (and_right (is_digit d) (all is_digit ds) h) e in
    rw (no_comma d t, i)

digits_before : (ds q : List ℕ) → all is_digit ds ≡ true → digits_of q ≡ [] → digits_of (ds ++ q) ≡ ds
unfolding digits_of all
digits_before [] q h e = e
digits_before (d ∷ ds) q h e =
    let t = and_left (is_digit d) (all is_digit ds) h in
    rw t (ap (λ (r : List ℕ). d ∷ r) (digits_before ds q (and_right (is_digit d) (all is_digit ds) h) e))

stray : (ds : List ℕ) (b : ℕ) (f : List ℕ) → is_digit b ≡ false → all is_digit (ds ++ b ∷ f) ≡ false
unfolding all
stray [] b f h = rw h
stray (d ∷ ds) b f h = and-false (is_digit d) (all is_digit (ds ++ b ∷ f)) (stray ds b f h)

-- every line has a field
some_field : (r : List ℕ) → 1 ≤ length (fields_of r)
unfolding fields_of
some_field [] = omega arith
some_field (b ∷ bs) = case (eqb b comma) (λ t. rw t (omega arith)) (λ t. rw t (onto (fields_of bs)))
  where
    onto : (fs : List (List ℕ)) → 1 ≤ length (onto_field b fs)
    onto [] = omega arith
    onto (f ∷ fs) = omega arith

-- ---- the fields of a line, and those read

-- a line has ended and has n fields
abbrev pub fields_test : ℕ → Line → Bool
fields_test n l = l.ended && (eqb (length (fields_of l.bytes)) n && all is_field (fields_of l.bytes))

-- the fields read are those of the first line
pub record Means (n : ℕ) (t : List ℕ) : Type 0 where
  pub good : (scan (suc n) t).good ≡ fields_test (suc n) (first_line t)
  pub read : (scan (suc n) t).good ≡ true
      → ((scan (suc n) t).numbers ≡ numbers_in (first_line t)) × ((scan (suc n) t).size ≡ size_of (first_line t))

means_bad : (n : ℕ) (t : List ℕ) → field_at (behind n) t ≡ None → fields_test (suc n) (first_line t) ≡ false → Means n t
unfolding scan
means_bad n t z f =
    let g : (scan (suc n) t).good ≡ false = rw z in
    record { good = g ∙ sym f; read = λ y. clash y g }

module _ (n : ℕ) (t ds : List ℕ) (e : digits_of t ≡ ds) (h : all is_digit ds ≡ true) (b : ℕ) (k : get_or t (length ds) 0 ≡ b) where
  field_is : b ≡ behind n → is_field ds ≡ true → field_at (behind n) t ≡ Some (field_from (value_of ds) (length ds + 1))
  unfolding field_at
  field_is q f =
      let x : (leb 1 (length ds) && leb (value_of ds) 0xFFFFFFFF) ≡ true = rw h at f in
      let y : eqb b (behind n) ≡ true = eq-eqb b (behind n) q in
      rw (e, k, y, and_left (leb 1 (length ds)) (leb (value_of ds) 0xFFFFFFFF) x, and_right (leb 1 (length ds)) (leb (value_of ds) 0xFFFFFFFF) x)

  field_no : is_field ds ≡ false → field_at (behind n) t ≡ None
  unfolding field_at
  field_no f =
      let x : (leb 1 (length ds) && leb (value_of ds) 0xFFFFFFFF) ≡ false = rw h at f in
      rw (e, k)
      (case (leb 1 (length ds)) (λ y. rw (y, (rw y at x))) (λ y. rw y))

  field_behind : (b ≡ behind n → ⊥) → field_at (behind n) t ≡ None
  unfolding field_at
  field_behind z =
      let y : (leb 1 (length ds) && (leb (value_of ds) 0xFFFFFFFF && eqb b (behind n))) ≡ false =
      and-false (leb 1 (length ds)) (leb (value_of ds) 0xFFFFFFFF && eqb b (behind n))
      (and-false (leb (value_of ds) 0xFFFFFFFF) (eqb b (behind n)) (ne_eqb b (behind n) z))
      in
      rw (e, k, y)

  scan_with : b ≡ behind n → is_field ds ≡ true
      → ((scan (suc n) t).good ≡ (scan n (drop (length ds + 1) t)).good) × ((scan (suc n) t).numbers ≡ value_of ds ∷ (scan n (drop (length ds + 1) t)).numbers)
      × ((scan (suc n) t).size ≡ length ds + 1 + (scan n (drop (length ds + 1) t)).size)
  unfolding scan
  scan_with q f =
      let y = field_is q f in
      (rw y, rw y, rw y)

-- what is known of a text with one field less
abbrev Below : ℕ → List ℕ → Type 0
Below zero t = Unit {0}
Below (suc m) t = Means m t

module _ (ds : List ℕ) (h : all is_digit ds ≡ true) where
  abbrev Test : ℕ → List ℕ → Bool → Type 0
  Test n q x = fields_test (suc n) (first_line (ds ++ q)) ≡ x

  -- by the first line behind the digits
  test_is : (n : ℕ) (q f : List ℕ) (fs : List (List ℕ)) (l : Line) → first_line q ≡ l → fields_of l.bytes ≡ f ∷ fs
      → Test n q (l.ended && (eqb (suc (length fs)) (suc n) && (is_field (ds ++ f) && all is_field fs)))
  unfolding all
  test_is n q f fs l e g = rw (first_digits ds q h, e, field_digits ds l.bytes f fs h g)

  -- the text ends behind the digits
  means_end : (n : ℕ) → Means n (ds ++ [])
  unfolding first_line fields_of digits_of
  means_end n =
      let l : length (ds ++ []) ≤ length ds = (let y = ap length (append-nil ds) in omega arith) in
      let k : get_or (ds ++ []) (length ds) 0 ≡ 0 = get_or-eq_default (ds ++ []) 0 l in
      means_bad n (ds ++ []) (field_behind n (ds ++ []) ds (digits_before ds [] h refl) h 0 k (zero_behind n))
      (test_is n [] [] [] (line_from [] false) refl refl)
    where
      zero_behind : (n : ℕ) → 0 ≡ behind n → ⊥
      zero_behind zero e = absurd (omega arith)
      zero_behind (suc n) e = absurd (omega arith)

  module _ (b : ℕ) (q : List ℕ) (o : digits_of (b ∷ q) ≡ []) where
    abbrev t : List ℕ
    t = ds ++ b ∷ q

    known : digits_of t ≡ ds
    known = digits_before ds (b ∷ q) h o

    at_b : get_or t (length ds) 0 ≡ b
    at_b = get_or-append_seam ds b q 0

    behind_b : drop (length ds + 1) t ≡ q
    behind_b = drop-append-add ds (b ∷ q) 1

    no_field : (n : ℕ) → (b ≡ behind n → ⊥) → Test n (b ∷ q) false → Means n t
    no_field n z f = means_bad n t (field_behind n t ds known h b at_b z) f

    -- a line feed
    means_feed : (n : ℕ) → b ≡ 10 → Means n t
    unfolding first_line fields_of all scan
    means_feed zero e =
        let l : first_line (b ∷ q) ≡ line_from [] true = rw e in
        let test : Test zero (b ∷ q) (is_field (ds ++ []) && true) = test_is zero (b ∷ q) [] [] (line_from [] true) l refl in
        case (is_field ds)
        (λ f.
        let s = scan_with zero t ds known h b at_b e f in
        let x : fields_test 1 (first_line t) ≡ true = test ∙ rw (append-nil ds, f) in
        let y : first_line t ≡ line_from ds true = first_digits ds (b ∷ q) h ∙ rw (l, append-nil ds) in
        let w : fields_of (ds ++ []) ≡ (ds ++ []) ∷ [] = field_digits ds [] [] [] h refl in
        let v : fields_of ds ≡ ds ∷ [] = rw (append-nil ds) at w in
        record {
          good = s.0 ∙ sym x;
          read = λ u. (s.1 ∙ rw (y, v), s.2 ∙ rw y (add-zero (length ds + 1)));
        })
        (λ f. means_bad zero t (field_no zero t ds known h b at_b f) (test ∙ rw (append-nil ds, f)))
    means_feed (suc n) e =
        let l : first_line (b ∷ q) ≡ line_from [] true = rw e in
        let z : eqb 1 (suc (suc n)) ≡ false = ne_eqb 1 (suc (suc n)) (λ w. absurd (omega arith)) in
        no_field (suc n) (λ w. absurd (omega arith)) (test_is (suc n) (b ∷ q) [] [] (line_from [] true) l refl ∙ rw z)

    -- a comma
    means_comma : (n : ℕ) → b ≡ 44 → Below n q → Means n t
    unfolding first_line fields_of all
    means_comma n e below =
        let l : first_line (b ∷ q) ≡ line_from (44 ∷ (first_line q).bytes) (first_line q).ended = rw e in
        by n below
        (test_is n (b ∷ q) [] (fields_of (first_line q).bytes) (line_from (44 ∷ (first_line q).bytes) (first_line q).ended) l refl)
        (first_digits ds (b ∷ q) h ∙ rw l)
        (field_digits ds (44 ∷ (first_line q).bytes) [] (fields_of (first_line q).bytes) h refl)
      where
        by : (n : ℕ) → Below n q → Test n (b ∷ q) ((first_line q).ended && (eqb (suc (length (fields_of (first_line q).bytes))) (suc n)
            && (is_field (ds ++ []) && all is_field (fields_of (first_line q).bytes))))
            → first_line t ≡ line_from (ds ++ 44 ∷ (first_line q).bytes) (first_line q).ended
            → fields_of (ds ++ 44 ∷ (first_line q).bytes) ≡ (ds ++ []) ∷ fields_of (first_line q).bytes → Means n t
        by zero below test line fields =
            let x = some_field (first_line q).bytes in
            let z : eqb (suc (length (fields_of (first_line q).bytes))) 1 ≡ false =
            ne_eqb (suc (length (fields_of (first_line q).bytes))) 1 (λ w. absurd (omega arith))
            in
            no_field zero (λ w. absurd (omega arith)) (test ∙ ap (λ (y : Bool). (first_line q).ended && (y && (is_field (ds ++ [])
            && all is_field (fields_of (first_line q).bytes)))) z ∙ and-false (first_line q).ended false refl)
        by (suc m) below test line fields =
            case (is_field ds)
            (λ f.
            let s = scan_with (suc m) t ds known h b at_b e f in
            let d : scan (suc m) (drop (length ds + 1) t) ≡ scan (suc m) q = ap (scan (suc m)) behind_b in
            let x : fields_test (suc (suc m)) (first_line t) ≡ fields_test (suc m) (first_line q) =
            test ∙ rw (append-nil ds, f, eqb-suc-suc (length (fields_of (first_line q).bytes)) (suc m))
            in
            let g : (scan (suc (suc m)) t).good ≡ (scan (suc m) q).good = s.0 ∙ ap (λ (y : Scanned). y.good) d in
            record {
              good = g ∙ below.good ∙ sym x;
              read = λ u.
                  let r = below.read (sym g ∙ u) in (
                    s.1 ∙ ap (λ (y : Scanned). value_of ds ∷ y.numbers) d ∙ ap (λ (y : List ℕ). value_of ds ∷ y) r.0
                        ∙ sym (rw (line, fields, append-nil ds)),
                    s.2 ∙ ap (λ (y : Scanned). length ds + 1 + y.size) d ∙ ap (λ (y : ℕ). length ds + 1 + y) r.1
                        ∙ (let w = length-append ds (44 ∷ (first_line q).bytes) in rw line (omega arith)),
                  );
            })
            (λ f. means_bad (suc m) t (field_no (suc m) t ds known h b at_b f)
            (test ∙ rw (append-nil ds, f) (ap (λ (y : Bool). (first_line q).ended && y)
            (and-false (eqb (suc (length (fields_of (first_line q).bytes))) (suc (suc m))) false refl) ∙ and-false (first_line q).ended false refl)))

    -- a field with a byte that is no digit is none
    no_digit : is_digit b ≡ false
    unfolding digits_of
    no_digit = case (is_digit b) (λ u. let z : b ∷ digits_of q ≡ [] = rw u at o in absurd (nil≢cons (sym z))) (λ u. u)

    none : (n : ℕ) (f : List ℕ) (fs : List (List ℕ))
        → ((first_line q).ended && (eqb (suc (length fs)) (suc n) && (is_field (ds ++ b ∷ f) && all is_field fs))) ≡ false
    none n f fs =
        let z : is_field (ds ++ b ∷ f) ≡ false =
        and-false (leb 1 (length (ds ++ b ∷ f))) (all is_digit (ds ++ b ∷ f) && leb (value_of (ds ++ b ∷ f)) 0xFFFFFFFF) (rw (stray ds b f no_digit))
        in
        and-false (first_line q).ended (eqb (suc (length fs)) (suc n) && (is_field (ds ++ b ∷ f) && all is_field fs))
        (and-false (eqb (suc (length fs)) (suc n)) (is_field (ds ++ b ∷ f) && all is_field fs) (rw z))

    -- any other byte
    means_other : (n : ℕ) → (b ≡ 10 → ⊥) → (b ≡ 44 → ⊥) → Means n t
    unfolding first_line fields_of
    means_other n x y =
        let l : first_line (b ∷ q) ≡ line_from (b ∷ (first_line q).bytes) (first_line q).ended = rw (ne_eqb b 10 x) in
        no_field n (apart n) (by l (fields_of (first_line q).bytes) (rw (ne_eqb b 44 y)))
      where
        apart : (n : ℕ) → b ≡ behind n → ⊥
        apart zero e = x e
        apart (suc m) e = y e

        by : first_line (b ∷ q) ≡ line_from (b ∷ (first_line q).bytes) (first_line q).ended → (fs : List (List ℕ))
            → fields_of (b ∷ (first_line q).bytes) ≡ onto_field b fs → Test n (b ∷ q) false
        by l [] g = test_is n (b ∷ q) (b ∷ []) [] (line_from (b ∷ (first_line q).bytes) (first_line q).ended) l g ∙ none n [] []
        by l (f ∷ fs) g = test_is n (b ∷ q) (b ∷ f) fs (line_from (b ∷ (first_line q).bytes) (first_line q).ended) l g ∙ none n f fs

-- ---- for every text

rest_means : (n : ℕ) (ds q : List ℕ) → all is_digit ds ≡ true → digits_of q ≡ [] → ((t : List ℕ) → Below n t) → Means n (ds ++ q)
rest_means n ds [] h o below = means_end ds h n
rest_means n ds (b ∷ q) h o below =
    case (eqb b 10) (λ f. means_feed ds h b q o n (eqb-true b 10 f))
    (λ f.
    case (eqb b 44) (λ g. means_comma ds h b q o n (eqb-true b 44 g) (below q))
    (λ g. means_other ds h b q o n (eqb-false b 10 f) (eqb-false b 44 g)))

pub means : (n : ℕ) (t : List ℕ) → Means n t
means zero t = subst (Means zero) (digits_rest t) (rest_means zero (digits_of t) (drop (length (digits_of t)) t) (digits_all t) (digits_over t) (λ u. tt))
means (suc n) t =
    subst (Means (suc n)) (digits_rest t) (rest_means (suc n) (digits_of t) (drop (length (digits_of t)) t) (digits_all t) (digits_over t) (means n))
