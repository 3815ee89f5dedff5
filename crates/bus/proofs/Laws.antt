-- Which words abort, and how far a fill reads: laws that callers cite.
use Rattle.std.specs.Prelude.{Some, None}
use Prim.Native.Nat.{ℕ, zero, suc, ◌+◌, ◌-◌, ◌*◌, ◌/◌, ◌%◌, ◌<◌, ◌≤◌}
use native.Mathlib.Omega.{arith}
use native.Mathlib.Nat.{add-zero}
use native.Mathlib.Numerals.{add-one}
use mathlib.Core.Bool.{Bool, true, false, ◌||◌}
use Rattle.std.specs.List.{list_any, range_with_len}
use mathlib.Core.Path.{◌≡◌, refl, sym, ◌∙◌, ap}
use mathlib.Core.List.{List}
use lib.Dec.{eqb, ltb}
use lib.ListN.{length, get_or}
use borrow.Author.Tests.{ltb-true, ltb-false, lt-ltb, le-ltb, eqb-true, eqb-false}
use Rattle.values.specs.Addresses.{word_of, word_in_line, word_of_line}
use Rattle.values.specs.declared.PhysicalAddress.{PhysicalAddress}
use Rattle.values.proofs.Cases.{case, or_left, or_right, or_none}
use Rattle.words.specs.Words.{value_at}
use Rattle.bus.specs.Physical.{Physical, is_bad, outside, aborts, aborts_within, wanted_aborts, line_aborts}
use Rattle.bus.specs.Reader.{descriptor_at}

module _ (m : Physical) (pa : PhysicalAddress) where
  -- a word that answers lies inside memory, and is not bad
  pub answers : aborts m pa ≡ false → pa.0 / 4 * 4 + 4 ≤ length m.bytes
  unfolding aborts
  answers h = ltb-false (length m.bytes) (word_of pa * 4 + 4) (or_none (outside m pa) (is_bad m.bad (word_of pa)) h).0

  pub answers_good : aborts m pa ≡ false → is_bad m.bad (pa.0 / 4) ≡ false
  unfolding aborts
  answers_good h = (or_none (outside m pa) (is_bad m.bad (word_of pa)) h).1

  -- and such a word answers
  pub good_answers : pa.0 / 4 * 4 + 4 ≤ length m.bytes → is_bad m.bad (pa.0 / 4) ≡ false → aborts m pa ≡ false
  unfolding aborts
  good_answers h g = rw (le-ltb (length m.bytes) (word_of pa * 4 + 4) h, g)

  -- a bad word aborts, and so does a word outside memory
  pub bad_aborts : is_bad m.bad (pa.0 / 4) ≡ true → aborts m pa ≡ true
  unfolding aborts
  bad_aborts h = or_right (outside m pa) (is_bad m.bad (word_of pa)) h

  pub outside_aborts : outside m pa ≡ true → aborts m pa ≡ true
  unfolding aborts
  outside_aborts h = or_left (outside m pa) (is_bad m.bad (word_of pa)) h

  -- a word inside memory that aborts is bad
  pub inside_bad : outside m pa ≡ false → aborts m pa ≡ is_bad m.bad (pa.0 / 4)
  unfolding aborts
  inside_bad h = rw h

  -- behind the end of memory every word aborts
  pub aborts_behind : length m.bytes ≤ pa.0 → aborts m pa ≡ true
  aborts_behind h = outside_aborts (lt-ltb (length m.bytes) (word_of pa * 4 + 4) (omega arith))

  pub descriptor_in : aborts m pa ≡ false → descriptor_at m pa ≡ Some (value_at 4 m.bytes (word_of pa * 4))
  unfolding descriptor_at
  descriptor_in h = rw h

  pub descriptor_out : aborts m pa ≡ true → descriptor_at m pa ≡ None
  unfolding descriptor_at
  descriptor_out h = rw h

-- two memories of one length with one map abort at the same words
pub aborts_same : (m l : Physical) → length m.bytes ≡ length l.bytes → m.bad ≡ l.bad → (pa : PhysicalAddress) → aborts m pa ≡ aborts l pa
unfolding aborts
aborts_same m l h g pa = rw (h, g)

-- addresses of one word abort alike
pub aborts_word : (m : Physical) (pa qa : PhysicalAddress) → pa.0 / 4 ≡ qa.0 / 4 → aborts m pa ≡ aborts m qa
unfolding aborts
aborts_word m pa qa h = rw h

-- four map bytes that are zeros, as one number: their words are good
zero_bytes : (n : ℕ) (bad : List ℕ) (w : ℕ) → value_at n bad w ≡ 0 → (k : ℕ) → k < n → get_or bad (w + k) 0 ≡ 0
unfolding value_at
zero_bytes zero bad w e k h = absurd (omega arith)
zero_bytes (suc n) bad w e zero h = let i : w + 0 ≡ w = omega arith in rw i (omega (arith, e))
zero_bytes (suc n) bad w e (suc k) h =
    let i : w + suc k ≡ w + 1 + k = omega arith in
    rw i (zero_bytes n bad (w + 1) (omega (arith, e)) k (omega arith))

pub zero_good : (bad : List ℕ) (w : ℕ) → value_at 4 bad w ≡ 0 → (k : ℕ) → k < 4 → is_bad bad (w + k) ≡ false
unfolding is_bad
zero_good bad w e k h = ap (λ (x : ℕ). eqb x 1) (zero_bytes 4 bad w e k h)

-- ---- how far a fill reads

pub within_same : (m l : Physical) → length m.bytes ≡ length l.bytes → m.bad ≡ l.bad → (pa : PhysicalAddress) (n : ℕ)
    → aborts_within m pa n ≡ aborts_within l pa n
unfolding aborts_within
within_same m l h g pa zero = refl
within_same m l h g pa (suc n) = rw (within_same m l h g pa n, aborts_same m l h g (word_of_line pa n))

module _ (m : Physical) (pa : PhysicalAddress) where
  -- one of the words aborts
  pub within_found : (n k : ℕ) → k < n → aborts m (word_of_line pa k) ≡ true → aborts_within m pa n ≡ true
  unfolding aborts_within
  within_found zero k h e = absurd (omega arith)
  within_found (suc n) k h e =
      case (eqb k n)
      (λ t. or_right (aborts_within m pa n) (aborts m (word_of_line pa n)) (rw (← eqb-true k n t) e))
      (λ t. or_left (aborts_within m pa n) (aborts m (word_of_line pa n)) (within_found n k (low (eqb-false k n t)) e))
    where
      low : (k ≡ n → ⊥) → k < n
      low d = omega arith

  -- none of them does
  pub within_none : (n k : ℕ) → k < n → aborts_within m pa n ≡ false → aborts m (word_of_line pa k) ≡ false
  unfolding aborts_within
  within_none zero k h e = absurd (omega arith)
  within_none (suc n) k h e =
      let both = or_none (aborts_within m pa n) (aborts m (word_of_line pa n)) e in
      case (eqb k n)
      (λ t. rw (eqb-true k n t) both.1)
      (λ t. within_none n k (low (eqb-false k n t)) both.0)
    where
      low : (k ≡ n → ⊥) → k < n
      low d = omega arith

  pub within_less : (n k : ℕ) → k ≤ n → aborts_within m pa n ≡ false → aborts_within m pa k ≡ false
  unfolding aborts_within
  within_less zero k h e = let z : k ≡ 0 = omega arith in rw z
  within_less (suc n) k h e =
      case (eqb k (suc n))
      (λ t. rw (eqb-true k (suc n) t) e)
      (λ t. within_less n k (low (eqb-false k (suc n) t)) (or_none (aborts_within m pa n) (aborts m (word_of_line pa n)) e).0)
    where
      low : (k ≡ suc n → ⊥) → k ≤ n
      low d = omega arith

  pub within_zero : aborts_within m pa 0 ≡ false
  unfolding aborts_within
  within_zero = refl

  pub within_next : (n : ℕ) → aborts_within m pa n ≡ false → aborts m (word_of_line pa n) ≡ false → aborts_within m pa (n + 1) ≡ false
  unfolding aborts_within
  within_next n e h = let k : n + 1 ≡ suc n = add-one n in rw (k, e, h)

  -- the words in their order: the first a, and the n behind them
  within_from : (n a : ℕ) → (aborts_within m pa a || list_any (λ i. aborts m (word_of_line pa i)) (range_with_len a n)) ≡ aborts_within m pa (a + n)
  unfolding aborts_within
  within_from zero a = or_nothing (aborts_within m pa a) ∙ ap (aborts_within m pa) (sym (add-zero a))
    where
      or_nothing : (x : Bool) → (x || false) ≡ x
      or_nothing true = refl
      or_nothing false = refl
  within_from (suc n) a =
      let e : a + 1 + n ≡ a + suc n = omega arith in
      let k : a + 1 ≡ suc a = add-one a in
      or_assoc (aborts_within m pa a) (aborts m (word_of_line pa a)) (list_any (λ i. aborts m (word_of_line pa i)) (range_with_len (a + 1) n))
      ∙ ap (λ (j : ℕ). aborts_within m pa j || list_any (λ i. aborts m (word_of_line pa i)) (range_with_len (a + 1) n)) (sym k)
      ∙ within_from n (a + 1) ∙ ap (aborts_within m pa) e
    where
      or_assoc : (x y z : Bool) → (x || (y || z)) ≡ ((x || y) || z)
      or_assoc true y z = refl
      or_assoc false y z = refl

  pub within_any : (n : ℕ) → list_any (λ i. aborts m (word_of_line pa i)) (range_with_len 0 n) ≡ aborts_within m pa n
  unfolding aborts_within
  within_any n = let e : 0 + n ≡ n = omega arith in within_from n 0 ∙ ap (aborts_within m pa) e

  pub within_all : (n : ℕ) → ((k : ℕ) → k < n → aborts m (word_of_line pa k) ≡ false) → aborts_within m pa n ≡ false
  unfolding aborts_within
  within_all zero h = refl
  within_all (suc n) h = rw (within_all n (λ k l. h k (omega arith)), h n (omega arith))

  -- a line inside memory whose words are good answers
  pub line_answers_lem : (first : ℕ) → first ≡ pa.0 / 32 * 8 → first * 4 + 32 ≤ length m.bytes
      → ((k : ℕ) → k < 4 → is_bad m.bad (first + k) ≡ false) → ((k : ℕ) → k < 4 → is_bad m.bad (first + 4 + k) ≡ false) → line_aborts m pa ≡ false
  line_answers_lem first e inside low high =
      within_all 8
      (λ k h.
      let w : (pa.0 / 32 * 32 + k * 4) / 4 ≡ first + k = omega arith in
      good_answers m (word_of_line pa k) (omega arith)
      (ap (is_bad m.bad) w
      ∙ case (ltb k 4)
      (λ t. low k (ltb-true k 4 t))
      (λ t.
      let l = ltb-false k 4 t in
      let i : first + k ≡ first + 4 + (k - 4) = omega arith in
      ap (is_bad m.bad) i ∙ high (k - 4) (omega arith))))

  -- a line that is read whole is read up to the wanted word
  pub line_wanted : line_aborts m pa ≡ false → wanted_aborts m pa ≡ false
  line_wanted h = within_less 8 (word_in_line pa + 1) (omega arith) h

  -- the wanted word is the last one read before it serves the load
  pub wanted_own : wanted_aborts m pa ≡ false → aborts m pa ≡ false
  wanted_own h =
      aborts_word m pa (word_of_line pa (word_in_line pa)) (omega arith)
      ∙ within_none (word_in_line pa + 1) (word_in_line pa) (omega arith) h

  pub own_wanted : aborts m pa ≡ true → wanted_aborts m pa ≡ true
  own_wanted h =
      within_found (word_in_line pa + 1) (word_in_line pa) (omega arith)
      (aborts_word m (word_of_line pa (word_in_line pa)) pa (omega arith) ∙ h)

  -- a line that is read whole lies inside memory, and none of its words is bad
  pub line_inside : line_aborts m pa ≡ false → pa.0 / 32 * 32 + 32 ≤ length m.bytes
  line_inside h = let k = answers m (word_of_line pa 7) (within_none 8 7 (omega arith) h) in omega arith

  pub line_good : line_aborts m pa ≡ false → (p : ℕ) → p / 32 ≡ pa.0 / 32 → is_bad m.bad (p / 4) ≡ false
  line_good h p e =
      let k : (pa.0 / 32 * 32 + p / 4 % 8 * 4) / 4 ≡ p / 4 = omega arith in
      ap (is_bad m.bad) (sym k) ∙ answers_good m (word_of_line pa (p / 4 % 8)) (within_none 8 (p / 4 % 8) (omega arith) h)
