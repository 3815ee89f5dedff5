-- Bytes put behind a line begun, through the first line feed: what `join` leaves.
use Rattle.std.proofs.Common.{◌≡◌, ℕ, zero, suc, ◌+◌, ◌≤◌, cond, List, [], ◌∷◌, length, take, min, position, Some, None, eqb, refl, sym, ◌∙◌, ap, arith}
use Rattle.std.specs.List.{position_or_len}
use borrow.Author.Tests.{ltb-true, ltb-false}
use lib.Dec.{ltb}
use Rattle.values.proofs.Cases.{case}
use Rattle.pieces.specs.Pieces.{is_feed, onto}

-- how many bytes a text has through its first line feed
pub through : List ℕ → ℕ
through [] = 0
through (b ∷ bs) = cond (eqb b 10) 1 (suc (through bs))

-- they are bytes of it
pub through_low : (bs : List ℕ) → through bs ≤ length bs
unfolding through
through_low [] = omega arith
through_low (b ∷ bs) = let h = through_low bs in case (eqb b 10) (λ e. rw e (omega arith)) (λ e. rw e (omega arith))

-- counted by the library's position
through_is : (bs : List ℕ) → through bs ≡ min (position_or_len is_feed bs + 1) (length bs)
unfolding through
through_is [] = refl
through_is (b ∷ bs) = let h = through_is bs in case (eqb b 10) (λ e. rw e (omega arith)) (λ e. rw e (omega arith))

-- a feed that is found is the last
pub through_some : (bs : List ℕ) (i : ℕ) → position is_feed bs ≡ Some i → through bs ≡ i + 1
through_some bs i e =
    let k = position_or_len is_feed bs in
    let h = through_is bs in
    case (ltb k (length bs))
    (λ t. let l = ltb-true k (length bs) t in let q : Some k ≡ Some i = sym (rw t) ∙ e in let r : k ≡ i = cc in omega arith)
    (λ t. let q : None ≡ Some i = sym (rw t) ∙ e in cc)

-- where none is found all are taken
pub through_none : (bs : List ℕ) → position is_feed bs ≡ None → through bs ≡ length bs
through_none bs e =
    let k = position_or_len is_feed bs in
    let h = through_is bs in
    case (ltb k (length bs))
    (λ t. let q : Some k ≡ None = sym (rw t) ∙ e in cc)
    (λ t. let l = ltb-false k (length bs) t in omega arith)

-- the bytes that go onto a line begun are those, of the bytes that have room
pub onto_is : (n m : ℕ) (text : List ℕ) → m ≡ min (length text) n → onto n text ≡ take (through (take m text)) text
unfolding onto through
onto_is zero m text e = let z : 0 ≡ m = omega arith in ap (λ (k : ℕ). take (through (take k text)) text) z
onto_is (suc n) m [] e = let z : 0 ≡ m = omega arith in ap (λ (k : ℕ). take (through (take {A = ℕ} k [])) []) z
onto_is (suc n) zero (b ∷ bs) e = absurd (omega arith)
onto_is (suc n) (suc m) (b ∷ bs) e =
    let h = onto_is n m bs (omega arith) in
    case (eqb b 10) (λ t. rw t) (λ t. rw t (ap (λ (l : List ℕ). b ∷ l) h))
