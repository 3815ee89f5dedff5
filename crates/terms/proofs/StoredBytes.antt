-- The bytes of a store, and the stages that it leaves as they were.
use Prim.Native.Nat.{ℕ, ◌+◌, ◌/◌, ◌%◌, ◌<◌, ◌≤◌}
use native.Mathlib.Omega.{arith}
use mathlib.Core.Bool.{true, false}
use mathlib.Core.Path.{◌≡◌}
use lib.Dec.{eqb, ltb}
use borrow.Author.Tests.{eqb-false, ltb-true, ltb-false}
use Rattle.values.specs.Addresses.{word_of, physical_line}
use Rattle.values.specs.declared.VirtualAddress.{VirtualAddress}
use Rattle.values.proofs.Cases.{case, clash}
use Rattle.translation.specs.declared.Place.{Place}
use Rattle.terms.specs.History.{History, with_store}
use Rattle.terms.specs.Rules.{is_stored}
use Rattle.terms.proofs.Invariant.{by_word, by_line}
use Rattle.terms.proofs.SettledBytes.{Outside}

-- a byte is one of those stored, or not
pub inside_or {ℓ} : {A : Type ℓ} (a w x : ℕ) → (a ≤ x → x < a + w → A) → (Outside a w x → A) → A
inside_or a w x f g =
    case (ltb x a) (λ t. g (λ p q. let h = ltb-true x a t in omega arith))
    (λ t.
    case (ltb x (a + w)) (λ u. f (ltb-false x a t) (ltb-true x (a + w) u))
    (λ u. g (λ p q. let h = ltb-false x (a + w) u in omega arith)))

module _ (h : History) (va : VirtualAddress) (l : Place) (w : ℕ) (fits : l.address.0 % 4 + w ≤ 4) where
  -- the words that are not at stage `stored` after the store, and the lines: their bytes lie outside it, and their stage is what it was
  pub words_stored : (x : ℕ) → is_stored (by_word (with_store h va l.address) x) ≡ false
      → (by_word (with_store h va l.address) x ≡ by_word h x) × Outside l.address.0 w x
  words_stored x e =
      case (eqb (x / 4) (word_of l.address))
      (λ t. let z : is_stored (by_word (with_store h va l.address) x) ≡ true = rw t in clash z e)
      (λ t. (rw t, λ a b. eqb-false (x / 4) (word_of l.address) t (omega arith)))

  pub lines_stored : (x : ℕ) → is_stored (by_line (with_store h va l.address) x) ≡ false
      → (by_line (with_store h va l.address) x ≡ by_line h x) × Outside l.address.0 w x
  lines_stored x e =
      case (eqb (x / 32) (physical_line l.address))
      (λ t. let z : is_stored (by_line (with_store h va l.address) x) ≡ true = rw t in clash z e)
      (λ t. (rw t, λ a b. eqb-false (x / 32) (physical_line l.address) t (omega arith)))
