-- A list whose elements become those of another list from the front on.
use Prim.Native.Nat.{ℕ, ◌+◌, ◌<◌}
use native.Mathlib.Omega.{arith}
use native.Mathlib.Numerals.{add-one}
use mathlib.Core.Path.{◌≡◌, refl, sym, ◌∙◌, ap}
use mathlib.Core.List.{List, [], ◌∷◌, ◌++◌}
use lib.ListN.{length, get_or, set, take, drop, length-set}
use lib.Seq.{take_all, take-suc, take-suc-set, drop-set-lt, drop-drop}

pub record Toward {A : Type 0} (target old now : List A) (i : ℕ) : Type 0 where
  pub long : length now ≡ length old
  pub front : take i now ≡ take i target
  pub back : drop i now ≡ drop i old

module _ {A : Type 0} (target old : List A) where
  pub toward_start : Toward target old old 0
  toward_start = record { long = refl; front = refl; back = refl }

  pub toward_step : (now : List A) (i : ℕ) → Toward target old now i → (a d : A) → i < length now → i < length target
      → a ≡ get_or target i d → Toward target old (set now i a) (i + 1)
  toward_step now i t a d h k e =
      record {
        long = length-set now i a ∙ t.long;
        front =
            ap (λ (n : ℕ). take n (set now i a)) (add-one i) ∙ take-suc-set now i a h ∙ ap (λ (l : List A). l ++ (a ∷ [])) t.front
            ∙ ap (λ (x : A). take i target ++ (x ∷ [])) e
            ∙ sym (take-suc target i d k) ∙ ap (λ (n : ℕ). take n target) (sym (add-one i));
        back =
            drop-set-lt (i + 1) now i a (omega arith) ∙ sym (drop-drop 1 i now) ∙ ap (λ (l : List A). drop 1 l) t.back
            ∙ drop-drop 1 i old;
      }

-- the whole list has become the other
pub toward_all : {A : Type 0} (target old now : List A) (n : ℕ) → Toward target old now n → length old ≡ n → length target ≡ n → now ≡ target
toward_all target old now n t h k =
    sym (take_all n now (let e = t.long in omega arith)) ∙ t.front ∙ take_all n target (omega arith)
