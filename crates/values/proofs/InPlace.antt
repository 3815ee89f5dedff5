-- A list whose elements are replaced from the front on, each by a function of what it was.
use Prim.Native.Nat.{ℕ, ◌+◌, ◌<◌, ◌≤◌}
use native.Mathlib.Omega.{arith}
use native.Mathlib.Nat.{add-zero}
use native.Mathlib.Numerals.{add-one}
use mathlib.Core.Path.{◌≡◌, refl, sym, ◌∙◌, ap}
use mathlib.Core.List.{List, [], ◌∷◌, ◌++◌, map}
use lib.ListN.{length, get_or, set, take, drop, replicate, length-map, length-set, get_or-map}
use lib.Seq.{take-suc, take-suc-set, take_all, drop-set-lt, drop-drop, get_or-drop}

-- `now` is `old` with the function applied to its first i elements
pub record Upto {A : Type 0} (f : A → A) (old now : List A) (i : ℕ) : Type 0 where
  pub long : length now ≡ length old
  pub front : take i now ≡ take i (map f old)
  pub back : drop i now ≡ drop i old

module _ {A : Type 0} (f : A → A) (old : List A) where
  pub upto_start : Upto f old old 0
  upto_start = record { long = refl; front = refl; back = refl }

  module _ (now : List A) (i : ℕ) (u : Upto f old now i) where
    -- the next element is as it was
    pub upto_next : (d : A) → get_or now i d ≡ get_or old i d
    upto_next d =
        ap (λ (k : ℕ). get_or now k d) (sym (add-zero i)) ∙ sym (get_or-drop i now 0 d) ∙ ap (λ (l : List A). get_or l 0 d) u.back
        ∙ get_or-drop i old 0 d ∙ ap (λ (k : ℕ). get_or old k d) (add-zero i)

    pub upto_step : (a d : A) → i < length now → a ≡ f (get_or now i d) → Upto f old (set now i a) (i + 1)
    upto_step a d h e =
        let k : i < length (map f old) = rw length-map (omega (arith, u.long)) in
        let g : get_or (map f old) i (f d) ≡ a = get_or-map f old i d ∙ ap f (sym (upto_next d)) ∙ sym e in
        record {
          long = length-set now i a ∙ u.long;
          front =
              ap (λ (n : ℕ). take n (set now i a)) (add-one i) ∙ take-suc-set now i a h
              ∙ ap (λ (l : List A). l ++ (a ∷ [])) u.front
              ∙ ap (λ (x : A). take i (map f old) ++ (x ∷ [])) (sym g)
              ∙ sym (take-suc (map f old) i (f d) k) ∙ ap (λ (n : ℕ). take n (map f old)) (sym (add-one i));
          back =
              drop-set-lt (i + 1) now i a (omega arith) ∙ sym (drop-drop 1 i now) ∙ ap (λ (l : List A). drop 1 l) u.back
              ∙ drop-drop 1 i old;
        }

    pub upto_end : length old ≤ i → now ≡ map f old
    upto_end h =
        sym (take_all i now (omega (arith, u.long))) ∙ u.front ∙ take_all i (map f old) (rw length-map h)

-- a constant function empties the list
pub map_constant : {A : Type 0} (e : A) (xs : List A) → map (λ (x : A). e) xs ≡ replicate (length xs) e
map_constant e [] = refl
map_constant {A} e (x ∷ xs) = ap {B = List A} (λ r. e ∷ r) (map_constant e xs)
