-- A list of words read as a list of what they stand for.
use Prim.Native.Nat.{ℕ, zero, suc, ◌+◌, ◌<◌}
use mathlib.Core.Path.{◌≡◌, refl, sym, ◌∙◌, ap}
use mathlib.Core.List.{List, [], ◌∷◌, map}
use lib.ListN.{length, length-map, get_or, set, replicate, get_or-map}
use Rattle.values.proofs.InPlace.{Upto, upto_step}

module _ {A B : Type 0} (f : A → B) where
  -- one word more or less
  pub map_set : (xs : List A) (i : ℕ) (a : A) → map f (set xs i a) ≡ set (map f xs) i (f a)
  map_set [] i a = refl
  map_set (x ∷ xs) zero a = refl
  map_set (x ∷ xs) (suc i) a = ap {B = List B} (λ r. f x ∷ r) (map_set xs i a)

  pub map_replicate : (n : ℕ) (a : A) → map f (replicate n a) ≡ replicate n (f a)
  map_replicate zero a = refl
  map_replicate (suc n) a = ap {B = List B} (λ r. f a ∷ r) (map_replicate n a)

-- an element of a list of words, where 0 stands for the default
pub map_at : {B : Type 0} (f : ℕ → B) (e : B) → f 0 ≡ e → (ws : List ℕ) (i : ℕ) → get_or (map f ws) i e ≡ f (get_or ws i 0)
map_at {B} f e z ws i = ap (λ (d : B). get_or (map f ws) i d) (sym z) ∙ get_or-map f ws i 0

-- one place more in a loop that replaces each element by a function of it
pub words_step : {B : Type 0} (f : ℕ → B) (e : B) → f 0 ≡ e → (g : B → B) (old ws : List ℕ) (i w : ℕ)
    → Upto g (map f old) (map f ws) i → i < length ws → f w ≡ g (f (get_or ws i 0)) → Upto g (map f old) (map f (set ws i w)) (i + 1)
words_step f e z g old ws i w u h q =
    let s = upto_step g (map f old) (map f ws) i u (f w) e (rw length-map h) (q ∙ ap g (sym (map_at f e z ws i))) in
    rw map_set s
