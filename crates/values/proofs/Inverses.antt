-- A function with an inverse tells its arguments apart, and so does its map tell lists apart.
use mathlib.Core.Path.{◌≡◌, refl, sym, ◌∙◌, ap}
use mathlib.Core.List.{List, [], ◌∷◌, map}

module _ {A B : Type 0} (f : A → B) (g : B → A) (back : (x : A) → g (f x) ≡ x) where
  pub injective : (x y : A) → f x ≡ f y → x ≡ y
  injective x y e = sym (back x) ∙ ap g e ∙ back y

  pub map_back : (xs : List A) → map g (map f xs) ≡ xs
  map_back [] = refl
  map_back (x ∷ xs) = rw (back x, map_back xs)

  pub map_injective : (xs ys : List A) → map f xs ≡ map f ys → xs ≡ ys
  map_injective xs ys e = sym (map_back xs) ∙ ap (map g) e ∙ map_back ys
