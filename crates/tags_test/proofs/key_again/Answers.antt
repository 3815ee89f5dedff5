use Rattle.std.proofs.Common.{◌≡◌, ℕ, ◌+◌, ◌-◌, List, [], ◌∷◌, eqb, take, drop, get_or, refl, ap, ◌∙◌, arith}
use Rattle.std.proofs.lemmas.Bool.Decides.{nat_tests}
use Rattle.std.specs.List.{list_any}
use Rattle.values.specs.Lists.{any}
use Rattle.tags_test.proofs.key_again.Goals as goal

turned : (x y : ℕ) → eqb y x ≡ eqb x y
turned x y = grind (arith, nat_tests)

among : (x : ℕ) (ys : List ℕ) → list_any (λ y. eqb y x) ys ≡ any (eqb x) ys
unfolding any
among x [] = refl
among x (y ∷ ys) = rw (turned x y, among x ys)

pub returns : goal.returns
returns c = let k = c.args.keys.now in
    let i = c.args.i in
    let n : i + 17 - (i + 1) ≡ 16 = omega arith in
    c.contains.ensures.value ∙ among (get_or k i 0) (take (i + 17 - (i + 1)) (drop (i + 1) k))
    ∙ ap (λ (m : ℕ). any (eqb (get_or k i 0)) (take m (drop (i + 1) k))) n
