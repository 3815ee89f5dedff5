use Rattle.std.proofs.Common.{◌≡◌, ℕ, List, [], ◌∷◌, refl, ◌∙◌, rules, tests}
use Rattle.std.proofs.lemmas.Iterator.{YieldsList-from_slice}
use Rattle.std.proofs.lemmas.Iterator.Search.{all_from_yields_List}
use Rattle.std.specs.List.{list_all}
use Rattle.values.specs.Lists.{all}
use Rattle.soundness.specs.Soundness.{pointer_sound}
use Rattle.lines_test.proofs.pointers_sound.Goals as goal

same : (ps : List ℕ) → list_all pointer_sound ps ≡ all pointer_sound ps
unfolding all
same [] = refl
same (p ∷ ps) = rw (same ps)

pub returns : goal.returns
returns c = let ps = c.args.pointers.now in
    all_from_yields_List pointer_sound _ _ c.all.result c.all.ensures.ran (YieldsList-from_slice ps cc) (λ x b q k. search (rules, tests)) ∙ same ps
