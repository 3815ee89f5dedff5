use Rattle.std.proofs.Common.{◌≡◌, ℕ, List, [], ◌∷◌, refl, ◌∙◌, rules, tests}
use Rattle.std.proofs.lemmas.Iterator.{YieldsList-from_slice}
use Rattle.std.proofs.lemmas.Iterator.Search.{all_from_yields_List}
use Rattle.std.specs.List.{list_all}
use Rattle.values.specs.Lists.{all}
use Rattle.tlb.specs.Packing.{entry_of, entries_of}
use Rattle.soundness.specs.Soundness.{entry_sound}
use Rattle.soundness_test.proofs.entries_sound.Goals as goal

same : (ws : List ℕ) → list_all (λ w. entry_sound (entry_of w)) ws ≡ all entry_sound (entries_of ws)
unfolding all
same [] = refl
same (w ∷ ws) = rw (same ws)

pub returns : goal.returns
returns c = let ws = c.args.entries.now in
    all_from_yields_List (λ (w : ℕ). entry_sound (entry_of w)) _ _ c.all.result c.all.ensures.ran (YieldsList-from_slice ws cc)
    (λ x b q k. search (rules, tests)) ∙ same ws
