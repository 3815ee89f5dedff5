-- Two lists of calls, one after the other: the numbers, the rules and the history.
use mathlib.Core.Path.{◌≡◌, refl}
use mathlib.Core.List.{List, [], ◌∷◌, ◌++◌}
use Rattle.values.specs.declared.Call.{Call}
use Rattle.trace.specs.Fold.{final_of}
use Rattle.plain.specs.Plain.{Plain, plainly, plain_final}
use Rattle.terms.specs.History.{History, after, history_after}
use Rattle.terms.specs.Rules.{Keeps}
use Rattle.terms.specs.Term3.{AllNumbers}

module _ (ys : List Call) where
  pub numbers_append : (xs : List Call) → AllNumbers xs → AllNumbers ys → AllNumbers (xs ++ ys)
  unfolding AllNumbers
  numbers_append [] m n = n
  numbers_append (x ∷ xs) m n = (m.0, numbers_append xs m.1 n)

  pub keeps_append : (xs : List Call) (p : Plain) (h : History) → Keeps p h xs → Keeps (plain_final p xs) (history_after p h xs) ys → Keeps p h (xs ++ ys)
  unfolding Keeps final_of history_after
  keeps_append [] p h k l = l
  keeps_append (x ∷ xs) p h k l = (k.0, keeps_append xs (plainly p x).plain (after p h x) k.1 l)

  pub history_append : (xs : List Call) (p : Plain) (h : History) → history_after p h (xs ++ ys) ≡ history_after (plain_final p xs) (history_after p h xs) ys
  unfolding final_of history_after
  history_append [] p h = refl
  history_append (x ∷ xs) p h = history_append xs (plainly p x).plain (after p h x)
