-- A table whose first row met decides.
use Rattle.std.specs.Prelude.{Bool, cond, List, [], ◌∷◌}

-- a row: its condition, and what it gives
pub record Row (A : Type 0) : Type 0 where
  pub met : Bool
  pub gives : A

-- what the first row met gives, or `none`
unfoldable pub first_met : {A : Type 0} → A → List (Row A) → A
first_met none [] = none
first_met none (r ∷ rs) = cond r.met r.gives (first_met none rs)
