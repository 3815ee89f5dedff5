-- What the code does of an access that stores.
use Rattle.std.specs.Prelude.{ℕ, cond}
use Rattle.values.specs.Kinds.{is_swap}
use Rattle.values.specs.declared.Access.{Access}
use Rattle.translation.specs.declared.Place.{Place}
use Rattle.machine.specs.Machine.{Machine, Stepped}
use Rattle.stores.specs.Stores.{store}
use Rattle.swaps.specs.Swaps.{swap}

-- a swap or a store, by its kind
abbrev pub store_or_swap : Machine → Access → ℕ → Place → Stepped
store_or_swap m a v p = cond (is_swap a.kind) (swap m a v p) (store m a v p)
