-- An access by its kind, as the code tells the kinds apart.
use mathlib.Core.Bool.{true, false}
use mathlib.Core.Path.{◌≡◌, refl}
use Rattle.values.specs.Kinds.{is_store, stored_value}
use Rattle.values.specs.declared.Access.{Access}
use Rattle.values.specs.declared.Kind.{Kind}
use Rattle.values.specs.declared.Kind.TheVariants.{Load, SignedLoad, Store, Swap}
use Rattle.values.proofs.Cases.{clash}
use Rattle.translation.specs.declared.Place.{Place}
use Rattle.machine.specs.Machine.{Machine}
use Rattle.loads.specs.Loads.{load}
use Rattle.swaps.specs.Code.{store_or_swap}
use Rattle.access.specs.Access.{passed}

module _ (m : Machine) (a : Access) (p : Place) where
  pub loads_by : (k : Kind) → is_store k ≡ false → passed m a p k ≡ load m a p
  loads_by Load h = refl
  loads_by SignedLoad h = refl
  loads_by (Store v) h = clash {b = true} refl h
  loads_by (Swap v) h = clash {b = true} refl h

  pub stores_by : (k : Kind) → a.kind ≡ k → is_store k ≡ true → passed m a p k ≡ store_or_swap m a (stored_value k) p
  stores_by Load e h = clash {b = false} h refl
  stores_by SignedLoad e h = clash {b = false} h refl
  stores_by (Store v) e h = rw e
  stores_by (Swap v) e h = rw e
