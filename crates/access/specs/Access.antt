-- "An access, step by step", on the library's machine. The call has been counted.
use Rattle.std.specs.Prelude.{Result, Ok, Err}
use Rattle.values.specs.declared.Kind.{Kind}
use Rattle.values.specs.declared.Kind.TheVariants.{Load, SignedLoad, Store, Swap}
use Rattle.values.specs.declared.Access.{Access}
use Rattle.translation.specs.declared.Place.{Place}
use Rattle.machine.specs.Machine.{Machine, Stepped}
use Rattle.reach.specs.Reach.{decision, committed, faulted}
use Rattle.loads.specs.Loads.{load}
use Rattle.stores.specs.Stores.{store}
use Rattle.swaps.specs.Swaps.{swap}
use Rattle.values.specs.declared.Cause.{Cause}

-- "Kinds: load, signed load, store", and document 02's swap: an access whose alignment, translation and rights pass
abbrev pub passed : Machine → Access → Place → Kind → Stepped
passed m a p Load = load m a p
passed m a p SignedLoad = load m a p
passed m a p (Store v) = store m a v p
passed m a p (Swap v) = swap m a v p

unfoldable pub access_at : Machine → Access → Result Place Cause → Stepped
access_at m a (Err why) = faulted m why.status why.domain a.address
access_at m a (Ok p) = passed m a p a.kind

-- alignment, translation and rights are decided; then the TLB and the misses change, and the access is made or faults
unfoldable pub access : Machine → Access → Stepped
access m a = let d = decision m a in access_at (committed m d.mapping) a d.checked
