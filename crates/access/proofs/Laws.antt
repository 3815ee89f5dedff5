-- An access by what is decided of it.
use Rattle.std.specs.Prelude.{Ok, Err}
use Prim.Native.Nat.{ℕ}
use mathlib.Core.Path.{◌≡◌}
use Rattle.values.specs.declared.Access.{Access}
use Rattle.values.specs.declared.Status.{Status}
use mathlib.Core.List.{List}
use Rattle.bus.specs.Physical.{physical}
use Rattle.tlb.specs.Packing.{entries_of}
use Rattle.translation.specs.Alignment.{cleared}
use Rattle.translation.specs.Translation.{translation, decided}
use Rattle.machine.specs.Lists.{Lists, machine_of}
use Rattle.machine.specs.declared.Scalars.{Scalars}
use Rattle.translation.specs.declared.Decision.{Decision}
use Rattle.translation.specs.declared.Place.{Place}
use Rattle.machine.specs.Machine.{Machine}
use Rattle.reach.specs.Reach.{decision, committed, faulted}
use Rattle.access.specs.Access.{access, access_at, passed}
use Rattle.values.specs.Causes.{cause_from}

-- what the code decides is the machine's decision
pub decision_is : (l : Lists) (es : List ℕ) (s : Scalars) (n : ℕ) (a : Access) (d : Decision)
    → d ≡ decided s.cp15.registers a (translation (entries_of es) s.cp15.registers (physical l.memory l.bad) (cleared a))
    → d ≡ decision (machine_of l es s n) a
unfolding decision
decision_is l es s n a d e = e

module _ (m n : Machine) (a : Access) (d : Decision) (e : d ≡ decision m a) (f : n ≡ committed m d.mapping) where
  pub access_passed : (p : Place) → d.checked ≡ Ok p → access m a ≡ passed n a p a.kind
  unfolding access access_at
  access_passed p g = rw (← e, g, ← f)

  pub access_denied : (s : Status) (x : ℕ) → d.checked ≡ Err (cause_from s x) → access m a ≡ faulted n s x a.address
  unfolding access access_at
  access_denied s x g = rw (← e, g, ← f)
