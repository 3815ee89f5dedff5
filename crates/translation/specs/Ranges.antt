-- The ranges of a translation and of what the check of it gives. The code asks them.
use Rattle.std.specs.Prelude.{◌<◌, ◌%◌, ◌≡◌, Result, Ok, Err}
use Rattle.values.specs.declared.VirtualAddress.{VirtualAddress}
use Rattle.walk.specs.Ranges.{InRange}
use Rattle.translation.specs.declared.Translation.{Translation}
use Rattle.translation.specs.declared.Translation.TheVariants.{Flat, Held, Walked}
use Rattle.translation.specs.declared.Place.{Place}
use Rattle.values.specs.declared.Cause.{Cause}

-- entries and domains in range
abbrev pub Ranged : Result Translation Cause → Type 0
Ranged (Ok Flat) = Unit {0}
Ranged (Ok (Held e)) = InRange e
Ranged (Ok (Walked e)) = InRange e
Ranged (Err why) = why.domain < 16

-- a place's domain is in range, and its address is the virtual one within a small page
pub record PlaceRanged (va : VirtualAddress) (p : Place) : Type 0 where
  pub domain : p.domain < 16
  pub within : p.address.0 % 0x1000 ≡ va.0 % 0x1000

abbrev pub CheckedRanged : VirtualAddress → Result Place Cause → Type 0
CheckedRanged va (Ok p) = PlaceRanged va p
CheckedRanged va (Err why) = why.domain < 16

-- a translation is this one, and in range
pub record Is (r t : Result Translation Cause) : Type 0 where
  pub same : r ≡ t
  pub ranged : Ranged r

-- a check is this one, and in range
pub record CheckedIs (va : VirtualAddress) (r c : Result Place Cause) : Type 0 where
  pub same : r ≡ c
  pub ranged : CheckedRanged va r
