-- What the tests of a stage say of one another, before and after a drain.
use mathlib.Core.Bool.{true, false}
use mathlib.Core.Path.{◌≡◌, refl}
use Rattle.values.proofs.Cases.{clash}
use Rattle.terms.specs.History.{Stage, never, stored, cleaned, drained, flushed, after_drain}
use Rattle.terms.specs.Rules.{is_stored, is_drained}

-- once drained, a byte has been cleaned
pub drained_cleaned : (s : Stage) → is_drained s ≡ true → is_stored s ≡ false
drained_cleaned never e = refl
drained_cleaned stored e = clash {b = false} e refl
drained_cleaned cleaned e = refl
drained_cleaned drained e = refl
drained_cleaned flushed e = refl

-- a drain cleans nothing
pub cleaned_before : (s : Stage) → is_stored (after_drain s) ≡ false → is_stored s ≡ false
cleaned_before never e = refl
cleaned_before stored e = e
cleaned_before cleaned e = refl
cleaned_before drained e = refl
cleaned_before flushed e = refl
