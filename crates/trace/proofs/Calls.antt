-- The calls of the numbers 3 and 4.
use Prim.Native.Nat.{ℕ}
use mathlib.Core.Path.{◌≡◌}
use Rattle.values.specs.declared.Call.TheVariants.{Read, Write}
use Rattle.trace.specs.Calls.{call_of, transfer_of}

module _ (kind privileged n a v : ℕ) where
  pub read_of : kind ≡ 3 → call_of kind privileged n a v ≡ Read (transfer_of privileged n a)
  unfolding call_of
  read_of e = rw e

  pub write_of : kind ≡ 4 → call_of kind privileged n a v ≡ Write (transfer_of privileged n a) v
  unfolding call_of
  write_of e = rw e
