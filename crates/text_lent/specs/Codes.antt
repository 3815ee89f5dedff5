-- What the exported storing answers: its answer as one number, kind × 2^32 + value.
use Rattle.std.specs.Prelude.{ℕ, List}
use Rattle.trace.specs.Codes.{code_of}
use Rattle.machine.specs.Machine.{Machine}
use Rattle.text.specs.Store.{stored}

-- what storing leaves of the slice, and its answer as a number
pub record StoredCode : Type 0 where
  pub slice : List ℕ
  pub code : ℕ

abbrev pub stored_code : List ℕ → ℕ → StoredCode
stored_code slice code = record { slice = slice; code = code }

abbrev pub stored_as : Machine → List ℕ → StoredCode
stored_as m slice = stored_code (stored m slice).slice (code_of (stored m slice).answer)
