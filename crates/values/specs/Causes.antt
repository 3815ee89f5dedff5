-- What is known of a fault before its address: "5 (FSR) keeps 8 bits, domain times 16 plus status".
use Rattle.std.specs.Prelude.{ℕ}
use Rattle.values.specs.declared.Status.{Status}
use Rattle.values.specs.declared.Cause.{Cause}

-- the cause of a status and a domain
abbrev pub cause_from : Status → ℕ → Cause
cause_from status domain = record { status = status; domain = domain }
