-- "Register 7, as (opcode 2, CRm)": the operation pairs.
use Rattle.std.specs.Prelude.{ℕ, Bool, ◌&&◌, ◌||◌, eqb}
use Rattle.values.specs.declared.Transfer.{Transfer}

-- a transfer's opcode 2 and CRm are this pair
abbrev pub is_pair : Transfer → ℕ → ℕ → Bool
is_pair t opcode crm = eqb t.opcode opcode && eqb t.crm crm

-- "(1,10) ...; (4,10)", of register 7 alone
abbrev pub seven_pair : Transfer → Bool
seven_pair t = eqb t.register 7 && (is_pair t 1 10 || is_pair t 4 10)

-- "Register 7, as (opcode 2, CRm): (0,7) and (0,6) ...; (0,5) ...; (1,6) ...; (1,10) ...; (4,10)". "Register 8: (0,7) and (0,6) ...;
-- (0,5) ...; (1,6)"
abbrev pub listed_pair : Transfer → Bool
listed_pair t = is_pair t 0 7 || (is_pair t 0 6 || (is_pair t 0 5 || (is_pair t 1 6 || seven_pair t)))
