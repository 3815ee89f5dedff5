-- Each answer in document 01's numbers, and as one number of 64 bits.
use Rattle.std.specs.Prelude.{ℕ, ◌+◌, ◌*◌, ◌-◌, ℤ, pos, negsuc}
use Rattle.values.specs.Answers.{status_of}
use Rattle.values.specs.declared.Answer.{Answer}
use Rattle.values.specs.declared.Answer.TheVariants as answer

-- An answer's kind (0 served, 1 fault, 2 refused), its value, the fault's status, domain and address, the refusal's number.
pub record Numbers : Type 0 where
  pub kind : ℕ
  pub value : ℤ
  pub status : ℕ
  pub domain : ℕ
  pub address : ℕ
  pub refusal : ℕ

-- "A fault is not a refusal: it is an answer." A refusal is "its number with value 0".
abbrev pub numbers_of : Answer → Numbers
numbers_of (answer.Value v) = record { kind = 0; value = pos v; status = 0; domain = 0; address = 0; refusal = 0 }
numbers_of (answer.Signed z) = record { kind = 0; value = z; status = 0; domain = 0; address = 0; refusal = 0 }
numbers_of (answer.Fault f) =
    record { kind = 1; value = pos 0; status = status_of f.status; domain = f.domain; address = f.address.0; refusal = 0 }
numbers_of (answer.Refused n) = record { kind = 2; value = pos 0; status = 0; domain = 0; address = 0; refusal = n }

-- a signed number as 32 bits: −(n + 1) is 2^32 − 1 − n
abbrev pub unsigned_of : ℤ → ℕ
unsigned_of (pos n) = n
unsigned_of (negsuc n) = 0xFFFFFFFF - n

-- 2^32: what an answer's kind counts in its number, above a value of 32 bits
abbrev pub kind_unit : ℕ
kind_unit = 0x100000000

-- 3 × 2^32: what numbers that are no call answer
abbrev pub no_call : ℕ
no_call = 3 * kind_unit

-- kind × 2^32 + value: kind 0 is served, with the value, a signed one as 32 bits; 1 a fault, with FSR; 2 refused, with the refusal's number
abbrev pub code_of : Answer → ℕ
code_of a =
    let n = numbers_of a in
    n.kind * kind_unit + (unsigned_of n.value + (n.domain * 16 + n.status) + n.refusal)
