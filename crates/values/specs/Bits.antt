-- A bit of a number, and a bit as a number.
use Rattle.std.specs.Prelude.{ℕ, ◌/◌, ◌%◌, ◌^◌, Bool, cond, eqb}

-- bit k of n is one
abbrev pub bit : ℕ → ℕ → Bool
bit n k = eqb (n / 2 ^ k % 2) 1

-- a bit as a number
abbrev pub number : Bool → ℕ
number b = cond b 1 0
