-- What the code's record stands for, and the number that says that a text ends.
use Rattle.std.specs.Prelude.{ℕ, Bool, not, eqb}
pub use Rattle.held.specs.Code.{held_of, parted_of}

-- not 0: the text ends
abbrev pub flag : ℕ → Bool
flag n = not (eqb n 0)
