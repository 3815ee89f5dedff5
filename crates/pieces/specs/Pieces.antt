-- Bytes of a text and of what is printed: in a list of 64, line feeds among them, and those that go onto a line begun.
use Rattle.std.specs.Prelude.{ℕ, zero, suc, ◌-◌, Bool, cond, List, [], ◌∷◌, ◌++◌, eqb, length, replicate}
use Rattle.printed.specs.Printed.{line_feed}

-- bytes in a list of 64, zeros behind them
abbrev pub padded : List ℕ → List ℕ
padded bytes = bytes ++ replicate (64 - length bytes) 0

abbrev pub is_feed : ℕ → Bool
is_feed b = eqb b line_feed

-- the bytes of a text that go onto a line begun: through its first line feed, at most n
unfoldable pub onto : ℕ → List ℕ → List ℕ
onto zero text = []
onto (suc n) [] = []
onto (suc n) (b ∷ bs) = b ∷ cond (eqb b line_feed) [] (onto n bs)
