-- Document 02, Six: "and prints each, rising, on a line as index, entry; for instance `66,2`." Text is a list of ASCII codes.
use Rattle.std.specs.Prelude.{ℕ, ◌+◌, List, [], ◌∷◌, ◌++◌}
use Rattle.printed.specs.Printed.{decimal, comma, line_feed}
use Rattle.access_table.specs.AccessTable.{access_table}

-- the line of an entry
unfoldable pub entry_line : ℕ → ℕ → List ℕ
entry_line index entry = decimal index ++ comma ∷ decimal entry ++ line_feed ∷ []

-- the lines of entries, from an index on, rising
unfoldable pub entry_lines : ℕ → List ℕ → List ℕ
entry_lines index [] = []
entry_lines index (entry ∷ rest) = entry_line index entry ++ entry_lines (index + 1) rest

-- what is printed
abbrev pub table_text : List ℕ
table_text = entry_lines 0 access_table
