-- "Rights come from a constant table of 256 entries ... 0 allowed, 1 domain fault, 2 permission fault."
use Rattle.std.specs.Prelude.{ℕ, zero, suc, ◌+◌, ◌*◌, ◌/◌, ◌%◌, ◌^◌, Bool, true, cond, not, ◌&&◌, ◌||◌, List, [], ◌∷◌, eqb}
use Rattle.values.specs.Bits.{bit, number}

-- 001, table 2-3, for AP 00: with S alone privileged modes read, with R alone all modes read; "AP 00 with S and R both set allows
-- nothing". AP 01: privileged modes read and write. AP 10: besides, user mode reads. AP 11: all read and write.
abbrev pub permits : ℕ → Bool → Bool → Bool → Bool → Bool
permits ap s r privileged store =
    cond (eqb ap 0) (not store && ((s && not r && privileged) || (not s && r)))
    (cond (eqb ap 1) privileged
    (cond (eqb ap 2) (privileged || not store)
    true))

-- "Domain values: 0 and 2 domain fault, 1 checked by 001's table 2-3, 3 always allowed."
unfoldable pub rights : ℕ → ℕ → Bool → Bool → Bool → Bool → ℕ
rights value ap s r privileged store =
    cond (eqb value 3) 0
    (cond (eqb value 1) (cond (permits ap s r privileged store) 0 2)
    1)

-- "index: domain value × 64 + AP × 16 + S × 8 + R × 4 + privileged × 2 + store"
abbrev pub index_of : ℕ → ℕ → Bool → Bool → Bool → Bool → ℕ
index_of value ap s r privileged store =
    value * 64 + ap * 16 + number s * 8 + number r * 4 + number privileged * 2 + number store

-- what a function of the fields of an index gives at an index
abbrev pub at_index : (ℕ → ℕ → Bool → Bool → Bool → Bool → ℕ) → ℕ → ℕ
at_index f i = f (i / 64) (i / 16 % 4) (bit i 3) (bit i 2) (bit i 1) (bit i 0)

-- the table's entry at an index
abbrev pub rights_at : ℕ → ℕ
rights_at i = at_index rights i

-- a function's values at i and the n - 1 numbers behind it
abbrev pub tabulated : (ℕ → ℕ) → ℕ → ℕ → List ℕ
tabulated f i zero = []
tabulated f i (suc n) = f i ∷ tabulated f (suc i) n

-- "a constant table of 256 entries"
unfoldable pub rights_table : List ℕ
rights_table = tabulated rights_at 0 256

-- "3 holds sixteen two-bit domain values": the value of domain d. The place of its pair, by document 02, Three: "twice the domain number"
abbrev pub domain_value : ℕ → ℕ → ℕ
domain_value domains d = domains / 2 ^ (2 * d) % 4
