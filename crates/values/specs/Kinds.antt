-- "Kinds: load, signed load, store", and the swap of document 02, Two.
use Rattle.std.specs.Prelude.{ℕ, Bool, true, false}
use Rattle.values.specs.declared.Kind.{Kind}
use Rattle.values.specs.declared.Kind.TheVariants.{Load, SignedLoad, Store, Swap}

-- an access that stores, of which rights are a store's; a swap "is checked as a store"
abbrev pub is_store : Kind → Bool
is_store Load = false
is_store SignedLoad = false
is_store (Store v) = true
is_store (Swap v) = true

-- the value that an access stores, 0 where it stores none
abbrev pub stored_value : Kind → ℕ
stored_value Load = 0
stored_value SignedLoad = 0
stored_value (Store v) = v
stored_value (Swap v) = v

-- "One new call swaps a byte or a word"
abbrev pub is_swap : Kind → Bool
is_swap Load = false
is_swap SignedLoad = false
is_swap (Store v) = false
is_swap (Swap v) = true
