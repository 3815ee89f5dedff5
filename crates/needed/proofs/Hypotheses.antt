-- Term 3's hypotheses that are no rules, by computation: bytes, a served start, numbers of 32 bits.
use Prim.Native.Nat.{ℕ}
use mathlib.Core.Bool.{Bool, true, ◌&&◌}
use mathlib.Core.Path.{◌≡◌}
use mathlib.Core.List.{List, [], ◌∷◌}
use native.Mathlib.Omega.{arith}
use lib.Dec.{ltb}
use lib.ListN.{get_or, get_or-replicate}
use borrow.Author.Tests.{ltb-true}
use Rattle.values.specs.Lists.{all}
use Rattle.values.specs.declared.Kind.{Kind}
use Rattle.values.specs.declared.Kind.TheVariants.{Load, SignedLoad, Store, Swap}
use Rattle.values.specs.declared.Call.{Call}
use Rattle.values.specs.declared.Call.TheVariants.{Read, Write}
use Rattle.values.specs.declared.Call.TheVariants as calls
use Rattle.values.proofs.Alls.{all_means}
use Rattle.values.proofs.Cases.{and_left, and_right}
use Rattle.words.specs.Words.{Bytes}
use Rattle.step.specs.Meets.{start_refusal}
use Rattle.step.specs.Call.{Carries32, Numbers}
use Rattle.terms.specs.Term3.{AllNumbers, RunUnder}
use Rattle.needed.specs.Calls.{zero_store}

-- ---- tests

abbrev is32 : ℕ → Bool
is32 n = ltb n 0x100000000

abbrev carries : Kind → Bool
carries Load = true
carries SignedLoad = true
carries (Store v) = is32 v
carries (Swap v) = is32 v

abbrev carries_all : Call → Bool
carries_all (calls.Access a) = is32 a.address.0 && carries a.kind
carries_all (Read t) = true
carries_all (Write t v) = is32 v

abbrev is_byte : ℕ → Bool
is_byte b = ltb b 256

-- ---- what they mean

bytes : (m : List ℕ) → all is_byte m ≡ true → Bytes m
bytes m e i h = ltb-true (get_or m i 0) 256 (all_means is_byte 0 m e i h)

zero_bytes : Bytes zero_store
zero_bytes i h = rw (get_or-replicate {A = ℕ} 16384 i 0 0 h) (omega arith)

carried : (k : Kind) → carries k ≡ true → Carries32 k
carried Load e = tt
carried SignedLoad e = tt
carried (Store v) e = ltb-true v 0x100000000 e
carried (Swap v) e = ltb-true v 0x100000000 e

numbers : (c : Call) → carries_all c ≡ true → Numbers c
numbers (calls.Access a) e = (
  ltb-true a.address.0 0x100000000 (and_left (is32 a.address.0) (carries a.kind) e),
  carried a.kind (and_right (is32 a.address.0) (carries a.kind) e),
)
numbers (Read t) e = tt
numbers (Write t v) e = ltb-true v 0x100000000 e

all_numbers : (cs : List Call) → all carries_all cs ≡ true → AllNumbers cs
unfolding all AllNumbers
all_numbers [] e = tt
all_numbers (c ∷ cs) e =
    (numbers c (and_left (carries_all c) (all carries_all cs) e), all_numbers cs (and_right (carries_all c) (all carries_all cs) e))

-- a run from a cache store of zeros: three tests, and the rules
pub run_under : {rules : Type 0} {memory bad : List ℕ} {cs : List Call} → all is_byte memory ≡ true → start_refusal memory zero_store ≡ 0
    → all carries_all cs ≡ true → rules → RunUnder rules memory bad zero_store cs
run_under {rules} {memory} {bad} {cs} b s n k =
    record { memory_bytes = bytes memory b; store_bytes = zero_bytes; served_start = s; numbers = all_numbers cs n; keeps = k }
