-- The places of the write buffer, and their bytes by themselves.
use Prim.Native.Nat.{ℕ, ◌+◌, ◌<◌}
use native.Mathlib.Omega.{arith}
use mathlib.Core.Path.{◌≡◌, refl, sym, subst}
use mathlib.Core.List.{List, []}
use lib.ListN.{length, length-map, get_or, set, get_or-map}
use Rattle.values.proofs.Toward.{Toward, toward_step}
use Rattle.values.proofs.Maps.{map_set}
use Rattle.state.specs.State.{bytes_of}
use Rattle.state.specs.declared.SlotBytes.{SlotBytes}

abbrev bytes : SlotBytes → List ℕ
bytes s = s.bytes

abbrev none : SlotBytes
none = record { bytes = [] }

-- one place more
pub unpack_step : (slots : List SlotBytes) (old out : List (List ℕ)) (i : ℕ) → length slots ≡ 8 → length old ≡ 8 → i < 8
    → Toward (bytes_of slots) old out i → Toward (bytes_of slots) old (set out i (get_or slots i none).bytes) (i + 1)
unpack_step slots old out i n k h t =
    toward_step (bytes_of slots) old out i t (get_or slots i none).bytes [] (let e = t.long in omega arith)
    (let e = length-map slots bytes in omega arith) (sym (get_or-map bytes slots i none))

pub pack_step : (bs : List (List ℕ)) (old out : List SlotBytes) (i : ℕ) → length bs ≡ 8 → length old ≡ 8 → i < 8
    → Toward bs (bytes_of old) (bytes_of out) i → Toward bs (bytes_of old) (bytes_of (set out i (record { bytes = get_or bs i [] }))) (i + 1)
pack_step bs old out i n k h t =
    subst (λ (l : List (List ℕ)). Toward bs (bytes_of old) l (i + 1)) (sym (map_set bytes out i (record { bytes = get_or bs i [] })))
    (toward_step bs (bytes_of old) (bytes_of out) i t (get_or bs i []) [] (let e = t.long in let f = length-map old bytes in omega arith) (omega arith) refl)
