-- One call of the library: the step that the contracts and term 3 cite.
use Rattle.std.specs.Prelude.{ℕ, ◌<◌, cond, eqb}
use Rattle.values.specs.Counts.{counted}
use Rattle.values.specs.declared.Kind.{Kind}
use Rattle.values.specs.declared.Kind.TheVariants.{Load, SignedLoad, Store, Swap}
use Rattle.values.specs.declared.Call.{Call}
use Rattle.values.specs.declared.Call.TheVariants.{Read, Write}
use Rattle.values.specs.declared.Call.TheVariants as calls
use Rattle.values.specs.declared.Answer.TheVariants as answer
use Rattle.machine.specs.Machine.{Machine, with_counts, Stepped, stepped_from}
use Rattle.access.specs.Access.{access}
use Rattle.cp15.specs.Operations as cp15
use Rattle.step.specs.Meets.{refusal}

-- a call that is not refused, on a machine that has counted it
abbrev pub done : Machine → Call → Stepped
done m (calls.Access a) = access m a
done m (Read t) = cp15.read m t
done m (Write t v) = cp15.write m t v

-- a call by the number of its refusal: "Each returns its number with value 0 ... and changes nothing."
-- "calls (accepted accesses and CP15 calls)"
abbrev pub served_by : Machine → Call → ℕ → Stepped
served_by m c n = cond (eqb n 0) (done (with_counts m (counted m.counts)) c) (stepped_from m (answer.Refused n))

unfoldable pub served : Machine → Call → Stepped
served m c = served_by m c (refusal m c)

-- "32 bits each": a call's address, and the value that it stores or writes, as the library's types have them
abbrev pub Is32 : ℕ → Type 0
Is32 n = n < 0x100000000

abbrev pub Carries32 : Kind → Type 0
Carries32 Load = Unit {0}
Carries32 SignedLoad = Unit {0}
Carries32 (Store v) = Is32 v
Carries32 (Swap v) = Is32 v

abbrev pub Numbers : Call → Type 0
Numbers (calls.Access a) = Is32 a.address.0 × Carries32 a.kind
Numbers (Read t) = Unit {0}
Numbers (Write t v) = Is32 v
