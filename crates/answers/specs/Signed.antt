-- Which calls are signed loads, and answers that their codes tell with it.
use Rattle.std.specs.Prelude.{ℕ, zero, suc, ◌+◌, ◌*◌, Bool, true, false, List, [], ◌∷◌, eqb, get_or}
use Rattle.values.specs.declared.Kind.{Kind}
use Rattle.values.specs.declared.Kind.TheVariants.{Load, SignedLoad, Store, Swap}
use Rattle.values.specs.declared.Call.{Call}
use Rattle.values.specs.declared.Call.TheVariants.{Read, Write}
use Rattle.values.specs.declared.Call.TheVariants as calls
use Rattle.values.specs.declared.Answer.{Answer}
use Rattle.printed.specs.Code.{Told}

-- "Kinds: load, signed load, store": the second
abbrev pub is_signed : Kind → Bool
is_signed Load = false
is_signed SignedLoad = true
is_signed (Store v) = false
is_signed (Swap v) = false

-- an access of that kind
abbrev pub is_signed_load : Call → Bool
is_signed_load (calls.Access a) = is_signed a.kind
is_signed_load (Read t) = false
is_signed_load (Write t v) = false

-- as many answers as calls, each told by its code and whether its call is a signed load
unfoldable pub TellsAll : List Call → List Answer → Type 0
TellsAll [] [] = Unit {0}
TellsAll [] (a ∷ as') = ⊥
TellsAll (c ∷ cs) [] = ⊥
TellsAll (c ∷ cs) (a ∷ as') = Told (is_signed_load c) a × TellsAll cs as'

-- the same of at most n answers to the calls from call i on of a list of five numbers a call, of which the first is 1 for a signed load
unfoldable pub Tells : ℕ → List ℕ → ℕ → List Answer → Type 0
Tells n list i [] = Unit {0}
Tells zero list i (a ∷ as') = ⊥
Tells (suc n) list i (a ∷ as') = Told (eqb (get_or list (i * 5) 0) 1) a × Tells n list (i + 1) as'
