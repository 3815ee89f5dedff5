-- A list of calls as numbers, five a call: the call (0 load, 1 signed load, 2 store, 3 CP15 read, 4 CP15 write, and 5, the swap of document 02, Two, to
-- which the library gives this number), privileged (1 or 0), the width or the register number, the address or opcode 2 × 16 + CRm, the value.
use Rattle.std.specs.Prelude.{ℕ, ◌+◌, ◌*◌, ◌/◌, ◌%◌, Bool, cond, ◌&&◌, List, eqb, leb, get_or}
use Rattle.values.specs.declared.Kind.{Kind}
use Rattle.values.specs.declared.Kind.TheVariants.{Load, SignedLoad, Store, Swap}
use Rattle.values.specs.declared.Access.{Access}
use Rattle.values.specs.declared.Transfer.{Transfer}
use Rattle.values.specs.declared.Call.{Call}
use Rattle.values.specs.declared.Call.TheVariants.{Read, Write}
use Rattle.values.specs.declared.Call.TheVariants as calls

abbrev pub access_of : Kind → ℕ → ℕ → ℕ → Access
access_of kind privileged width address =
    record { kind = kind; privileged = eqb privileged 1; width = width; address = record { 0 = address } }

abbrev pub transfer_of : ℕ → ℕ → ℕ → Transfer
transfer_of privileged register pair =
    record { privileged = eqb privileged 1; register = register; opcode = pair / 16; crm = pair % 16 }

-- the call of five numbers, where they are one
unfoldable pub call_of : ℕ → ℕ → ℕ → ℕ → ℕ → Call
call_of kind privileged n a v =
    cond (eqb kind 0) (calls.Access (access_of Load privileged n a))
    (cond (eqb kind 1) (calls.Access (access_of SignedLoad privileged n a))
    (cond (eqb kind 2) (calls.Access (access_of (Store v) privileged n a))
    (cond (eqb kind 3) (Read (transfer_of privileged n a))
    (cond (eqb kind 4) (Write (transfer_of privileged n a) v)
    (calls.Access (access_of (Swap v) privileged n a))))))

-- the five numbers are a call
abbrev pub is_call : ℕ → ℕ → Bool
is_call kind privileged = leb kind 5 && leb privileged 1

-- call i of a list, and whether it is one
abbrev pub call_at : List ℕ → ℕ → Call
call_at list i =
    call_of (get_or list (i * 5) 0) (get_or list (i * 5 + 1) 0) (get_or list (i * 5 + 2) 0) (get_or list (i * 5 + 3) 0) (get_or list (i * 5 + 4) 0)

abbrev pub is_call_at : List ℕ → ℕ → Bool
is_call_at list i = is_call (get_or list (i * 5) 0) (get_or list (i * 5 + 1) 0)
