-- "The plain machine gets the start's memory and each call's arguments, no answers." It has no TLB, cache or buffer.
use Rattle.std.specs.Prelude.{ℕ, ◌+◌, Bool, cond, List, ◌∷◌, eqb, length, Result, Ok, Err}
use Rattle.values.specs.Registers.{zero_registers}
use Rattle.values.specs.declared.VirtualAddress.{VirtualAddress}
use Rattle.values.specs.declared.Registers.{Registers}
use Rattle.values.specs.declared.Kind.{Kind}
use Rattle.values.specs.declared.Kind.TheVariants.{Load, SignedLoad, Store, Swap}
use Rattle.values.specs.declared.Access.{Access}
use Rattle.values.specs.declared.Transfer.{Transfer}
use Rattle.values.specs.declared.Fault.{Fault}
use Rattle.values.specs.declared.Status.{Status}
use Rattle.values.specs.declared.Call.{Call}
use Rattle.values.specs.declared.Call.TheVariants.{Read, Write}
use Rattle.values.specs.declared.Call.TheVariants as calls
use Rattle.values.specs.declared.Answer.{Answer}
use Rattle.values.specs.declared.Answer.TheVariants as answer
use Rattle.words.specs.Words.{value_at, stored}
use Rattle.words.specs.Signed.{load_answer}
use Rattle.bus.specs.Physical.{Physical, physical, aborts, wanted_aborts}
use Rattle.translation.specs.Alignment.{cleared}
use Rattle.translation.specs.Translation.{walked_only, decided}
use Rattle.translation.specs.Faults.{fills, buffers, fill_status, other_status, fault_set}
use Rattle.translation.specs.declared.Place.{Place}
use Rattle.refusals.specs.Refusals.{refusal_in, row5, row16, call_rows}
use Rattle.registers.specs.Registers.{read_of, written_of}
use Rattle.trace.specs.Fold.{answers_of, final_of}
use Rattle.values.specs.declared.Cause.{Cause}

-- "It holds memory, and the five registers and a count of calls"; document 02, Five: it "reads the same map", which no call changes
pub record Plain : Type 0 where
  pub memory : List ℕ
  pub bad : List ℕ
  pub registers : Registers
  pub calls : ℕ

abbrev pub plain_machine : List ℕ → List ℕ → Registers → ℕ → Plain
plain_machine memory bad registers calls = record { memory = memory; bad = bad; registers = registers; calls = calls }

-- "all zero at first", on "the start's memory"
unfoldable pub plain_start : List ℕ → List ℕ → Plain
plain_start memory bad = plain_machine memory bad zero_registers 0

-- the plain machine with one part replaced
abbrev pub with_registers : Plain → Registers → Plain
with_registers p registers = plain_machine p.memory p.bad registers p.calls

abbrev pub with_memory : Plain → List ℕ → Plain
with_memory p memory = plain_machine memory p.bad p.registers p.calls

-- what a call leaves: the plain machine, and its answer
pub record PlainStepped : Type 0 where
  pub plain : Plain
  pub answer : Answer

abbrev pub plain_stepped : Plain → Answer → PlainStepped
plain_stepped p x = record { plain = p; answer = x }

-- "A fault sets FSR and FAR as above."
unfoldable pub plain_faulted : Plain → Status → ℕ → VirtualAddress → PlainStepped
plain_faulted p s d address =
    let f : Fault = record { status = s; domain = d; address = address } in
    plain_stepped (with_registers p (fault_set p.registers f)) (answer.Fault f)

-- physical memory as the bus sees it
abbrev pub plain_physical : Plain → Physical
plain_physical p = physical p.memory p.bad

-- "An access checks alignment and then, if M is set, walks its memory and checks rights, as above; else the address is flat."
unfoldable pub plain_reach : Plain → Access → Result Place Cause
plain_reach p a = (decided p.registers a (walked_only p.registers (plain_physical p) (cleared a))).checked

-- what a load answers, and a swap: the value in memory
abbrev pub plain_loaded : Plain → Access → Place → Answer
plain_loaded p a l = load_answer a.kind a.width (value_at a.width p.memory l.address.0)

-- Document 02, Five: "The plain machine reads the same map by the same rule". A load that may fill reads its line's words up to the wanted one: "A fill
-- reads from the line's first word upward. An abort at or before the wanted word faults with 4 or 6." Any other load reads its own word.
abbrev pub plain_load_aborts : Plain → Place → Bool
plain_load_aborts p l = cond (fills p.registers l) (wanted_aborts (plain_physical p) l.address) (aborts (plain_physical p) l.address)

-- "Inside memory a load reads". "Outside, ... a load faults with 4 or 6 if M, C and the page's C bit are set; any other access with 8 or 10."
unfoldable pub plain_load : Plain → Access → Place → PlainStepped
plain_load p a l =
    cond (plain_load_aborts p l)
    (plain_faulted p (cond (fills p.registers l) (fill_status l) (other_status l)) l.domain a.address)
    (plain_stepped p (plain_loaded p a l))

-- "and a store writes at once"
abbrev pub plain_written : Plain → Access → ℕ → Place → Plain
plain_written p a v l = with_memory p (stored a.width p.memory l.address.0 v)

-- "Outside, a store is dropped without a fault if M and W are set and the page's C or B is; ... any other access with 8 or 10." A bad word is as one
-- outside.
unfoldable pub plain_store : Plain → Access → ℕ → Place → PlainStepped
plain_store p a v l =
    cond (aborts (plain_physical p) l.address)
    (cond (buffers p.registers l) (plain_stepped p (answer.Value 0)) (plain_faulted p (other_status l) l.domain a.address))
    (plain_stepped (plain_written p a v l) (answer.Value 0))

-- Document 02, Two: "in a run the plain machine loads and stores together, with these codes", 8 and 10: it reads its own word alone, "without filling
-- a line".
unfoldable pub plain_swap : Plain → Access → ℕ → Place → PlainStepped
plain_swap p a v l =
    cond (aborts (plain_physical p) l.address) (plain_faulted p (other_status l) l.domain a.address)
    (plain_stepped (plain_store p a v l).plain (plain_loaded p a l))

-- an access whose translation and rights pass, by its kind
abbrev pub plain_passed : Plain → Access → Place → Kind → PlainStepped
plain_passed p a l Load = plain_load p a l
plain_passed p a l SignedLoad = plain_load p a l
plain_passed p a l (Store v) = plain_store p a v l
plain_passed p a l (Swap v) = plain_swap p a v l

unfoldable pub plain_at : Plain → Access → Result Place Cause → PlainStepped
plain_at p a (Err why) = plain_faulted p why.status why.domain a.address
plain_at p a (Ok l) = plain_passed p a l a.kind

-- an access, a CP15 read and a CP15 write; "CP15 calls act on its registers as above; writes to 7 and 8 do nothing."
unfoldable pub plain_access : Plain → Access → PlainStepped
plain_access p a = plain_at p a (plain_reach p a)

unfoldable pub plain_read : Plain → Transfer → PlainStepped
plain_read p t = plain_stepped p (answer.Value (read_of p.registers t.register))

unfoldable pub plain_write : Plain → Transfer → ℕ → PlainStepped
plain_write p t v = plain_stepped (with_registers p (written_of p.registers t.register v)) (answer.Value 0)

abbrev pub plain_done : Plain → Call → PlainStepped
plain_done p (calls.Access a) = plain_access p a
plain_done p (Read t) = plain_read p t
plain_done p (Write t v) = plain_write p t v

-- "It refuses by 5 to 12 alone, 5 by that count"; document 02, Five: "and refuses by 16 before 5"
unfoldable pub plain_refusal : Plain → Call → ℕ
plain_refusal p c = refusal_in (row16 (length p.memory) p.bad ∷ row5 p.calls ∷ call_rows c)

-- "any other call adds one"
abbrev pub counted : Plain → Plain
counted p = plain_machine p.memory p.bad p.registers (p.calls + 1)

abbrev pub plain_by : Plain → Call → ℕ → PlainStepped
plain_by p c n = cond (eqb n 0) (plain_done (counted p) c) (plain_stepped p (answer.Refused n))

-- one call of the plain machine; a refused one is "changing nothing"
unfoldable pub plainly : Plain → Call → PlainStepped
plainly p c = plain_by p c (plain_refusal p c)

-- the step of a run: the machine that a call leaves, and its answer
abbrev pub plain_next : Plain → Call → Plain
plain_next p c = (plainly p c).plain

abbrev pub plain_answered : Plain → Call → Answer
plain_answered p c = (plainly p c).answer

-- a list of calls: the answers, and the machine after them
abbrev pub plain_answers : Plain → List Call → List Answer
plain_answers = answers_of plain_next plain_answered

abbrev pub plain_final : Plain → List Call → Plain
plain_final = final_of plain_next plain_answered
