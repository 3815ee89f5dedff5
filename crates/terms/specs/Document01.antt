-- Document 01's plain machine, which has no map: "Outside, ... a load faults with 4 or 6 if M, C and the page's C bit are set; any other access with 8 or
-- 10", by the word of the access alone; "It refuses by 5 to 12 alone". And what a run with a map of zeros has to do with it.
use Rattle.std.specs.Prelude.{ℕ, cond, ◌≡◌, List, [], ◌∷◌, eqb, Result, Ok, Err}
use Rattle.values.specs.declared.Kind.{Kind}
use Rattle.values.specs.declared.Kind.TheVariants.{Load, SignedLoad, Store, Swap}
use Rattle.values.specs.declared.Access.{Access}
use Rattle.values.specs.declared.Call.{Call}
use Rattle.values.specs.declared.Call.TheVariants.{Read, Write}
use Rattle.values.specs.declared.Call.TheVariants as calls
use Rattle.values.specs.declared.Answer.{Answer}
use Rattle.values.specs.declared.Answer.TheVariants as answer
use Rattle.bus.specs.Physical.{no_bad_words, outside}
use Rattle.translation.specs.Faults.{fills, fill_status, other_status}
use Rattle.translation.specs.declared.Place.{Place}
use Rattle.refusals.specs.Refusals.{refusal_in, row5, call_rows}
use Rattle.trace.specs.Fold.{answers_of, final_of}
use Rattle.step.specs.Start.{started}
use Rattle.step.specs.Run.{answers, final}
use Rattle.plain.specs.Plain.{Plain, PlainStepped, plain_start, plain_stepped, plain_physical, plain_faulted, plain_reach, plain_loaded, plain_store, plain_swap}
use Rattle.plain.specs.Plain.{plain_read, plain_write, counted}
use Rattle.machine.specs.Machine.{memory_of}
use Rattle.terms.specs.Corollaries.{SettledBy}
use Rattle.terms.specs.Term3.{Run}
use Rattle.values.specs.declared.Cause.{Cause}

-- the machine at the start: with no map no word is bad
abbrev pub start01 : List ℕ → Plain
start01 memory = plain_start memory []

-- "Inside memory a load reads"; outside it faults
unfoldable pub load01 : Plain → Access → Place → PlainStepped
load01 p a l =
    cond (outside (plain_physical p) l.address)
    (plain_faulted p (cond (fills p.registers l) (fill_status l) (other_status l)) l.domain a.address)
    (plain_stepped p (plain_loaded p a l))

-- stores and swaps, with no word bad
abbrev pub passed01 : Plain → Access → Place → Kind → PlainStepped
passed01 p a l Load = load01 p a l
passed01 p a l SignedLoad = load01 p a l
passed01 p a l (Store v) = plain_store p a v l
passed01 p a l (Swap v) = plain_swap p a v l

unfoldable pub at01 : Plain → Access → Result Place Cause → PlainStepped
at01 p a (Err why) = plain_faulted p why.status why.domain a.address
at01 p a (Ok l) = passed01 p a l a.kind

abbrev pub done01 : Plain → Call → PlainStepped
done01 p (calls.Access a) = at01 p a (plain_reach p a)
done01 p (Read t) = plain_read p t
done01 p (Write t v) = plain_write p t v

-- "It refuses by 5 to 12 alone, 5 by that count, changing nothing; any other call adds one"
abbrev pub refusal01 : Plain → Call → ℕ
refusal01 p c = refusal_in (row5 p.calls ∷ call_rows c)

unfoldable pub plainly01 : Plain → Call → PlainStepped
plainly01 p c = cond (eqb (refusal01 p c) 0) (done01 (counted p) c) (plain_stepped p (answer.Refused (refusal01 p c)))

abbrev pub next01 : Plain → Call → Plain
next01 p c = (plainly01 p c).plain

abbrev pub answered01 : Plain → Call → Answer
answered01 p c = (plainly01 p c).answer

abbrev pub answers01 : Plain → List Call → List Answer
answers01 = answers_of next01 answered01

abbrev pub final01 : Plain → List Call → Plain
final01 = final_of next01 answered01

-- With no bad words, on a list that keeps the rules, all answers are those that document 01's plain machine gives; and so is memory after cleaning and
-- draining.
pub record SameAs01 (memory store : List ℕ) (calls : List Call) : Type 0 where
  pub same_answers : answers (started memory (no_bad_words memory) store).machine calls ≡ answers01 (start01 memory) calls
  pub same_memory : SettledBy memory (no_bad_words memory) calls
      → memory_of (final (started memory (no_bad_words memory) store).machine calls) ≡ (final01 (start01 memory) calls).memory

abbrev pub WithoutBadWords : Type 0
WithoutBadWords = (memory store : List ℕ) (calls : List Call) → Run memory (no_bad_words memory) store calls → SameAs01 memory store calls
