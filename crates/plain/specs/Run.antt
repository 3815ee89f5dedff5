-- A run of the plain machine over a lent list of calls, five numbers each, with the answers as numbers.
use Rattle.std.specs.Prelude.{ℕ, ◌/◌, min, cond, List, length}
use Rattle.values.specs.declared.Call.{Call}
use Rattle.refusals.specs.Refusals.{length_fits}
use Rattle.trace.specs.Fold.{calls_in, Left, leaves, left_of}
use Rattle.plain.specs.Plain.{Plain, plain_start, plain_next, plain_answered}

-- what a run leaves, and the start's refusal 1 or 0
pub record PlainLeft : Type 0 where
  pub left : Left Plain
  pub refusal : ℕ

abbrev pub with_refusal : Left Plain → ℕ → PlainLeft
with_refusal left refusal = record { left = left; refusal = refusal }

-- what a list of calls leaves: the machine, the list of answers, and the number of calls made
abbrev pub left_by : Plain → List Call → List ℕ → Left Plain
left_by = left_of plain_next plain_answered

-- a run from the start, over a memory and its map: as many calls as both lists hold. A map that does not fit refuses each call.
unfoldable pub plain_run : List ℕ → List ℕ → List ℕ → List ℕ → PlainLeft
plain_run memory bad list answers =
    cond (length_fits (length memory))
    (with_refusal (left_by (plain_start memory bad) (calls_in (min (length list / 5) (length answers)) list 0) answers) 0)
    (with_refusal (leaves (plain_start memory bad) answers 0) 1)
