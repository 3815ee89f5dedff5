-- What the code holds of the plain machine, beside the lent memory and map.
use Rattle.std.specs.Prelude.{ℕ, ◌+◌, ◌*◌, ◌/◌, ◌%◌, ◌<◌, ◌≤◌, true, ◌≡◌, List, length}
use Rattle.values.specs.declared.Registers.{Registers}
use Rattle.values.specs.declared.Access.{Access}
use Rattle.words.specs.Words.{is_width}
use Rattle.translation.specs.Alignment.{cleared}
use Rattle.translation.specs.Ranges.{PlaceRanged}
use Rattle.translation.specs.declared.Place.{Place}
use Rattle.trace.specs.Fold.{leaves}
use Rattle.plain.specs.declared.PlainState.{PlainState}
use Rattle.plain.specs.declared.Outcome.{Outcome}
use Rattle.plain.specs.declared.Ran.{Ran}
use Rattle.plain.specs.Plain.{Plain, PlainStepped, plain_machine, plain_stepped}
use Rattle.plain.specs.Run.{PlainLeft, with_refusal}

abbrev pub plain_of : List ℕ → List ℕ → PlainState → Plain
plain_of memory bad s = plain_machine memory bad s.registers s.calls

abbrev pub stepped_of : List ℕ → List ℕ → Outcome → PlainStepped
stepped_of memory bad o = plain_stepped (plain_of memory bad o.state) o.answer

-- what a run leaves, with the lent lists
abbrev pub plain_left : List ℕ → List ℕ → List ℕ → Ran → PlainLeft
plain_left memory bad answers r = with_refusal (leaves (plain_of memory bad r.state) answers r.made) r.refusal

-- the registers are as writes leave them
pub record Kept (r : Registers) : Type 0 where
  pub base : r.base % 0x4000 ≡ 0
  pub control : r.control < 0x2000

-- what a step leaves is this, with such registers
pub record Steps (r e : PlainStepped) : Type 0 where
  pub same : r ≡ e
  pub kept : Kept r.plain.registers

-- an access of a width, and a place of it in range
pub record Placed (a : Access) (p : Place) : Type 0 where
  pub width : is_width a.width ≡ true
  pub place : PlaceRanged (cleared a) p

-- an access at such a place, whose word lies in memory
pub record Inside (memory : List ℕ) (a : Access) (p : Place) : Type 0 where
  pub placed : Placed a p
  pub inside : p.address.0 / 4 * 4 + 4 ≤ length memory
