use Rattle.values.proofs.Cases.{or_left}
use Rattle.registers.specs.Pairs.{is_pair}
use mathlib.Core.Bool.{false}
use mathlib.Core.Path.{◌≡◌, sym, ◌∙◌}
use Rattle.cp15.proofs.is_flush.Goals as goal

pub returns-then-is_pair : goal.returns-then-is_pair
returns-then-is_pair c =
    sym (or_left _ _ (sym c.is_pair.ensures ∙ c.if-is_pair.true))

pub returns : goal.returns
returns c =
    let e : is_pair c.args.t 0 7 ≡ false = sym c.is_pair.ensures ∙ c.if-is_pair.false in rw e c.is_pair-2.ensures
