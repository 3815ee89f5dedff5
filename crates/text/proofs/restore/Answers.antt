use mathlib.Core.Path.{refl, ap}
use Rattle.numbers.specs.Text.{Saved, machine_with}
use Rattle.text.proofs.restore.Goals as goal

pub returns-in_default : goal.returns-in_default
returns-in_default c = (refl, c.in_default.ensures)

pub returns : goal.returns
returns c =
    let r = c.in-Some.ensures in
    (λ m bad st. rw c.packed-slots.ensures (ap (λ (s : Saved). machine_with m bad st s) r.same), r.fits)
