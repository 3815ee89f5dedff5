use mathlib.Core.Path.{◌∙◌, sym, ap}
use lib.ListN.{drop, length-drop}
use Rattle.fields.specs.Parse.{verdict_number}
use Rattle.sa110.specs.State.{machine_in}
use Rattle.pieces.specs.Pieces.{padded}
use Rattle.held.proofs.Keeping.{settled_departing, settled_open, settled_more, to_end}
use Rattle.held.proofs.settled.Goals as goal

pub returns-in-More : goal.returns-in-More
returns-in-More c = let a = c.args in
    λ memory bad store. settled_more (machine_in memory bad store a.b.state a.b.cp15) a.lines a.b.made _ (drop a.b.end a.text.now) (ap verdict_number c.in-More.is)

pub returns-in-Open : goal.returns-in-Open
returns-in-Open c = let a = c.args in
    let behind = drop a.b.end a.text.now in
    λ memory bad store. settled_open (machine_in memory bad store a.b.state a.b.cp15) a.lines a.b.made _ behind _ _ (ap verdict_number c.in-Open.is) (sym (length-drop a.b.end a.text.now)) (c.padded-r.ensures ∙ ap padded (to_end a.text.now a.b.end))

pub returns-in-Departs : goal.returns-in-Departs
returns-in-Departs c = let a = c.args in
    λ memory bad store. settled_departing (machine_in memory bad store a.b.state a.b.cp15) a.lines a.b.made _ (drop a.b.end a.text.now) (ap verdict_number c.in-Departs.is)
