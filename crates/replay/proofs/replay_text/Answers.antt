use mathlib.Core.Path.{sym, ◌∙◌}
use lib.ListN.{length}
use Rattle.held.proofs.Keeping.{kept_means}
use Rattle.replay.proofs.Parting.{roomy}
use Rattle.replay.proofs.replay_text.Goals as goal

pub replay_many-requires : goal.replay_many-requires
replay_many-requires c = let a = c.args in
    let r = a.replay in
    let k = kept_means r.lines r.held r.waiting r.begun c.requires in
    let y = roomy r.held (length a.out.now) (sym c.is_roomy.ensures ∙ c.if-is_roomy.true) in
    (k.lines_low, y.0, y.1)
