use Rattle.state.proofs.Starts.{fresh_is}
use Rattle.state.proofs.fresh.Goals as goal

pub returns : goal.returns
returns c =
    let a = c.args in λ m bad st. rw c.zero_counts.ensures (fresh_is a.size m bad st)
