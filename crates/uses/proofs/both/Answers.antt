use Rattle.uses.proofs.EndsAlike.{ends_alike}
use Rattle.uses.proofs.both.Goals as goal

pub returns : goal.returns
returns c =
    let a = c.args in
    ends_alike a.memory.now a.bad.now a.store.now a.other.now a.calls.now a.answers.now a.others.now
    (λ i h. (c.slice_known-1.given i).fits) (λ i h. (c.slice_known-2-1.given i).fits)
    (λ i h. (c.shared_slice_known-2-1.given i).fits) _ _ _ c.run_from_start-r.result c.run_from_start-r.ensures
    _ _ c.run-p.result c.run-p.ensures
