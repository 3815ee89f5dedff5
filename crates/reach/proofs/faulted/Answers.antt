use Rattle.reach.proofs.Laws.{faulted_left}
use Rattle.reach.proofs.faulted.Goals as goal

pub returns : goal.returns
returns c =
    let a = c.args in λ l es n. faulted_left l es a.s n a.status a.domain a.address _ _ c.fault_set-after.ensures
    c.with_registers.ensures
