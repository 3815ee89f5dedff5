use mathlib.Core.Path.{refl}
use Rattle.refusals.proofs.Numbers.{no_zero}
use Rattle.state.proofs.Starts.{start_by, start_served, start_refused}
use Rattle.state.proofs.start.Goals as goal

pub returns-in-Ok : goal.returns-in-Ok
returns-in-Ok c =
    let a = c.args in
    λ bad. rw c.zero_cp15-cp15.ensures (start_served a.memory.now a.store.now bad _ _
    (start_by a.memory.now a.store.now _ c.in-Ok.ensures) refl (c.fresh.ensures a.memory.now bad a.store.now))

pub returns-in-Err : goal.returns-in-Err
returns-in-Err c =
    let a = c.args in
    λ bad. rw (c.zero_cp15-cp15.ensures, c.from.ensures) (start_refused a.memory.now a.store.now bad _ _
    (start_by a.memory.now a.store.now _ c.in-Err.ensures) (no_zero c.in-Err.r) (c.fresh-in-Err.ensures a.memory.now bad a.store.now))
