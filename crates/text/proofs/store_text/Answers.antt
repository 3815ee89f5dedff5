use native.Mathlib.Omega.{arith}
use mathlib.Core.Path.{refl, sym, ◌∙◌}
use mathlib.Core.List.{[]}
use lib.ListN.{length}
use Rattle.std.proofs.lemmas.Result.{err_from_is_err_and}
use Rattle.refusals.proofs.Numbers.{no_zero}
use Rattle.state.specs.State.{machine_in}
use Rattle.step.proofs.StateRefusals.{fitting}
use Rattle.text.proofs.Storing.{storable, stored_refused, stored_room_lem}
use Rattle.text.proofs.Holding.{used_low}
use Rattle.text.proofs.store_text.Goals as goal

pub returns-in_err-state_refusal : goal.returns-in_err-state_refusal
returns-in_err-state_refusal c = let a = c.args in
    let p = err_from_is_err_and c.from_residual.result c.from_residual.ensures.1 in
    λ bad st. rw (p.1, p.2) (stored_refused (machine_in a.memory.now bad st a.state a.cp15) a.text.now _
    (c.in_err-state_refusal.ensures a.memory.now bad st refl) (no_zero c.in_err-state_refusal.field-0.0))

pub store_sound-requires : goal.store_sound-requires
store_sound-requires c = let a = c.args in
    let s = storable (machine_in a.memory.now [] [] a.state a.cp15) (sym (c.in_ok-state_refusal.ensures a.memory.now [] [] refl)) in
    let short = (fitting (length a.memory.now) s.fits).short in
    let size = s.size in
    (omega (arith, short, size), used_low a.memory.now [] [] a.state a.cp15 s.is_sound)

pub returns : goal.returns
returns c = let a = c.args in
    λ bad st. c.store_sound.ensures a.memory.now bad st
    ∙ stored_room_lem (machine_in a.memory.now bad st a.state a.cp15) a.text.now
    (sym (c.in_ok-state_refusal.ensures a.memory.now bad st refl))
