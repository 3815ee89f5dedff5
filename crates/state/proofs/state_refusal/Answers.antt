use Rattle.std.proofs.lemmas.Result.{err_from_is_err_and}
use Rattle.refusals.proofs.Numbers.{no_zero}
use Rattle.step.proofs.StateRefusals.{refused_lent, refused_unsound, refused_size, refused_map, not_state_refused, lent_fits}
use Rattle.state.specs.State.{machine_in}
use lib.ListN.{length}
use mathlib.Core.Path.{refl, sym, ◌∙◌}
use Rattle.state.proofs.state_refusal.Goals as goal

pub returns-in_err-lent_refusal : goal.returns-in_err-lent_refusal
returns-in_err-lent_refusal c =
    let a = c.args in
    let p = err_from_is_err_and c.from_residual.result c.from_residual.ensures.1 in
    rw (p.1, p.2) (refused_lent (machine_in a.memory.now a.bad.now a.store.now a.state a.cp15) _ c.in_err-lent_refusal.ensures
    (no_zero c.in_err-lent_refusal.field-0.0))

pub returns-then-not-is_sound : goal.returns-then-not-is_sound
returns-then-not-is_sound c =
    let a = c.args in
    let k = lent_fits (length a.memory.now) (length a.store.now) (sym c.in_ok-lent_refusal.ensures) in
    refused_unsound (machine_in a.memory.now a.bad.now a.store.now a.state a.cp15) k.0 k.1
    (sym (c.is_sound.ensures a.memory.now a.bad.now a.store.now refl) ∙ c.if-not-is_sound.true)

pub returns-then-state-memory : goal.returns-then-state-memory
returns-then-state-memory c =
    let a = c.args in
    let k = lent_fits (length a.memory.now) (length a.store.now) (sym c.in_ok-lent_refusal.ensures) in
    refused_size (machine_in a.memory.now a.bad.now a.store.now a.state a.cp15) k.0 k.1
    (sym (c.is_sound.ensures a.memory.now a.bad.now a.store.now refl) ∙ c.if-not-is_sound.false) c.if-state-memory.true

pub returns-then-not-map_fits : goal.returns-then-not-map_fits
returns-then-not-map_fits c =
    let a = c.args in
    let k = lent_fits (length a.memory.now) (length a.store.now) (sym c.in_ok-lent_refusal.ensures) in
    refused_map (machine_in a.memory.now a.bad.now a.store.now a.state a.cp15) k.0 k.1
    (sym (c.is_sound.ensures a.memory.now a.bad.now a.store.now refl) ∙ c.if-not-is_sound.false) c.if-state-memory.false
    (sym c.map_fits.ensures ∙ c.if-not-map_fits.true)

pub returns : goal.returns
returns c =
    let a = c.args in
    let k = lent_fits (length a.memory.now) (length a.store.now) (sym c.in_ok-lent_refusal.ensures) in
    not_state_refused (machine_in a.memory.now a.bad.now a.store.now a.state a.cp15) k.0 k.1
    (sym (c.is_sound.ensures a.memory.now a.bad.now a.store.now refl) ∙ c.if-not-is_sound.false) c.if-state-memory.false
    (sym c.map_fits.ensures ∙ c.if-not-map_fits.false)
