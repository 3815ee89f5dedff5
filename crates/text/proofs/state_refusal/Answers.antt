use mathlib.Core.Path.{sym, ◌∙◌, ap}
use Prim.Native.Nat.{ℕ}
use Rattle.refusals.specs.Refusals.{length_fits}
use Rattle.state.specs.State.{machine_in}
use Rattle.text.proofs.Storing.{store_one, store_three, store_four, store_none}
use Rattle.text.proofs.state_refusal.Goals as goal

pub returns-then-not-length_fits : goal.returns-then-not-length_fits
returns-then-not-length_fits c = let a = c.args in
    λ m bad st e. let M = machine_in m bad st a.state a.cp15 in
    store_one M (ap (λ (n : ℕ). length_fits n) e ∙ sym c.length_fits.ensures ∙ c.if-not-length_fits.true)

pub returns-then-not-is_sound : goal.returns-then-not-is_sound
returns-then-not-is_sound c = let a = c.args in
    λ m bad st e. let M = machine_in m bad st a.state a.cp15 in
    store_three M (ap (λ (n : ℕ). length_fits n) e ∙ sym c.length_fits.ensures ∙ c.if-not-length_fits.false)
    (sym (c.is_sound.ensures m bad st e) ∙ c.if-not-is_sound.true)

pub returns-then-state-n : goal.returns-then-state-n
returns-then-state-n c = let a = c.args in
    λ m bad st e. let M = machine_in m bad st a.state a.cp15 in
    store_four M (ap (λ (n : ℕ). length_fits n) e ∙ sym c.length_fits.ensures ∙ c.if-not-length_fits.false)
    (sym (c.is_sound.ensures m bad st e) ∙ c.if-not-is_sound.false) (λ q. c.if-state-n.true (q ∙ e))

pub returns : goal.returns
returns c = let a = c.args in
    λ m bad st e. let M = machine_in m bad st a.state a.cp15 in
    store_none M (ap (λ (n : ℕ). length_fits n) e ∙ sym c.length_fits.ensures ∙ c.if-not-length_fits.false)
    (sym (c.is_sound.ensures m bad st e) ∙ c.if-not-is_sound.false) (c.if-state-n.false ∙ sym e)
