use Rattle.numbers.specs.Text.{form, machine_with}
use native.Mathlib.Omega.{arith}
use mathlib.Core.Path.{sym, ◌∙◌, ap}
use Rattle.values.proofs.Cases.{and-false}
use Rattle.machine.specs.Machine.{Machine}
use Rattle.soundness.specs.Soundness.{sound}
use Rattle.text.proofs.Holding.{unfit_unsound}
use Rattle.text.proofs.Reading.{read_three, read_four, read_none}
use Rattle.text.proofs.read_state.Goals as goal

pub returns-in-Err : goal.returns-in-Err
returns-in-Err c = let a = c.args in
    let r = c.in-Err.ensures in
    λ m bad st e. rw (c.from.ensures, r.0) at (c.refused.ensures m bad st)
    ∙ read_three m bad st a.ns.now
    (unfit_unsound m bad st a.ns.now (let short = c.requires.1 in omega (arith, short, e)) r.1)

pub returns-then-not-is_sound : goal.returns-then-not-is_sound
returns-then-not-is_sound c = let a = c.args in
    let r = c.in-Ok.ensures in
    λ m bad st e. rw c.from-then-not-is_sound.ensures at (c.refused-then-not-is_sound.ensures m bad st)
    ∙ read_three m bad st a.ns.now (and-false (form.fits a.ns.now) (sound (machine_with m bad st (form.thing a.ns.now))) (ap sound
    (sym (r.0 m bad st)) ∙ sym (c.is_sound.ensures m bad st e) ∙ c.if-not-is_sound.true))

pub returns-then-r-n : goal.returns-then-r-n
returns-then-r-n c = let a = c.args in
    let r = c.in-Ok.ensures in
    λ m bad st e. let q = r.0 m bad st in
    rw c.from-then-r-n.ensures at (c.refused-then-r-n.ensures m bad st)
    ∙ read_four m bad st a.ns.now r.1 (ap sound (sym q) ∙ sym (c.is_sound.ensures m bad st e) ∙ c.if-not-is_sound.false)
    (λ z. c.if-r-n.true (ap (λ (x : Machine). x.size) q ∙ z ∙ e))

pub returns : goal.returns
returns c = let a = c.args in
    let r = c.in-Ok.ensures in
    λ m bad st e. let q = r.0 m bad st in
    read_none m bad st a.ns.now r.1 (ap sound (sym q) ∙ sym (c.is_sound.ensures m bad st e) ∙ c.if-not-is_sound.false) _ q
    (ap (λ (x : Machine). x.size) (sym q) ∙ c.if-r-n.false ∙ sym e)
