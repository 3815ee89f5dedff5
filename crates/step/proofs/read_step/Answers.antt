use Rattle.refusals.proofs.Numbers.{no_zero}
use Rattle.step.proofs.Ready.{refused_by_lem, not_refused}
use Rattle.machine.specs.declared.Scalars.{Scalars}
use Rattle.values.specs.declared.Call.TheVariants.{Read}
use Prim.Native.Nat.{◌<◌}
use mathlib.Core.Path.{refl, sym, ◌∙◌, subst}
use Rattle.step.proofs.read_step.Goals as goal

pub returns-in-Err : goal.returns-in-Err
returns-in-Err c =
    let a = c.args in
    λ l es n k.
    refused_by_lem l es a.s n k (Read a.t) _ c.in-Err.ensures.number (no_zero c.in-Err.r) _ c.refused.ensures

pub read-requires : goal.read-requires
read-requires c =
    subst (λ (s : Scalars). s.cp15.registers.control < 0x2000) (sym c.counted.ensures) c.requires

pub returns : goal.returns
returns c =
    let a = c.args in
    λ l es n k.
    rw c.counted.ensures at (c.read.ensures l es n)
    ∙ sym (not_refused l es a.s n k (Read a.t) _ c.in_default.ensures.number refl)
