use Rattle.step.proofs.Ready.{write_ready, control_low}
use Rattle.step.specs.Call.{served}
use Rattle.machine.proofs.Kept.{kept}
use Rattle.machine.specs.Lists.{lists_of, machine_of}
use Rattle.trace.proofs.Calls.{read_of, write_of}
use Rattle.values.specs.declared.Call.{Call}
use Rattle.values.specs.declared.Call.TheVariants.{Read, Write}
use Rattle.values.specs.declared.Transfer.{Transfer}
use Prim.Native.Nat.{◌+◌, ◌*◌}
use lib.ListN.{length, get_or}
use mathlib.Core.Path.{refl, sym, ◌∙◌, ap}
use Rattle.step.proofs.step_at.Goals as goal

pub read_step-requires : goal.read_step-requires
read_step-requires c =
    let a = c.args in
    control_low (lists_of a.side.now)
    a.entries.now a.s (length a.side.now.memory.now) c.requires.0.3

pub returns-then-kind-eq3 : goal.returns-then-kind-eq3
returns-then-kind-eq3 c =
    let a = c.args in
    let l = (lists_of a.side.now) in
    let n = length a.side.now.memory.now in (
      (
        c.read_step.ensures l a.entries.now n c.requires.0.3
            ∙ ap (λ (x : Call). served (machine_of l a.entries.now a.s n) x)
            (ap Read c.transfer_at.ensures ∙ sym (read_of _ _ _ _ _ c.if-kind-eq3.true)),
        c.requires.0.2,
      ),
      kept refl refl refl refl refl refl,
    )

pub write_step-requires : goal.write_step-requires
write_step-requires c =
    let a = c.args in
    write_ready (lists_of a.side.now)
    a.entries.now a.s (length a.side.now.memory.now) c.requires.0.3 c.requires.0.1 c.requires.0.2

pub returns-then-kind-eq4 : goal.returns-then-kind-eq4
returns-then-kind-eq4 c =
    let a = c.args in
    let l = (lists_of a.side.now) in
    let n = length a.side.now.memory.now in
    let v = get_or a.calls.now (a.i * 5 + 4) 0 in (
      (
        c.write_step.ensures.0 n c.requires.0.3
            ∙ ap (λ (x : Call). served (machine_of l a.entries.now a.s n) x)
            (ap (λ (t : Transfer). Write t v) c.transfer_at-then-kind-eq4.ensures ∙ sym (write_of _ _ _ _ v c.if-kind-eq4.true)),
        c.write_step.ensures.1,
      ),
      c.write_step.ensures.2,
    )

pub access_step-requires : goal.access_step-requires
access_step-requires c =
    c.requires.0

pub returns : goal.returns
returns c =
    let a = c.args in
    let l = (lists_of a.side.now) in
    let n = length a.side.now.memory.now in (
      (
        c.access_step.ensures.0.0
            ∙ ap (λ (x : Call). served (machine_of l a.entries.now a.s n) x)
            (sym (c.access_at.ensures c.if-kind-eq3.false c.if-kind-eq4.false)),
        c.access_step.ensures.0.1,
      ),
      c.access_step.ensures.1,
    )
