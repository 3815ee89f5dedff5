use Rattle.std.specs.Prelude.{Result}
use Rattle.values.specs.declared.VirtualAddress.{VirtualAddress}
use Rattle.bus.specs.Physical.{physical}
use Rattle.translation.specs.Translation.{walked_only, checked}
use Rattle.translation.specs.declared.Translation.{Translation}
use Rattle.plain.specs.Code.{plain_of}
use Rattle.plain.proofs.Laws.{reach_misaligned, reach_aligned}
use mathlib.Core.Path.{sym, ◌∙◌, ap}
use borrow.Author.Rules.{rules}
use Rattle.plain.proofs.reach.Goals as goal
use Rattle.values.specs.declared.Cause.{Cause}

pub returns-then-faults_alignment : goal.returns-then-faults_alignment
returns-then-faults_alignment c =
    let a = c.args in
    let p = plain_of a.memory.now a.bad.now a.s in
    rw c.new.ensures (record { same = sym (reach_misaligned p a.a (sym c.faults_alignment.ensures ∙ c.if-faults_alignment.true)); ranged = search rules })

pub returns : goal.returns
returns c =
    let a = c.args in
    let m = a.memory.now in
    let bad = a.bad.now in
    let r = a.s.registers in
    let e = reach_aligned (plain_of m bad a.s) a.a (sym c.faults_alignment.ensures ∙ c.if-faults_alignment.false) in
    let t = c.walked_only-t.ensures.same ∙ ap (λ (va : VirtualAddress). walked_only r (physical m bad) va) c.cleared-va.ensures in
    record { same = c.check.ensures.same ∙ ap (λ (x : Result Translation Cause). checked r a.a x) t ∙ sym e; ranged = c.check.ensures.ranged }
