use Rattle.values.specs.declared.Kind.{Kind}
use Rattle.plain.specs.Plain.{plain_passed}
use Rattle.plain.specs.Code.{plain_of}
use Rattle.plain.proofs.Laws.{loads, passed_load}
use mathlib.Core.Path.{sym, ◌∙◌, ap}
use Rattle.plain.proofs.passed.Goals as goal

pub returns-in-Load : goal.returns-in-Load
returns-in-Load c =
    let a = c.args in
    let e = passed_load (plain_of a.memory.now a.bad.now a.s) a.a a.p a.a.kind (loads a.a.kind c.before.before.in-Load.in-Load-own.keys1) in
    record { same = c.load.ensures.same ∙ sym e; kept = c.load.ensures.kept }

pub returns-in-Store : goal.returns-in-Store
returns-in-Store c =
    let a = c.args in
    let e = ap (λ (k : Kind). plain_passed (plain_of a.memory.now a.bad.now a.s) a.a a.p k) c.in-Store.is in
    record { same = c.store.ensures.same ∙ sym e; kept = c.store.ensures.kept }

pub returns-in-Swap : goal.returns-in-Swap
returns-in-Swap c =
    let a = c.args in
    let e = ap (λ (k : Kind). plain_passed (plain_of a.memory.now a.bad.now a.s) a.a a.p k) c.in-Swap.is in
    record { same = c.swap.ensures.same ∙ sym e; kept = c.swap.ensures.kept }
