use Rattle.values.specs.declared.Answer.{Answer}
use Rattle.bus.specs.Physical.{physical, aborts}
use Rattle.bus.proofs.Laws.{answers}
use Rattle.plain.specs.Plain.{PlainStepped, plain_stepped, plain_store}
use Rattle.plain.specs.Code.{plain_of}
use Rattle.plain.proofs.Laws.{swap_in, swap_other, fault_steps}
use mathlib.Core.Path.{◌≡◌, sym, ◌∙◌, ap}
use mathlib.Core.Bool.{true}
use Rattle.plain.proofs.swap.Goals as goal

pub returns-then-aborts : goal.returns-then-aborts
returns-then-aborts c =
    let a = c.args in
    let m = a.memory.now in
    let bad = a.bad.now in
    let p = plain_of m bad a.s in
    let h : aborts (physical m bad) a.p.address ≡ true = sym c.aborts.ensures ∙ c.if-aborts.true in
    fault_steps p c.requires.0 _ _ _ _ a.p.domain a.a.address (c.faulted.ensures m bad) c.other_status.ensures
    (swap_other p a.a a.p a.v h)

pub loaded-old-requires : goal.loaded-old-requires
loaded-old-requires c =
    let a = c.args in
    let h = answers (physical a.memory.now a.bad.now) a.p.address (sym c.aborts.ensures ∙ c.if-aborts.false) in
    record { placed = c.requires.1; inside = h }

pub returns : goal.returns
returns c =
    let a = c.args in
    let p = plain_of a.memory.now a.bad.now a.s in
    record {
      same = ap (λ (x : PlainStepped). plain_stepped x.plain c.loaded-old.result) c.store-stored.ensures.same
          ∙ ap (λ (x : Answer). plain_stepped (plain_store p a.a a.v a.p).plain x) c.loaded-old.ensures
          ∙ sym (swap_in p a.a a.p a.v (sym c.aborts.ensures ∙ c.if-aborts.false));
      kept = c.store-stored.ensures.kept;
    }
