use Rattle.values.specs.declared.Answer.{Answer}
use Rattle.bus.specs.Physical.{physical}
use Rattle.bus.proofs.Laws.{answers}
use Rattle.translation.specs.Faults.{fills}
use Rattle.plain.specs.Plain.{plain_stepped, plain_load_aborts}
use Rattle.plain.specs.Code.{plain_of}
use Rattle.plain.proofs.Laws.{load_answers, load_in, load_fill_lem, load_other, fault_steps}
use mathlib.Core.Path.{◌≡◌, sym, ◌∙◌, ap}
use mathlib.Core.Bool.{true, false}
use Rattle.plain.proofs.load.Goals as goal

pub returns-then-fills : goal.returns-then-fills
returns-then-fills c =
    let a = c.args in
    let m = a.memory.now in
    let bad = a.bad.now in
    let p = plain_of m bad a.s in
    let h : plain_load_aborts p a.p ≡ true = sym c.load_aborts.ensures ∙ c.if-load_aborts.true in
    let f : fills a.s.registers a.p ≡ true = sym c.fills.ensures ∙ c.if-fills.true in
    fault_steps p c.requires.0 _ _ _ _ a.p.domain a.a.address (c.faulted.ensures m bad) c.fill_status.ensures
    (load_fill_lem p a.a a.p h f)

pub returns-then-load_aborts : goal.returns-then-load_aborts
returns-then-load_aborts c =
    let a = c.args in
    let m = a.memory.now in
    let bad = a.bad.now in
    let p = plain_of m bad a.s in
    let h : plain_load_aborts p a.p ≡ true = sym c.load_aborts.ensures ∙ c.if-load_aborts.true in
    let f : fills a.s.registers a.p ≡ false = sym c.fills.ensures ∙ c.if-fills.false in
    fault_steps p c.requires.0 _ _ _ _ a.p.domain a.a.address (c.faulted-then-load_aborts.ensures m bad) c.other_status.ensures
    (load_other p a.a a.p h f)

pub loaded-requires : goal.loaded-requires
loaded-requires c =
    let a = c.args in
    let m = a.memory.now in
    let bad = a.bad.now in
    let h = load_answers (plain_of m bad a.s) a.p (sym c.load_aborts.ensures ∙ c.if-load_aborts.false) in
    record { placed = c.requires.1; inside = answers (physical m bad) a.p.address h }

pub returns : goal.returns
returns c =
    let a = c.args in
    let p = plain_of a.memory.now a.bad.now a.s in
    let h : plain_load_aborts p a.p ≡ false = sym c.load_aborts.ensures ∙ c.if-load_aborts.false in
    record {
      same = ap (λ (x : Answer). plain_stepped p x) c.loaded.ensures ∙ sym (load_in p a.a a.p h);
      kept = c.requires.0;
    }
