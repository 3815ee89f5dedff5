use Rattle.values.specs.declared.Answer.TheVariants.{Value}
use Rattle.bus.specs.Physical.{physical, aborts}
use Rattle.bus.proofs.Laws.{answers}
use Rattle.translation.specs.Faults.{buffers}
use Rattle.plain.specs.Plain.{plain_stepped}
use Rattle.plain.specs.Code.{plain_of}
use Rattle.plain.proofs.Laws.{store_in, store_drop, store_other, inside_fits, fault_steps}
use mathlib.Core.Path.{◌≡◌, sym, ◌∙◌, ap}
use mathlib.Core.Bool.{true, false}
use mathlib.Core.List.{List}
use Prim.Native.Nat.{ℕ}
use Rattle.plain.proofs.store.Goals as goal

pub returns-then-buffers : goal.returns-then-buffers
returns-then-buffers c =
    let a = c.args in
    let m = a.memory.now in
    let bad = a.bad.now in
    let h : aborts (physical m bad) a.p.address ≡ true = sym c.aborts.ensures ∙ c.if-aborts.true in
    let f : buffers a.s.registers a.p ≡ true = sym c.buffers.ensures ∙ c.if-buffers.true in
    record { same = sym (store_drop (plain_of m bad a.s) a.a a.p a.v h f); kept = c.requires.0 }

pub returns-then-aborts : goal.returns-then-aborts
returns-then-aborts c =
    let a = c.args in
    let m = a.memory.now in
    let bad = a.bad.now in
    let p = plain_of m bad a.s in
    let h : aborts (physical m bad) a.p.address ≡ true = sym c.aborts.ensures ∙ c.if-aborts.true in
    let f : buffers a.s.registers a.p ≡ false = sym c.buffers.ensures ∙ c.if-buffers.false in
    fault_steps p c.requires.0 _ _ _ _ a.p.domain a.a.address (c.faulted.ensures m bad) c.other_status.ensures
    (store_other p a.a a.p a.v h f)

pub store-requires : goal.store-requires
store-requires c =
    let a = c.args in
    let m = a.memory.now in
    let bad = a.bad.now in
    let k = c.requires.1 in
    let h = answers (physical m bad) a.p.address (sym c.aborts.ensures ∙ c.if-aborts.false) in
    (k.width, inside_fits m a.a a.p (record { placed = k; inside = h }))

pub returns : goal.returns
returns c =
    let a = c.args in
    let m = a.memory.now in
    let bad = a.bad.now in
    let h : aborts (physical m bad) a.p.address ≡ false = sym c.aborts.ensures ∙ c.if-aborts.false in
    let e = store_in (plain_of m bad a.s) a.a a.p a.v h in
    record {
      same = ap (λ (l : List ℕ). plain_stepped (plain_of l bad a.s) (Value 0)) c.store.ensures ∙ sym e;
      kept = c.requires.0;
    }
