use Rattle.access.proofs.ByKind.{loads_by, stores_by}
use Rattle.swaps.specs.Code.{store_or_swap}
use Rattle.machine.proofs.Kept.{kept}
use Rattle.machine.specs.Lists.{lists_of, machine_of}
use Prim.Native.Nat.{ℕ}
use mathlib.Core.Path.{refl, sym, ◌∙◌, ap}
use Rattle.access.proofs.passed.Goals as goal

pub returns-then-is_store : goal.returns-then-is_store
returns-then-is_store c =
    let a = c.args in
    let l = lists_of a.side.now in
    let k = c.store_or_swap.ensures a.side.now.pointers.now in (
      record {
        same = λ es n. let m = machine_of l es a.s n in k.same es n
            ∙ ap (λ (v : ℕ). store_or_swap m a.a v a.p) c.stored_value.ensures
            ∙ sym (stores_by m a.a a.p a.a.kind refl (sym c.is_store.ensures ∙ c.if-is_store.true));
        bytes_long = k.bytes_long;
      },
      kept refl c.store_or_swap.auto.memory c.store_or_swap.auto.words c.store_or_swap.auto.lines refl c.store_or_swap.auto.cached,
    )

pub returns : goal.returns
returns c =
    let a = c.args in
    let l = lists_of a.side.now in (
      record {
        same = λ es n. c.load.ensures.0.same es n
            ∙ sym (loads_by (machine_of l es a.s n) a.a a.p a.a.kind (sym c.is_store.ensures ∙ c.if-is_store.false));
        bytes_long = c.load.ensures.0.bytes_long;
      },
      c.load.ensures.1,
    )
