use Rattle.stores.proofs.Laws.{stores_in}
use mathlib.Core.Path.{refl, sym, ◌∙◌}
use Rattle.stores.proofs.buffer_or_drop.Goals as goal

pub returns-then-outside : goal.returns-then-outside
returns-then-outside c =
    let e = sym (c.outside.ensures c.args.bad.now) ∙ c.if-outside.true in
    rw e (record { same = refl; fits = c.requires.fits })

pub store-requires : goal.store-requires
store-requires c =
    let a = c.args in (
      c.requires.fits,
      stores_in a.memory.now a.bad.now a.words.now a.bytes.now a.used a.a a.p c.requires
          (sym (c.outside.ensures a.bad.now) ∙ c.if-outside.false),
    )

pub returns : goal.returns
returns c =
    let e = sym (c.outside.ensures c.args.bad.now) ∙ c.if-outside.false in
    rw e c.store.ensures
