use Rattle.buffer.specs.Packing.{slots_of}
use Rattle.buffer.proofs.Joining.{newest_below, joined_left, new_inside, new_left}
use mathlib.Core.Path.{sym, ◌∙◌}
use native.Mathlib.Omega.{arith}
use Prim.Native.Nat.{◌/◌}
use Rattle.joins.proofs.store.Goals as goal

pub join-requires : goal.join-requires
join-requires c = let a = c.args in
    let f = c.requires.0 in
    let e = sym (c.newest-found.ensures a.bytes.now f.bytes_long) ∙ c.in-Some.is in (
      f.words_long,
      omega (
        arith,
        newest_below (slots_of a.words.now a.bytes.now) (a.pa.0 / 16) a.used c.in-Some.i
            e,
        f.used_low,
      ),
      c.requires.1.width_is,
      c.requires.1.in_block,
    )

pub push-requires : goal.push-requires
push-requires c = let a = c.args in
    let f = c.requires.0 in
    let e = sym (c.newest-found.ensures a.bytes.now f.bytes_long) ∙ c.in-None.is in (
      f,
      new_inside a.memory.now a.bad.now a.words.now a.bytes.now a.used f a.pa a.width a.value c.requires.1 e
          c.mask_of-mask.result c.mask_of-mask.ensures.0 c.mask_of-mask.ensures.1,
    )

pub returns-in-Some : goal.returns-in-Some
returns-in-Some c = let a = c.args in
    let f = c.requires.0 in
    let e = sym (c.newest-found.ensures a.bytes.now f.bytes_long) ∙ c.in-Some.is in
    rw (c.join.ensures.0, c.join.ensures.1)
    (joined_left a.memory.now a.bad.now a.words.now a.bytes.now a.used f a.pa a.width a.value c.requires.1
    c.in-Some.i e c.mask_of-mask.result c.mask_of-mask.ensures.0 c.mask_of-mask.ensures.1)

pub returns-in-None : goal.returns-in-None
returns-in-None c = let a = c.args in
    let f = c.requires.0 in
    let e = sym (c.newest-found.ensures a.bytes.now f.bytes_long) ∙ c.in-None.is in
    new_left a.memory.now a.bad.now a.words.now a.bytes.now a.used f a.pa a.width a.value c.requires.1 e
    c.mask_of-mask.result c.mask_of-mask.ensures.0 c.mask_of-mask.ensures.1 _ _ _ _
    c.with_store-fresh.result c.with_store-fresh.ensures c.push.ensures
