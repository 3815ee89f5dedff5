use Rattle.buffer.specs.Buffer.{good_words}
use Rattle.buffer.proofs.GoodMask.{good_all}
use mathlib.Core.Path.{◌≡◌, sym}
use Prim.Native.Nat.{◌+◌, ◌*◌}
use native.Mathlib.Omega.{arith}
use Rattle.buffer.proofs.good_mask.Goals as goal

pub returns-then-four_good : goal.returns-then-four_good
returns-then-four_good c = sym (good_all _ _ _ (c.four_good.ensures c.if-four_good.true))

pub returns : goal.returns
unfolding good_words
returns c =
    let e : c.word_mask-fourth.result ≡ c.word_mask-fourth.result + 16 * 0 = omega arith in
    rw (← c.word_mask-first.ensures.0, ← c.word_mask-second.ensures.0, ← c.word_mask-third.ensures.0, ← c.word_mask-fourth.ensures.0, ← e)
