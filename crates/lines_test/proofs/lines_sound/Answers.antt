use native.Mathlib.Omega.{arith}
use Prim.Native.Nat.{◌+◌, ◌%◌}
use mathlib.Core.Bool.{false}
use mathlib.Core.Logic.{inl, inr}
use mathlib.Core.Path.{◌≡◌, sym, ◌∙◌}
use lib.Bits.{bit_or, bit_and, and_le_l}
use lib.Dec.{eqb, ltb}
use lib.ListN.{get_or}
use borrow.Author.Rules.{rules}
use borrow.Author.Tests.{lt-ltb, le-ltb, eq-eqb}
use Rattle.values.specs.Lists.{all}
use Rattle.cache.specs.Packing.{lines_of}
use Rattle.soundness.specs.Soundness.{line_sound}
use Rattle.soundness.proofs.Lines.{
  fits,
  inside,
  odd,
  tag_out,
  end_out,
  all_in,
  odds_whole,
  joined_on,
  joined_end,
  or_below,
  and_odd,
}
use Rattle.lines_test.proofs.lines_sound.Goals as goal

pub loop-word-preserved : goal.loop-word-preserved
loop-word-preserved c = let a = c.args in
    let l = c.loop-word in
    let s = c.spare_of-spare.result in
    let w = get_or a.lines.now l.word-index 0 in
    let v = and_le_l l.valid w in (
      omega arith,
      joined_on fits a.lines.now l.word-index (ltb l.tags 0x80000000000000) (ltb (bit_or l.tags w) 0x80000000000000) (omega arith) l.invariant.1
          (or_below 55 l.tags w),
      joined_on (inside s) a.lines.now l.word-index (ltb l.ends 0x100000000) (ltb (bit_or l.ends (w % 0x100000000 + s)) 0x100000000) (omega arith)
          l.invariant.2 (or_below 32 l.ends (w % 0x100000000 + s)),
      joined_on odd a.lines.now l.word-index (eqb l.valid 1) (eqb (bit_and l.valid w) 1) (omega arith) l.invariant.3 (and_odd l.valid w l.invariant.0),
    )

pub returns-then-valid-eq1 : goal.returns-then-valid-eq1
returns-then-valid-eq1 c = let a = c.args in
    let l = c.loop-word in
    let s = c.spare_of-spare.result in
    let o = joined_end odd a.lines.now l.word-index (eqb l.valid 1) (omega arith) l.invariant.3 in
    let t = joined_end fits a.lines.now l.word-index (ltb l.tags 0x80000000000000) (omega arith) l.invariant.1 in
    let e = joined_end (inside s) a.lines.now l.word-index (ltb l.ends 0x100000000) (omega arith) l.invariant.2 in
    let h = eq-eqb l.valid 1 c.if-valid-eq1.true in
    h ∙ sym (all_in a.n s c.spare_of-spare.ensures a.lines.now (t ∙ lt-ltb l.tags 0x80000000000000 c.if-ends-lt4294967296.true.0)
    (e ∙ lt-ltb l.ends 0x100000000 c.if-ends-lt4294967296.true.1) ∙ odds_whole a.lines.now (o ∙ h))

pub returns-else-valid-eq1 : goal.returns-else-valid-eq1
returns-else-valid-eq1 c = let a = c.args in
    let l = c.loop-word in
    let s = c.spare_of-spare.result in
    let t = joined_end fits a.lines.now l.word-index (ltb l.tags 0x80000000000000) (omega arith) l.invariant.1 in
    let e = joined_end (inside s) a.lines.now l.word-index (ltb l.ends 0x100000000) (omega arith) l.invariant.2 in
    c.empties_sound.ensures ∙ sym (all_in a.n s c.spare_of-spare.ensures a.lines.now (t ∙ lt-ltb l.tags 0x80000000000000 c.if-ends-lt4294967296.true.0)
    (e ∙ lt-ltb l.ends 0x100000000 c.if-ends-lt4294967296.true.1))

pub returns-else-ends-lt4294967296 : goal.returns-else-ends-lt4294967296
returns-else-ends-lt4294967296 c = let a = c.args in
    let l = c.loop-word in
    let s = c.spare_of-spare.result in
    let g = c.spare_of-spare.ensures in
    let t = joined_end fits a.lines.now l.word-index (ltb l.tags 0x80000000000000) (omega arith) l.invariant.1 in
    let e = joined_end (inside s) a.lines.now l.word-index (ltb l.ends 0x100000000) (omega arith) l.invariant.2 in
    let out : all (line_sound a.n) (lines_of a.lines.now) ≡ false = elim c.if-ends-lt4294967296.either [
      | inl h ↦ end_out a.n s g a.lines.now (e ∙ le-ltb l.ends 0x100000000 h.1)
      | inr h ↦ tag_out a.n s g a.lines.now (t ∙ le-ltb l.tags 0x80000000000000 h)
    ] in rw out (search rules)
