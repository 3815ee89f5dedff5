use native.Mathlib.Nat.{add-zero}
use Rattle.values.specs.Lists.{first_from}
use Rattle.cache.specs.Dcache.{has_tag, find}
use Rattle.cache.specs.Packing.{lines_of}
use Rattle.cache.proofs.Lines.{tag_valid, tag_invalid, find_hit, find_on, find_end}
use mathlib.Core.Path.{sym, ◌∙◌, ap}
use native.Mathlib.Omega.{arith}
use Prim.Native.Nat.{ℕ, ◌*◌, ◌/◌, ◌%◌}
use lib.ListN.{take, drop}
use Rattle.cache.proofs.find.Goals as goal

pub next_tag-i-requires : goal.next_tag-i-requires
next_tag-i-requires c = (c.requires.0, omega arith, omega arith)

pub loop-i-init : goal.loop-i-init
loop-i-init c = let a = c.args in
    let base = a.va.0 / 32 % 16 * 32 in
    let found = c.next_tag-i.ensures in (
      found.1,
      omega arith,
      found.2,
      found.3 ∙ ap (λ (k : ℕ). first_from (has_tag (a.va.0 / 512)) k (take 32 (drop base (lines_of a.lines.now)))) (add-zero base),
    )

pub next_tag-i-requires-in-loop-i : goal.next_tag-i-requires-in-loop-i
next_tag-i-requires-in-loop-i c = (c.requires.0, c.loop-i.invariant.1, omega arith)

pub loop-i-smaller : goal.loop-i-smaller
loop-i-smaller c =
    let low = c.next_tag-i-in-loop-i.ensures.0 in
    let high = c.next_tag-i-in-loop-i.ensures.1 in
    omega arith

pub loop-i-preserved : goal.loop-i-preserved
loop-i-preserved c = let a = c.args in
    let l = c.loop-i in
    let found = c.next_tag-i-in-loop-i.ensures in (
      found.1,
      l.invariant.1,
      found.2,
      found.3
          ∙ sym (find_on a.lines.now (a.va.0 / 512) (a.va.0 / 32 % 16 * 32) l.i c.requires.0 l.invariant.1 (omega arith)
          (tag_invalid (a.va.0 / 512) _ c.if-lines-base-eq1.false)) ∙ l.invariant.3,
    )

pub returns-then-i-eq32 : goal.returns-then-i-eq32
unfolding find
returns-then-i-eq32 c = let a = c.args in
    let l = c.loop-i in
    sym (find_end a.lines.now (a.va.0 / 512) (a.va.0 / 32 % 16 * 32) l.i c.requires.0 l.invariant.1 (omega arith)) ∙ l.invariant.3

pub returns-then-lines-base-eq1 : goal.returns-then-lines-base-eq1
unfolding find
returns-then-lines-base-eq1 c = let a = c.args in
    let l = c.loop-i in
    sym (find_hit a.lines.now (a.va.0 / 512) (a.va.0 / 32 % 16 * 32) l.i c.requires.0 l.invariant.1 (omega arith)
    (tag_valid (a.va.0 / 512) _ c.if-lines-base-eq1.true (l.invariant.2 (omega arith)))) ∙ l.invariant.3
