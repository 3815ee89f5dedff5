use Rattle.buffer.specs.Buffer.{drained, leaving}
use Rattle.buffer.specs.Packing.{backing_of}
use Rattle.buffer.specs.Ranges.{Fits}
use Rattle.buffer.proofs.Closing.{drain_more, drain_end}
use mathlib.Core.Path.{◌≡◌, ◌∙◌, subst}
use native.Mathlib.Omega.{arith}
use Prim.Native.Nat.{ℕ, ◌+◌, ◌-◌}
use Rattle.buffer.proofs.drain.Goals as goal

pub loop-i-preserved : goal.loop-i-preserved
loop-i-preserved c = let a = c.args in
    let l = c.loop-i in
    let o = c.oldest_leaves in
    let b = backing_of a.memory.now a.bad.now a.words.now a.bytes a.used in
    let e : a.used - (l.i + 1) ≡ a.used - l.i - 1 = omega arith in (
      rw e o.ensures.fits,
      rw e (drain_more b a.used l.memory a.bad.now l.words l.left (a.used - l.i) (omega (arith, c.loop-i-test.true)) _ o.ensures.same l.invariant.1),
      o.auto.memory ∙ l.invariant.2,
      o.auto.words ∙ l.invariant.3,
    )

pub returns : goal.returns
unfolding drained
returns c = let a = c.args in
    let l = c.loop-i in
    let b = backing_of a.memory.now a.bad.now a.words.now a.bytes a.used in
    let z : a.used - l.i ≡ 0 = omega (arith, c.loop-i-test.false) in
    let f : Fits l.memory l.words l.left 0 = subst (λ (k : ℕ). Fits l.memory l.words l.left k) z l.invariant.0 in
    let g : leaving 0 (backing_of l.memory a.bad.now l.words l.left 0) ≡ leaving a.used b = subst
    (λ (k : ℕ). leaving k (backing_of l.memory a.bad.now l.words l.left k) ≡ leaving a.used b) z l.invariant.1 in
    record { same = drain_end b a.used (backing_of l.memory a.bad.now l.words l.left 0) 0 (omega arith) g; fits = f }
