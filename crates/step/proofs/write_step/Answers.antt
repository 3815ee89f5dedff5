use Rattle.refusals.proofs.Numbers.{no_zero}
use Rattle.step.proofs.Ready.{refused_by_lem, not_refused, clean_counted}
use Rattle.machine.specs.declared.Scalars.{Scalars}
use Rattle.machine.specs.Ready.{CleanReady}
use Rattle.machine.proofs.Kept.{kept}
use Rattle.machine.specs.Lists.{lists_of}
use Rattle.values.specs.Counts.{count_limit}
use Rattle.values.specs.declared.Call.TheVariants.{Write}
use Prim.Native.Nat.{◌<◌}
use mathlib.Core.Path.{refl, sym, ◌∙◌, subst}
use Rattle.step.proofs.write_step.Goals as goal

pub returns-in-Err : goal.returns-in-Err
returns-in-Err c =
    let a = c.args in (
      λ n k. refused_by_lem (lists_of a.side.now) a.entries.now a.s n k (Write a.t a.v) _ c.in-Err.ensures.number (no_zero c.in-Err.r) _ c.refused.ensures,
      c.requires.1,
      kept refl refl refl refl refl refl,
    )

pub write-requires : goal.write-requires
write-requires c =
    let a = c.args in
    let low : a.s.counts.calls < count_limit = c.in_default.ensures.low in (
      c.requires.0,
      subst (λ (s : Scalars). CleanReady a.side.now.memory.now a.side.now.words.now a.side.now.bytes.now a.side.now.lines.now a.side.now.store.now s)
          (sym c.counted.ensures) (clean_counted _ _ _ _ _ a.s (c.requires.2 low)),
    )

pub returns : goal.returns
returns c =
    let a = c.args in (
      λ n k. rw c.counted.ensures at (c.write.ensures.0 a.side.now.pointers.now n)
          ∙ sym (not_refused (lists_of a.side.now) a.entries.now a.s n k (Write a.t a.v) _ c.in_default.ensures.number refl),
      c.write.ensures.1,
      kept refl c.write.auto.memory c.write.auto.words c.write.auto.lines refl refl,
    )
