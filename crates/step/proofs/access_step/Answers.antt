use Rattle.step.proofs.Ready.{refused_by_lem, not_refused, tlb_ready, side_ready, fits_all}
use Rattle.refusals.proofs.Rows.{row_passed, access_accepted}
use Rattle.refusals.proofs.Numbers.{no_zero}
use Rattle.refusals.specs.Refusals.{row5, call_rows}
use Rattle.machine.specs.declared.Scalars.{Scalars}
use Rattle.machine.specs.Ready.{TlbReady, SideReady}
use Rattle.machine.proofs.Kept.{kept}
use Rattle.machine.specs.Lists.{lists_of}
use Rattle.values.specs.Counts.{count_limit}
use Rattle.values.specs.declared.Call.TheVariants.{Access}
use lib.ListN.{length}
use Prim.Native.Nat.{◌<◌}
use native.Mathlib.Omega.{arith}
use mathlib.Core.Path.{refl, sym, ◌∙◌, subst}
use Rattle.step.proofs.access_step.Goals as goal

pub returns-in-Err : goal.returns-in-Err
returns-in-Err c =
    let a = c.args in
    let l = (lists_of a.side.now) in
    let n = length a.side.now.memory.now in (
      (
        refused_by_lem l a.entries.now a.s n c.requires.3 (Access a.a) _ c.in-Err.ensures.number (no_zero c.in-Err.r) _ c.refused.ensures,
        c.requires.2,
      ),
      kept refl refl refl refl refl refl,
    )

pub serve-requires : goal.serve-requires
serve-requires c =
    let a = c.args in
    let l = (lists_of a.side.now) in
    let es = a.entries.now in
    let n = length a.side.now.memory.now in
    let low : a.s.counts.calls < count_limit = c.in_default.ensures.low in
    let k = row_passed (row5 a.s.counts.calls) (call_rows (Access a.a)) (omega arith) (sym c.in_default.ensures.number) in
    let e = sym c.counted.ensures in (
      c.requires.0,
      subst (λ (s : Scalars). TlbReady es s) e (tlb_ready l es a.s n c.requires.3 low),
      subst (λ (s : Scalars). SideReady l s) e (side_ready l es a.s n c.requires.3 low
          (fits_all l es a.s n c.requires.3 c.requires.1 c.requires.2)),
      (access_accepted a.a k.1).0,
    )

pub returns : goal.returns
returns c =
    let a = c.args in
    let n = length a.side.now.memory.now in (
      (
        rw c.counted.ensures at (c.serve.ensures.0 n)
            ∙ sym (not_refused (lists_of a.side.now) a.entries.now a.s n c.requires.3 (Access a.a) _ c.in_default.ensures.number refl),
        c.serve.ensures.1,
      ),
      c.serve.ensures.2,
    )
