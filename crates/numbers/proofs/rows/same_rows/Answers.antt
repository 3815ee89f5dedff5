use Rattle.std.proofs.Common.{length, arith, refl, sym, ap, ◌∙◌}
use borrow.Author.Count.{below_more}
use Rattle.values.proofs.Cases.{clash}
use Rattle.numbers.proofs.Puts.{place_on}
use Rattle.numbers.proofs.Compared.{part_at}
use Rattle.numbers.proofs.rows.same_rows.Goals as goal

pub returns-then-not-same : goal.returns-then-not-same
returns-then-not-same g c =
    let a = c.args in
    let l = c.loop-i in
    let r = c.row.result in
    let low = c.loop-i-test.true in
    let is = c.as_slice.ensures in
    let at = part_at a.numbers.now a.from a.width l.at l.i l.invariant.0 c.as_slice.result.now
    (ap length is ∙ c.requires.wide l.i r low c.row.ensures) in
    record {
      same = λ t. clash t refl;
      differs = λ t. (l.i, g.R.AsSlice.items r, low, (r, c.row.ensures, refl), λ e. clash (c.same.ensures.1 (at ∙ e ∙ sym is)) c.if-not-same.true);
    }

pub loop-i-preserved : goal.loop-i-preserved
loop-i-preserved g c =
    let a = c.args in
    let l = c.loop-i in
    let r = c.row.result in
    let low = c.loop-i-test.true in
    let is = c.as_slice.ensures in
    let at = part_at a.numbers.now a.from a.width l.at l.i l.invariant.0 c.as_slice.result.now
    (ap length is ∙ c.requires.wide l.i r low c.row.ensures) in (
      place_on a.from a.width l.at l.i l.invariant.0,
      below_more _ l.i l.invariant.1 (r, c.row.ensures, sym is ∙ sym (c.same.ensures.0 c.if-not-same.false) ∙ at),
    )

pub returns : goal.returns
returns g c = let l = c.loop-i in record { same = λ t i h. l.invariant.1 i (omega arith); differs = λ t. clash refl t }
