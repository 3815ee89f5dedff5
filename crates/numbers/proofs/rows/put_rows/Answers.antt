use Rattle.std.proofs.Common.{arith, ap, ◌∙◌, length}
use Rattle.numbers.proofs.Puts.{place_on, place_room, rows_on, rows_end}
use Rattle.numbers.proofs.rows.put_rows.Goals as goal

pub loop-i-preserved : goal.loop-i-preserved
loop-i-preserved g c =
    let a = c.args in
    let l = c.loop-i in
    let r = c.row.result in
    let low = c.loop-i-test.true in
    let place = l.invariant.0 in
    let is = c.as_slice.ensures in (
      place_on a.from a.width l.at l.i place,
      λ rows h.
          rows_on rows a.n l.numbers _ l.at l.i (l.invariant.1 rows h) a.width c.put.new.numbers c.as_slice.result.now low
          (place_room a.from a.width l.at l.i place a.n (length l.numbers) low (omega (arith, c.requires.room, l.auto.numbers))) c.put.ensures
          (ap length is ∙ c.requires.wide l.i r low c.row.ensures) (is ∙ h l.i r low c.row.ensures),
    )

pub returns : goal.returns
returns g c = λ rows h. let a = c.args in let l = c.loop-i in rows_end rows a.n l.numbers _ l.at l.i (l.invariant.1 rows h) (omega arith)
