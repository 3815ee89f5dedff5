use mathlib.Core.Path.{◌≡◌, sym, ◌∙◌}
use native.Mathlib.Omega.{arith}
use Rattle.values.proofs.Toward.{toward_step, toward_all}
use Rattle.rights.specs.Rights.{at_index}
use Rattle.rights.proofs.Tables.{entry}
use Rattle.access_table.specs.AccessTable.{access_entry, access_table}
use Rattle.access_table.proofs.Entries.{table_long}
use Rattle.access_table.proofs.work_out.Goals as goal

pub loop-i-preserved : goal.loop-i-preserved
unfolding access_table
loop-i-preserved c = let l = c.loop-i in
    let low = c.loop-i-test.true in
    let long = l.invariant.long in
    let size = table_long in
    toward_step access_table c.args.table.now l.table l.i l.invariant _ 0 (omega arith) (omega (arith, size, low))
    (c.entry_at.ensures ∙ sym (entry (at_index access_entry) 256 l.i low))

pub returns : goal.returns
returns c = let l = c.loop-i in
    let e : l.i ≡ 256 = omega arith in
    toward_all access_table c.args.table.now l.table l.i l.invariant (omega arith) (table_long ∙ sym e)
