use Rattle.values.proofs.Toward.{Toward}
use Rattle.access_table.specs.AccessTable.{access_table}
use Rattle.access_table.proofs.work_out.Given as goal

abbrev pub invariant-loop-i : goal.invariant-loop-i
invariant-loop-i l = Toward access_table l.initial.table l.table l.i
