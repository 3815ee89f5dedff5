-- How many entries the table has.
use mathlib.Core.Path.{◌≡◌}
use lib.ListN.{length}
use Rattle.rights.specs.Rights.{at_index}
use Rattle.rights.proofs.Tables.{tabulated_long}
use Rattle.access_table.specs.AccessTable.{access_entry, access_table}

-- the table has 256 entries
pub table_long : length access_table ≡ 256
unfolding access_table
table_long = tabulated_long (at_index access_entry) 0 256
