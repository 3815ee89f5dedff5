use Prim.Native.Nat.{ℕ}
use mathlib.Core.List.{List}
use mathlib.Core.Path.{sym, ◌∙◌, ap, subst}
use Rattle.printed.specs.Code.{Laid}
use Rattle.access_table.specs.Lines.{entry_lines}
use lib.ListN.{length}
use Rattle.access_table.proofs.Entries.{table_long}
use Rattle.access_table.proofs.put_table.Goals as goal

pub slice_bounds-put_entries-end : goal.slice_bounds-put_entries-end
slice_bounds-put_entries-end c = sym (ap length c.work_out.ensures ∙ table_long)

pub put_entries-requires : goal.put_entries-requires
put_entries-requires c = (ap length c.work_out.ensures ∙ table_long, c.requires)

pub returns : goal.returns
returns c = let p = c.put_entries in
    subst (λ (t : List ℕ). Laid c.args.out.now p.new.out 0 p.result 2048 (entry_lines 0 t)) c.work_out.ensures p.ensures
