use Rattle.host.proofs.sa110_rights_table.Goals as goal

pub returns : goal.returns
returns c = c.work_out.ensures
