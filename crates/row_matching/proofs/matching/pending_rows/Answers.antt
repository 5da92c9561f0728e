use Rattle.std.proofs.Common.{Some, None, ◌∙◌}
use Rattle.row_matching.proofs.Pendings.{rows_on}
use Rattle.row_matching.proofs.matching.pending_rows.Goals as goal

pub returns-in-Some-clause-rows : goal.returns-in-Some-clause-rows
returns-in-Some-clause-rows c = c.rows.ensures.rows ∙ rows_on c.args.name.now c.args.changes.now (Some c.in-Some.changes.now) c.in-Some.ensures

pub returns-in-None-clause-rows : goal.returns-in-None-clause-rows
returns-in-None-clause-rows c = rows_on c.args.name.now c.args.changes.now None c.in-None.ensures
