use Rattle.std.proofs.Common.{Some, None, ◌∙◌}
use Rattle.row_matching.proofs.Pendings.{deletes_on}
use Rattle.row_matching.proofs.matching.pending_deletes.Goals as goal

pub returns-in-Some : goal.returns-in-Some
returns-in-Some c = c.deletes.ensures ∙ deletes_on c.args.name.now c.args.changes.now (Some c.in-Some.changes.now) c.in-Some.ensures

pub returns-in-None : goal.returns-in-None
returns-in-None c = deletes_on c.args.name.now c.args.changes.now None c.in-None.ensures
