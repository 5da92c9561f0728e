use Rattle.write_store.proofs.Marking.{one_deleted}
use Rattle.write_store.proofs.rows.delete.Goals as goal

pub returns-clause-rows : goal.returns-clause-rows
returns-clause-rows c = one_deleted c.args.place c.args.epoch c.args.rows.now c.index-rows-place.result c.requires
