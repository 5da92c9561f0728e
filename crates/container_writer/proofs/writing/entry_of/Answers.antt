use Rattle.container_writer.proofs.Epochs.{all_within}
use Rattle.container_writer.proofs.writing.entry_of.Goals as goal

pub returns-clause-within : goal.returns-clause-within
returns-clause-within c = all_within c.least_epoch.result c.greatest_epoch.result c.args.rows.now c.least_epoch.ensures c.greatest_epoch.ensures
