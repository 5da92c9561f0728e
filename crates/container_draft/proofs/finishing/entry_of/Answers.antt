use Rattle.container_draft.proofs.Ended.{all_within}
use Rattle.container_draft.proofs.finishing.entry_of.Goals as goal

pub returns-clause-within : goal.returns-clause-within
returns-clause-within c = all_within c.epoch_bounds-least_epoch.result.0 c.epoch_bounds-least_epoch.result.1 c.args.rows.now c.args.places.now c.epoch_bounds-least_epoch.ensures.least c.epoch_bounds-least_epoch.ensures.greatest
