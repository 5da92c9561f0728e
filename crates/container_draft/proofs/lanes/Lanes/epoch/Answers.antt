use Rattle.std.proofs.Common.{◌≡◌, ◌∙◌}
use Rattle.container_draft.proofs.ByLanes.{epoch_there}
use Rattle.container_draft.proofs.lanes.Lanes.epoch.Goals as goal

pub returns : goal.returns
returns c = c.epoch_in.ensures ∙ epoch_there c.self.inside.columns.items c.self.inside.epochs.items c.as_slice.result.now c.args.self.now c.args.place c.as_slice.ensures.value c.self.view_is
