use Rattle.std.proofs.Common.{◌≡◌, ◌∙◌, sym, ap, length}
use Rattle.container_draft.proofs.ByLanes.{rows_long}
use Rattle.container_draft.proofs.lanes.Lanes.len.Goals as goal

pub returns : goal.returns
returns c = ap length c.as_slice.ensures.value ∙ sym (rows_long c.self.inside.columns.items c.self.inside.epochs.items) ∙ ap length c.self.view_is
