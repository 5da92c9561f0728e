use Rattle.std.proofs.Common.{◌≡◌, ◌∙◌}
use Rattle.container_draft.proofs.Full.{at_place}
use Rattle.container_draft.proofs.column.Column.cell.Goals as goal

pub returns : goal.returns
returns c = c.cell_at.ensures ∙ at_place c.self.inside.pieces.items c.as_slice.result.now c.args.place c.args.self.now c.self.invariant c.as_slice.ensures.value c.self.view_is
