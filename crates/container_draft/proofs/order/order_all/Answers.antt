use Rattle.std.proofs.Common.{◌≡◌, ◌∙◌}
use Rattle.container_draft.specs.Spots.{asked_on}
use Rattle.container_draft.proofs.Widths.{widths_order}
use Rattle.container_draft.proofs.order.order_all.Goals as goal

pub returns : goal.returns
returns c =
    c.cmp.ensures
    ∙ widths_order (asked_on c.args.a.now).row (asked_on c.args.b.now).row c.width-left.result c.width-right.result c.min-column-end.result c.loop-column.column c.width-left.ensures c.width-right.ensures c.min-column-end.ensures c.loop-column.auto.column-end c.loop-column-test.false
    ∙ c.loop-column.invariant
