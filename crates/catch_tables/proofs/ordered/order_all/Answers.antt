use Rattle.std.proofs.Common.{rules}
use Rattle.catch_tables.proofs.Keys.{more_ordered}
use Rattle.catch_tables.proofs.ordered.order_all.Goals as goal

pub loop-told-preserved : goal.loop-told-preserved
loop-told-preserved c =
    more_ordered c.args.after c.args.tables.now c.loop-told.told-index c.told-item.result c.loop-told.out.items c.push.new.self.items c.in_ok-new.field-0 (search rules) (search rules) (search rules) c.loop-told.invariant c.in_ok-new.ensures
