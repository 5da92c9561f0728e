use Rattle.std.proofs.Common.{◌<◌, ◌+◌, refl, arith}
use Rattle.sql_bound.specs.Bounds.{column_bound}
use Rattle.exec_group.specs.Columns.{row_of}
use Rattle.query_run.proofs.Bars.{held_barred}
use Rattle.query_run.proofs.collected.Collected.take_place.Goals as goal

pub returns-then-is_barred_at : goal.returns-then-is_barred_at
returns-then-is_barred_at c =
    let few : c.args.self.now.taken + 1 < column_bound = omega (arith, c.if-self-ge-MOST.false) in
    held_barred c.args.query.now (row_of c.args.columns.now c.args.place) c.args.self.now _ c.requires.plain refl refl refl few (c.is_barred_at.ensures c.if-is_barred_at.true)
