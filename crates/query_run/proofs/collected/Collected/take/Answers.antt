use Rattle.std.proofs.Common.{◌<◌, ◌+◌, refl, arith}
use Rattle.sql_bound.specs.Bounds.{column_bound}
use Rattle.query_run.specs.Outputs.{IsPlain}
use Rattle.query_run.proofs.Bars.{held_barred}
use Rattle.query_run.proofs.collected.Collected.take.Goals as goal

pub returns-then-is_barred : goal.returns-then-is_barred
returns-then-is_barred c =
    let few : c.args.self.now.taken + 1 < column_bound = omega (arith, c.if-self-ge-MOST.false) in
    let plain : IsPlain c.args.query.now = record { rows = c.if-query.false; alone = c.has_windows.ensures.none c.if-has_windows.false } in
    held_barred c.args.query.now c.args.tuple.now c.args.self.now _ plain refl refl refl few (c.is_barred.ensures c.if-is_barred.true)
