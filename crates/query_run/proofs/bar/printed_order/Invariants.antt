use Rattle.std.proofs.Common.{◌≡◌, drop}
use Rattle.sql_bound.specs.Printed.{printed_cmp}
use Rattle.query_run.proofs.bar.printed_order.Given as goal

abbrev pub invariant-loop-column : goal.invariant-loop-column
invariant-loop-column l = printed_cmp (drop l.column-index l.query.order) l.a l.b ≡ printed_cmp l.query.order l.a l.b
