use Rattle.std.proofs.Common.{◌≡◌, drop}
use Rattle.sql_bound.specs.Printed.{printed_cmp}
use Rattle.query_run.specs.Outputs.{items_in}
use Rattle.query_run.proofs.bar.is_before.Given as goal

abbrev pub invariant-loop-column : goal.invariant-loop-column
invariant-loop-column l = printed_cmp (drop l.column-index l.query.order) l.row (items_in l.query l.sight) ≡ printed_cmp l.query.order l.row (items_in l.query l.sight)
