use Rattle.std.proofs.Common.{◌≡◌, map, take}
use Rattle.sql_bound.specs.Values.{value_of}
use Rattle.expr_value.proofs.rows.items_at.Given as goal

abbrev pub invariant-loop-e : goal.invariant-loop-e
invariant-loop-e l = l.out.items ≡ map (value_of l.sight) (take l.e-index l.items)
