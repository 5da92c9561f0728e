use Rattle.std.proofs.Common.{◌≡◌, drop}
use Rattle.std.specs.List.{list_all}
use Rattle.sql_bound.specs.Bounds.{is_narrow}
use Rattle.statement_binder.proofs.narrowness.are_narrow.Given as goal

abbrev pub invariant-loop-expression : goal.invariant-loop-expression
invariant-loop-expression l = list_all (is_narrow l.aggs) (drop l.expression-index l.expressions) ≡ list_all (is_narrow l.aggs) l.expressions
