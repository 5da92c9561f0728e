use Rattle.std.proofs.Common.{◌≡◌, drop}
use Rattle.std.specs.List.{list_all}
use Rattle.sql_bound.specs.Values.{value_of, is_true}
use Rattle.expr_value.proofs.rows.all_true.Given as goal

abbrev pub invariant-loop-e : goal.invariant-loop-e
invariant-loop-e l =
    list_all (λ e. is_true (value_of l.sight e)) (drop l.e-index l.keep) ≡ list_all (λ e. is_true (value_of l.sight e)) l.keep
