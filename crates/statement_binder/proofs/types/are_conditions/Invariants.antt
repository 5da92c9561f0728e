use Rattle.std.proofs.Common.{◌≡◌, drop}
use Rattle.std.specs.List.{list_all}
use Rattle.sql_bound.specs.Kinds.{is_condition}
use Rattle.statement_binder.proofs.types.are_conditions.Given as goal

abbrev pub invariant-loop-condition : goal.invariant-loop-condition
invariant-loop-condition l = list_all (is_condition l.places) (drop l.condition-index l.keep) ≡ list_all (is_condition l.places) l.keep
