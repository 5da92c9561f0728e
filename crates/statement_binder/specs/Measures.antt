-- Parts of the checks of types and bounds, as the code takes them.
use Rattle.std.specs.Prelude.{ℕ, ◌&&◌, Bool, true, List, []}
use Rattle.std.specs.List.{list_all}
use Rattle.std.specs.Option.{option_map_or}
use Rattle.sql_bound.specs.declared.expr.Kind.{Kind}
use Rattle.sql_bound.specs.declared.expr.BoundTerm.{BoundTerm}
use Rattle.sql_bound.specs.declared.expr.Expr.TheFolds.{fold-BoundTerm}
use Rattle.sql_bound.specs.declared.query.BoundQuery.{BoundQuery}
use Rattle.sql_bound.specs.Kinds.{Kinds, is_condition}
use Rattle.sql_bound.specs.Bounds.{bound_step, term_bound, measure_step, term_measure}
use Rattle.sql_binding.specs.Queries.{is_typed, is_typed_aggregate}

-- over rows with columns of these kinds
abbrev pub over_columns : List Kind → Kinds
over_columns columns = record { columns = columns; keys = []; aggs = [] }

-- over groups with keys and aggregates of these kinds
abbrev pub of_groups : List Kind → List Kind → Kinds
of_groups keys aggs = record { columns = []; keys = keys; aggs = aggs }

-- over tuples with columns of these kinds, beside windows of these kinds
abbrev pub of_tuples : List Kind → List Kind → Kinds
of_tuples columns aggs = record { columns = columns; keys = []; aggs = aggs }

-- each expression is typed, where the items and HAVING see these kinds
abbrev pub is_typed_in : Kinds → Kinds → BoundQuery → Bool
is_typed_in rows shown b =
    list_all (is_condition rows) b.keep
    && (list_all (is_typed_aggregate rows) b.aggs && (list_all (is_typed shown) b.items && option_map_or (is_condition shown) b.having true))

-- a part of a sum: its bound over rows, and its measure
abbrev pub term_bound_of : BoundTerm → ℕ
term_bound_of = fold-BoundTerm ℕ ℕ (bound_step []) term_bound

abbrev pub term_measure_of : BoundTerm → ℕ × Bool
term_measure_of = fold-BoundTerm (ℕ × Bool) (ℕ × Bool) (measure_step []) term_measure
