-- Whether a projection has the columns of a FROM item that a query uses, expression by expression.
use Rattle.std.specs.Prelude.{ℕ, ◌-◌, ◌==◌, ◌&&◌, ◌||◌, nat_le, nat_lt, Bool, true, List, map}
use Rattle.std.specs.List.{list_all, list_any}
use Rattle.std.specs.Option.{option_map_or}
use Rattle.catalog_types.specs.declared.catalogue.ProjColumn.{ProjColumn}
use Rattle.sql_bound.specs.declared.expr.Expr.{Expr}
use Rattle.sql_bound.specs.declared.expr.BoundTerm.{BoundTerm}
use Rattle.sql_bound.specs.declared.expr.Expr.TheOpen.{Expr-F, BoundTerm-F}
use Rattle.sql_bound.specs.declared.expr.Expr.TheFolds.{fold-Expr, fold-BoundTerm}
use Rattle.sql_bound.specs.declared.query.Aggregate.{Aggregate}
use Rattle.sql_bound.specs.declared.query.FromItem.{FromItem}
use Rattle.sql_bound.specs.declared.query.BoundQuery.{BoundQuery}
use Rattle.sql_bound.specs.declared.query.BoundWindow.{BoundWindow}

-- a column of all FROM items is none of this one's, or one that the projection has
abbrev pub covers_column : FromItem → List ProjColumn → ℕ → Bool
covers_column f columns i = nat_lt i f.first || (nat_le f.columns (i - f.first) || list_any (λ k. k.ordinal == i - f.first) columns)

abbrev pub covers_step : FromItem → List ProjColumn → Expr-F Bool Bool → Bool
covers_step f columns (Expr-F.Lit w) = true
covers_step f columns (Expr-F.Col i) = covers_column f columns i
covers_step f columns (Expr-F.Key i) = true
covers_step f columns (Expr-F.Agg i) = true
covers_step f columns (Expr-F.Neg a) = a
covers_step f columns (Expr-F.Sum parts) = list_all (λ b. b) parts
covers_step f columns (Expr-F.Product parts) = list_all (λ b. b) parts
covers_step f columns (Expr-F.Compare a c b) = a && b
covers_step f columns (Expr-F.IsNull a) = a
covers_step f columns (Expr-F.Not a) = a
covers_step f columns (Expr-F.And parts) = list_all (λ b. b) parts
covers_step f columns (Expr-F.Or parts) = list_all (λ b. b) parts

abbrev pub covers_term : BoundTerm-F Bool Bool → Bool
covers_term t = t.part

abbrev pub covers : FromItem → List ProjColumn → Expr → Bool
covers f columns = fold-Expr Bool Bool (covers_step f columns) covers_term

abbrev pub covers_part : FromItem → List ProjColumn → BoundTerm → Bool
covers_part f columns = fold-BoundTerm Bool Bool (covers_step f columns) covers_term

abbrev pub covers_aggregate : FromItem → List ProjColumn → Aggregate → Bool
covers_aggregate f columns a = option_map_or (covers f columns) a.arg true

abbrev pub covers_window : FromItem → List ProjColumn → BoundWindow → Bool
covers_window f columns w = list_all (covers_column f columns) w.partition && list_all (λ k. covers_column f columns k.0) w.order

abbrev pub covers_query : FromItem → List ProjColumn → BoundQuery → Bool
covers_query f columns q =
    list_all (λ b. b) (map (covers f columns) q.keep)
    && (list_all (covers_column f columns) q.keys
    && (list_all (covers_aggregate f columns) q.aggs
    && (list_all (covers_window f columns) q.windows && (q.grouped || list_all (λ b. b) (map (covers f columns) q.items)))))
