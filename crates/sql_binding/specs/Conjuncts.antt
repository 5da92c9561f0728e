-- The members of a condition: an expression is split at its ANDs until none of them is one.
use Rattle.std.specs.Prelude.{List, [], ◌∷◌, map, Option}
use Rattle.std.specs.List.{flat_map}
use Rattle.std.specs.Option.{option_map_or}
use Rattle.sql_tree.specs.declared.tree.Tree.{Tree}
use Rattle.sql_bound.specs.declared.expr.Expr.{Expr}
use Rattle.sql_bound.specs.declared.expr.Expr as expr
use Rattle.sql_bound.specs.declared.expr.BoundTerm.{BoundTerm}
use Rattle.sql_bound.specs.declared.expr.Expr.TheOpen.{Expr-F, BoundTerm-F}
use Rattle.sql_bound.specs.declared.expr.Expr.TheFolds.{fold-Expr}
use Rattle.sql_binding.specs.Trees.{Scope, bound}

-- an expression with the members of its conjunction
abbrev pub parts_of : List (Expr × List Expr) → List Expr
parts_of ms = map (λ m. m.0) ms

abbrev pub alone : Expr → Expr × List Expr
alone e = (e, e ∷ [])

abbrev pub split_step : Expr-F (Expr × List Expr) (BoundTerm × List Expr) → Expr × List Expr
split_step (Expr-F.Lit w) = alone (expr.Lit w)
split_step (Expr-F.Col i) = alone (expr.Col i)
split_step (Expr-F.Key i) = alone (expr.Key i)
split_step (Expr-F.Agg i) = alone (expr.Agg i)
split_step (Expr-F.Neg a) = alone (expr.Neg a.0)
split_step (Expr-F.Sum ts) = alone (expr.Sum (map (λ t. t.0) ts))
split_step (Expr-F.Product ms) = alone (expr.Product (parts_of ms))
split_step (Expr-F.Compare a c b) = alone (expr.Compare a.0 c b.0)
split_step (Expr-F.IsNull a) = alone (expr.IsNull a.0)
split_step (Expr-F.Not a) = alone (expr.Not a.0)
split_step (Expr-F.And ms) = (expr.And (parts_of ms), flat_map (λ m. m.1) ms)
split_step (Expr-F.Or ms) = alone (expr.Or (parts_of ms))

abbrev pub split_term : BoundTerm-F (Expr × List Expr) (BoundTerm × List Expr) → BoundTerm × List Expr
split_term t = (record { minus = t.minus; part = t.part.0 }, [])

-- the members of an expression, split at its ANDs until none is one
abbrev pub conjuncts : Expr → List Expr
conjuncts e = (fold-Expr (Expr × List Expr) (BoundTerm × List Expr) split_step split_term e).1

-- the members of a condition over rows
abbrev pub members : Scope → Tree → List Expr
members s tree = conjuncts (bound s tree).row

abbrev pub condition_members : Scope → Option Tree → List Expr
condition_members s keep = option_map_or (members s) keep []
