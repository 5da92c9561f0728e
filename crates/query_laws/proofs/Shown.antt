-- What is narrow over the bounds of a query's aggregates is narrow in each of its groups.
use Rattle.std.proofs.Common.{◌≡◌, true, List, map}
use Rattle.std.specs.List.{All}
use Rattle.sql_bound.specs.declared.expr.Expr.{Expr}
use Rattle.sql_bound.specs.declared.query.BoundQuery.{BoundQuery}
use Rattle.sql_bound.specs.Bounds.{bound_of_aggregate, bound_of_value, is_narrow}
use Rattle.sql_bound.specs.Values.{Scope}
use Rattle.query_laws.proofs.NarrowLess.{less}
use Rattle.query_laws.specs.Scopes.{IsGroupOf}

pub narrow_here : (q : BoundQuery) (s : Scope) (e : Expr) → IsGroupOf q s → is_narrow (map bound_of_aggregate q.aggs) e ≡ true → is_narrow (map bound_of_value s.aggs) e ≡ true
narrow_here q s e g n = less (map bound_of_value s.aggs) (map bound_of_aggregate q.aggs) g.aggs e n

pub all_narrow_here : (q : BoundQuery) (s : Scope) (es : List Expr) → IsGroupOf q s → All (λ e. is_narrow (map bound_of_aggregate q.aggs) e ≡ true) es → All (λ e. is_narrow (map bound_of_value s.aggs) e ≡ true) es
all_narrow_here q s es g n = λ k d h. narrow_here q s _ g (n k d h)
